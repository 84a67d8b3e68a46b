-- Along a sheet's path: what the code finds at the prices of a round is the round's reason, and what it moves them to are the prices of the next. Assumes nothing.
use Prim.Native.Nat.{ℕ, ◌+◌, ◌-◌, ◌^◌, ◌≤◌, ◌<◌}
use mathlib.Core.Path.{◌≡◌, refl, sym, ap, ap₂, ◌∙◌, subst}
use mathlib.Core.Bool.{Bool, true, false}
use mathlib.Core.List.{List}
use native.Mathlib.Omega.{arith}
use native.Mathlib.Numerals.{add-one}
use lib.Dec.{leb}
use lib.ListN.{length}
use borrow.Author.Tests.{leb-true, leb-false}
use Rattle.sets.specs.Count.{to_nat}
use Rattle.sets.specs.Bit.{has}
use Rattle.sets.specs.Lists.{places}
use Rattle.rule.specs.Sheet.{Sheet, amount}
use Rattle.rule.specs.Demand.{Demand, demands, surpluses}
use Rattle.rule.specs.Excess.{above_floors}
use Rattle.rule.specs.Round.{Round, lowered, State, move, opening, after, path, close}
use Rattle.rule.specs.Closing.{demands_at, excess_supply_at, round_of, Closing}
use Rattle.rule.specs.Reasons as rule
use Rattle.rule.specs.Reasons.{reason_of, reason_at, round_count}
use Rattle.rule.proofs.Largest.{demand-bound, supply-bound}
use Rattle.rule.proofs.Reasons.{count-is}
use Rattle.prices.proofs.Moving.{places-amount, demands-places, above_floors-places, raise-room, raise-places, lower-places}
use Rattle.rule.proofs.Path.{path-long}
use Rattle.auction.proofs.Settling.{Ready, above_floors-wide}
use Rattle.reasons.specs.Sheets.{reason_line}
use Rattle.reasons.specs.Steps.{move_of, moving_set, move_by, ReasonIs, prices_after}
use Rattle.reasons.specs.declared.Move.{Move}
use Rattle.reasons.specs.declared.Move.TheVariants.{Rise, Fall}
use Rattle.reasons.specs.declared.Reason.{Reason}
use Rattle.reasons.proofs.Lines.{line_of}

-- `low` are the floors, as the code holds them
module _ (s : Sheet) (g : Ready s) (low : List ℕ) (floored : low ≡ places 32 s.floors) where
  abbrev c : Closing s
  c = g.closing

  abbrev items : ℕ
  items = s.items

  abbrev most : s.items ≤ 32
  most = g.limits.max_items

  long : (k : ℕ) → length (path s k).prices ≡ s.items
  long k = path-long s g.limits.start.long k

  pub at-start : (p : List ℕ) → p ≡ places 32 s.start → p ≡ places 32 (path s 0).prices
  unfolding path opening after
  at-start p e = e

  -- round k + 1, at prices that the code holds in 32 places
  module _ (k : ℕ) (l : k < round_count s) (p : List ℕ) (here : p ≡ places 32 (path s k).prices) where
    abbrev q : List ℕ
    q = (path s k).prices

    in-places : (i : ℕ) → amount (places 32 q) i ≡ amount q i
    in-places = places-amount items most q (long k)

    above_is : above_floors items low p ≡ above_floors items s.floors q
    above_is = ap₂ (above_floors items) floored here ∙ above_floors-places items most s.floors q g.limits.floors.long (long k) items

    pub past-items : above_floors 32 low p ≡ above_floors s.items low p
    past-items =
        ap₂ (above_floors 32) floored here ∙ above_floors-wide items most s.floors q g.limits.floors.long (long k) ∙ sym above_is

    module _ (step : Move) (turned : step ≡ move_of (leb (close s).ups k)) where
      abbrev set : ℕ
      set = moving_set step items (above_floors items s.floors q) (demands_at s q)

      -- the rounds to the turn raise, the others lower
      round_is : round_of s k ≡ move_by step set
      round_is =
          subst (λ (x : Move). round_of s k ≡ move_by x (moving_set x items (above_floors items s.floors q) (demands_at s q))) (sym turned)
          (by (leb (close s).ups k) refl)
        where
          ups-is : (close s).ups ≡ c.ups
          ups-is = ap (λ (t : State). t.ups) c.close_is

          by : (f : Bool) → f ≡ leb (close s).ups k → round_of s k ≡ move_by (move_of f) (moving_set (move_of f) items (above_floors items s.floors q) (demands_at s q))
          by false e = c.rises k (omega (arith, ups-is, leb-false (close s).ups k (sym e)))
          by true e =
              let since : k ≡ c.ups + (k - c.ups) = omega (arith, ups-is, leb-true (close s).ups k (sym e)) in
              subst (λ (j : ℕ). round_of s j ≡ lowered (excess_supply_at s (path s j).prices)) (sym since)
              (c.falls (k - c.ups) (omega (arith, since, l, count-is s c)))

      set-small : set < 2 ^ items
      set-small = by step
        where
          by : (f : Move) → moving_set f items (above_floors items s.floors q) (demands_at s q) < 2 ^ items
          by Rise = demand-bound items (demands_at s q)
          by Fall = supply-bound items (above_floors items s.floors q) (demands_at s q)

      module _ (r : Reason) (found : ReasonIs s.items (above_floors s.items low p) (demands s.items s.bids p) (surpluses s.items s.bids p) step r) where
        -- at the path's own prices
        found-there : ReasonIs items (above_floors items s.floors q) (demands_at s q) (surpluses s.items s.bids p) step r
        found-there =
            subst (λ (ds : List Demand). ReasonIs items (above_floors items s.floors q) ds (surpluses s.items s.bids p) step r)
            (ap (demands items s.bids) here ∙ demands-places items most q (long k) s.bids)
            (subst (λ (a : ℕ). ReasonIs items a (demands items s.bids p) (surpluses s.items s.bids p) step r)
            above_is found)

        pub line-is : reason_line (k + 1) (record { kind = r.kind; items = r.items; bidders = r.bidders }) ≡ line_of s k
        unfolding reason_at
        line-is =
            ap (reason_line (k + 1))
            (ap₂ (λ (a b : ℕ). made a b r.bidders) found-there.kind found-there.items ∙ ap (made there.kind there.items) found-there.bidders
            ∙ ap (reason_of items (demands_at s q)) (sym round_is))
          where
            made : ℕ → ℕ → ℕ → rule.Reason
            made a b w = record { kind = a; items = b; bidders = w }

            there : rule.Reason
            there = reason_of items (demands_at s q) (move_by step set)

        set_is : r.items ≡ set
        unfolding reason_of
        set_is = found-there.items ∙ by step
          where
            by : (f : Move) → (reason_of items (demands_at s q) (move_by f set)).items ≡ set
            by Rise = refl
            by Fall = refl

        -- the next round's prices
        pub next-is : (next : List ℕ) → next ≡ prices_after step p r.items → next ≡ places 32 (path s (k + 1)).prices
        unfolding path after move
        next-is next e =
            e ∙ ap₂ (prices_after step) here set_is ∙ by step set set-small
            ∙ ap (λ (x : Round). places 32 (move items (path s k) x).prices) (sym round_is) ∙ ap (λ (j : ℕ). places 32 (path s j).prices) (sym (add-one k))
          where
            one : (b : Bool) → to_nat b ≤ 1
            one true = omega arith
            one false = omega arith

            by : (f : Move) (x : ℕ) → x < 2 ^ items → prices_after f (places 32 q) x ≡ places 32 (move items (path s k) (move_by f x)).prices
            by Rise x lx = raise-room (places 32 q) x (λ i. omega (arith, in-places i, c.range k i, one (has x i))) ∙ raise-places items most q (long k) x lx
            by Fall x lx = lower-places items most q (long k) x lx
