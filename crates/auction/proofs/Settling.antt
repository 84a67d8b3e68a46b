-- Where the least prices lie: the close of a sheet's path, and as many rounds raised and lowered as the largest rise and the largest fall. The code's prices stand
-- in 32 places. THEORY.md 2.11. Assumes nothing.
use Prim.Native.Nat.{ℕ, suc, ◌-◌, ◌≤◌}
use mathlib.Core.Path.{◌≡◌, sym, ap, ◌∙◌, fun_ext}
use mathlib.Core.Bool.{true}
use mathlib.Core.List.{List}
use native.Mathlib.Omega.{arith}
use native.Mathlib.Nat.{zero-add}
use lib.ListN.{length, get_or, get_or-eq_default}
use Rattle.sets.specs.Lists.{places}
use Rattle.sets.proofs.Lists.{is-tabulate}
use Rattle.rule.specs.Sheet.{Sheet, amount, within_limits, greatest}
use Rattle.rule.specs.Excess.{above_floors}
use Rattle.rule.specs.Round.{State, close}
use Rattle.rule.specs.Closing.{Closing}
use Rattle.rule.proofs.Limits.{Limits, limits, amount-beyond}
use Rattle.rule.proofs.Closing.{closing-of}
use Rattle.rule.proofs.Greatest.{greatest-past}
use Rattle.rule.proofs.Path.{path-long}
use Rattle.prices.proofs.Moving.{places-amount, above_floors-places}
use Rattle.round.proofs.Narrowing.{above_floors-narrow}
use Rattle.least.specs.Least.{Least}
use Rattle.auction.proofs.LeastPrices.{least-turn, least-close}

-- what a sheet within the limits has
pub record Ready (s : Sheet) : Type 0 where
  pub limits : Limits s
  pub closing : Closing s

pub ready : (s : Sheet) → within_limits s ≡ true → Ready s
ready s e = let l = limits s e in record { limits = l; closing = closing-of s l }

-- floors and prices in 32 places: no item past the last is above its floor
pub above_floors-wide : (m : ℕ) → m ≤ 32 → (floors q : List ℕ) → length floors ≡ m → length q ≡ m → above_floors 32 (places 32 floors) (places 32 q) ≡ above_floors m floors q
above_floors-wide m lm floors q low long =
    above_floors-places m lm floors q low long 32 ∙ above_floors-narrow m floors q lm (λ j l. get_or-eq_default q 0 {n = j} (omega (arith, long, l)))

is-places : (p q : List ℕ) → length p ≡ 32 → ((i : ℕ) → amount p i ≡ amount q i) → p ≡ places 32 q
unfolding places amount
is-places p q e h = is-tabulate 32 p (λ k. get_or q k 0) 0 e (λ k l. h (suc k) ∙ ap (λ (j : ℕ). get_or q j 0) (sym (zero-add k)))

-- prices are as far over others in 32 places as in the items
pub far-is : (m : ℕ) → m ≤ 32 → (p p' q q' : List ℕ) → length p' ≡ m → ((i : ℕ) → amount p i ≡ amount p' i) → ((i : ℕ) → amount q i ≡ amount q' i)
    → greatest 32 (λ i. amount p i - amount q i) ≡ greatest m (λ i. amount p' i - amount q' i)
far-is m lm p p' q q' long ep eq =
    ap (λ (f : ℕ → ℕ). greatest 32 (λ i. f i - amount q i)) (fun_ext ep) ∙ ap (λ (f : ℕ → ℕ). greatest 32 (λ i. amount p' i - f i)) (fun_ext eq)
    ∙ greatest-past m 32 (λ i. amount p' i - amount q' i) lm (λ i l. omega (arith, amount-beyond m p' long i l))

module _ (s : Sheet) (g : Ready s) where
  abbrev c : Closing s
  c = g.closing

  abbrev lm : s.items ≤ 32
  lm = g.limits.max_items

  abbrev long : length s.start ≡ s.items
  long = g.limits.start.long

  -- the starting prices, by 32 places
  pub first-at : (first : List ℕ) → first ≡ places 32 s.start → (i : ℕ) → amount first i ≡ amount s.start i
  first-at first ef i = ap (λ (p : List ℕ). amount p i) ef ∙ places-amount s.items lm s.start long i

  pub close-long : length (close s).prices ≡ s.items
  unfolding close
  close-long = path-long s long _

  -- the least prices that the code finds: from the floors up
  module _ (last : List ℕ) (end : Least s.items s.bids s.floors last) where
    last-at : (i : ℕ) → amount last i ≡ amount c.prices i
    last-at = least-close s g.limits c last end.least

    pub last-is : last ≡ places 32 (close s).prices
    last-is = is-places last (close s).prices end.long (λ i. last-at i ∙ sym (ap (λ (t : State). amount t.prices i) c.close_is))

    -- and from the start up
    module _ (turn : List ℕ) (top : Least s.items s.bids s.start turn) where
      turn_at : (i : ℕ) → amount turn i ≡ amount c.turn i
      turn_at = least-turn s c turn top.least

      turn-long : length c.turn ≡ s.items
      turn-long = sym (ap (λ (t : State). length t.prices) c.at_turn) ∙ path-long s long c.ups

      pub raised_is : (first : List ℕ) → first ≡ places 32 s.start → (r : ℕ) → r ≡ greatest 32 (λ i. amount turn i - amount first i) → r ≡ (close s).ups
      raised_is first ef r e =
          e ∙ far-is s.items lm turn c.turn first s.start turn-long turn_at (first-at first ef) ∙ sym c.largest-rise ∙ sym (ap (λ (t : State). t.ups) c.close_is)

      pub lowered_is : (r : ℕ) → r ≡ greatest 32 (λ i. amount turn i - amount last i) → r ≡ (close s).downs
      lowered_is r e = e ∙ far-is s.items lm turn c.turn last c.prices turn-long turn_at last-at ∙ sym c.largest-fall ∙ sym (ap (λ (t : State). t.downs) c.close_is)
