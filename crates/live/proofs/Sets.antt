-- The two sets of a record whose unused places and bits are zero: what round finds at 32 items and 64 bidders holds at the record's own counts. Assumes
-- nothing.
use Prim.Native.Nat.{ℕ, suc, ◌^◌, ◌≤◌, ◌<◌}
use mathlib.Core.Path.{◌≡◌, ap, ◌∙◌}
use mathlib.Core.Bool.{Bool, true, false, ◌&&◌, not}
use mathlib.Core.List.{List}
use mathlib.Core.Logic.{◌⊎◌, inl, inr}
use native.Mathlib.Omega.{arith}
use lib.Dec.{leb, eqb}
use lib.ListN.{length, get_or, get_or-eq_default}
use borrow.Author.Tests.{le-leb, eqb-true}
use Rattle.sets.specs.Bit.{has}
use Rattle.sets.specs.Count.{to_nat, any_below}
use Rattle.sets.proofs.Counting.{lt-or-le, and_right, and_both, is_false, not-both, any-make}
use Rattle.sets.proofs.Members.{is_set-small}
use Rattle.rule.specs.Sheet.{amount}
use Rattle.rule.specs.Excess.{excess_demand, excess_supply, above_floors}
use Rattle.rule.specs.Round.{raise}
use Rattle.round.specs.Reports.{reports, Reported}
use Rattle.prices.specs.Prices.{raise_places}
use Rattle.round.proofs.Narrowing.{above_floors-lt, above_floors-narrow, rising-narrow, falling-narrow}
use Rattle.prices.proofs.Moving.{raise-room}
use Rattle.reports.specs.Report.{is_empty, beyond}
use Rattle.live.specs.Auction.{place, items_above, reports_of, rising_set, falling_set, prices_fit}
use Rattle.live.specs.Tidy.{Tidy}
use Rattle.live.specs.declared.Auction.{Auction}
use Rattle.live.proofs.Formed.{items-range, bidders-placed, prices-use, past-items-use, past-bidders-use, bits-use}

-- what an array is: so many places, of so many bits each
pub record Sets (l : List ℕ) : Type 0 where
  pub long : length l ≡ 64
  pub fit : (b : ℕ) → get_or l b 0 < 2 ^ 32

-- the items of price above the floor are items
pub above-lt : (r : Auction) → items_above r < 2 ^ r.items
unfolding items_above
above-lt r = above_floors-lt r.items r.floors r.prices

module _ (r : Auction) (t : Tidy r) where
  -- no place has an item beyond the count
  not_beyond : (b : ℕ) → b < 64 → (k : ℕ) → r.items ≤ k → k < 32 → has (get_or r.sets b 0) (suc k) ≡ false
  not_beyond b l k m k32 = is_false (has (get_or r.sets b 0) (suc k)) (λ h. not-both (any_below 32 past) (any-make 32 past k k32 (there h)) (bits_none))
    where
      past : ℕ → Bool
      past j = leb r.items j && has (get_or r.sets b 0) (suc j)

      there : has (get_or r.sets b 0) (suc k) ≡ true → leb r.items k && has (get_or r.sets b 0) (suc k) ≡ true
      there h = and_both (leb r.items k) (has (get_or r.sets b 0) (suc k)) (le-leb r.items k m) h

      bits_none : any_below 32 (λ j. leb r.items j && has (get_or r.sets b 0) (suc j)) ≡ false
      bits_none = unfold beyond place in bits-use r t.bits b l

  -- past the bidders the places are empty
  idle : length r.sets ≡ 64 → (b : ℕ) → r.bidders ≤ b → get_or r.sets b 0 ≡ 0
  unfolding is_empty place
  idle e b l = go (lt-or-le b 64)
    where
      go : (b < 64) ⊎ (64 ≤ b) → get_or r.sets b 0 ≡ 0
      go (inl q) =
          eqb-true (get_or r.sets b 0) 0
          (and_right (not (has r.nulls (suc b))) (eqb (get_or r.sets b 0) 0) (past-bidders-use r t.places b q l).0)
      go (inr q) = get_or-eq_default r.sets 0 {n = b} (omega (arith, e, q))

  pub reported : Sets r.sets → Reported r.items r.bidders r.sets
  unfolding has
  reported s =
      let most = bidders-placed r t.counts in
      record {
        max_items = (items-range r t.counts).1;
        max_bidders = most;
        small = λ b l. is_set-small 32 r.items (get_or r.sets b 0) (items-range r t.counts).1 (s.fit b) (not_beyond b (omega (arith, l, most)));
        idle = idle s.long;
      }

  pub rising-here : Sets r.sets → excess_demand 32 (reports 64 r.sets r.nulls) ≡ rising_set r
  unfolding rising_set reports_of
  rising-here s = rising-narrow r.items r.bidders r.sets (reported s) r.nulls

  pub above-here : length r.prices ≡ 32 → above_floors 32 r.floors r.prices ≡ items_above r
  unfolding items_above
  above-here e = above_floors-narrow r.items r.floors r.prices (items-range r t.counts).1 (λ k l. go k l (lt-or-le k 32))
    where
      go : (k : ℕ) → r.items ≤ k → (k < 32) ⊎ (32 ≤ k) → get_or r.prices k 0 ≡ 0
      go k l (inl q) = unfold amount in past-items-use r t.prices k q l
      go k l (inr q) = get_or-eq_default r.prices 0 {n = k} (omega (arith, e, q))

  pub falling-here : Sets r.sets → (above : ℕ) → above ≡ items_above r → excess_supply 32 above (reports 64 r.sets r.nulls) ≡ falling_set r
  unfolding falling_set reports_of
  falling-here s above q =
      ap (λ (x : ℕ). excess_supply 32 x (reports 64 r.sets r.nulls)) q
      ∙ falling-narrow r.items r.bidders r.sets (reported s) r.nulls (items_above r) (above-lt r)

-- prices within 4,095 have room for one more
to_nat-one : (b : Bool) → to_nat b ≤ 1
to_nat-one true = omega arith
to_nat-one false = omega arith

pub raised-here : (r : Auction) → prices_fit r ≡ true → (set : ℕ) → raise_places r.prices set ≡ raise 32 r.prices set
raised-here r e set = raise-room r.prices set (λ i. omega (arith, prices-use r e i, to_nat-one (has set i)))
