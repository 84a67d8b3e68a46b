-- The last clauses of number 11, phase by phase: the counts of rounds, and the close. Assumes nothing.
use Prim.Native.Nat.{ℕ, ◌+◌, ◌*◌, ◌≤◌, ◌<◌}
use mathlib.Core.Path.{◌≡◌, refl}
use mathlib.Core.Bool.{Bool, true, false, ◌&&◌, not, true≢false, false≢true}
use lib.Dec.{leb, eqb}
use borrow.Author.Tests.{eq-eqb, ne_eqb, le-leb, lt-leb}
use Rattle.rule.specs.Sheet.{price_sum}
use Rattle.live.specs.Auction.{rounds_fit, close_fits, missing, rising_set, falling_set}
use Rattle.live.specs.Calls.{is_closed}
use Rattle.live.specs.declared.Auction.{Auction}
use Rattle.live.specs.declared.Phase.{Phase}
use Rattle.live.specs.declared.Phase.TheVariants.{Rising, Falling, Closed}

-- no round was lowered, and the rounds raised are within the sum of prices less floors
abbrev pub rises : Auction → Bool
rises r = eqb r.lowered 0 && leb (r.raised + price_sum r.items r.floors) (price_sum r.items r.prices)

-- both counts are within 4,095 × items
abbrev pub within : Auction → Bool
within r = leb r.raised (4095 * r.items) && leb (price_sum r.items r.prices + r.lowered) (4095 * r.items)

module _ (r : Auction) where
  pub raised-over : 4095 * r.items < r.raised → false ≡ within r
  raised-over l = simp (lt-leb r.raised (4095 * r.items) l)

  pub lowered-test : (sum : ℕ) → sum ≡ price_sum r.items r.prices → r.raised ≤ 4095 * r.items → leb (sum + r.lowered) (4095 * r.items) ≡ within r
  lowered-test sum e l = simp (le-leb r.raised (4095 * r.items) l, e)

  pub was-lowered : (r.lowered ≡ 0 → ⊥) → false ≡ rises r
  was-lowered ne = simp (ne_eqb r.lowered 0 ne)

  pub raised-test : (sum least : ℕ) → sum ≡ price_sum r.items r.prices → least ≡ price_sum r.items r.floors → r.lowered ≡ 0
      → leb (r.raised + least) sum ≡ rises r
  raised-test sum least e f z = simp (eq-eqb r.lowered 0 z, e, f)

  pub rises-test : r.phase ≡ Rising → rises r ≡ rounds_fit r.phase r
  unfolding rounds_fit
  rises-test p = simp p

  pub falls-test : r.phase ≡ Falling → within r ≡ rounds_fit r.phase r
  unfolding rounds_fit
  falls-test p = simp p

  pub closed-test : r.phase ≡ Closed → within r ≡ rounds_fit r.phase r
  unfolding rounds_fit
  closed-test p = simp p

  -- ---- the close

  pub not-closed : is_closed r.phase ≡ false → true ≡ close_fits r.phase r
  unfolding close_fits
  not-closed e = go r.phase e
    where
      go : (p : Phase) → is_closed p ≡ false → true ≡ close_fits p r
      go Rising e = refl
      go Falling e = refl
      go Closed e = absurd (true≢false e)

  pub closed-by : is_closed r.phase ≡ true → not (missing r) && eqb (rising_set r) 0 && eqb (falling_set r) 0 ≡ close_fits r.phase r
  unfolding close_fits
  closed-by e = go r.phase e
    where
      go : (p : Phase) → is_closed p ≡ true → not (missing r) && eqb (rising_set r) 0 && eqb (falling_set r) 0 ≡ close_fits p r
      go Rising e = absurd (false≢true e)
      go Falling e = absurd (false≢true e)
      go Closed e = refl
