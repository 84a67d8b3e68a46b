-- How large the numbers of a well formed record are. Assumes nothing.
use Prim.Native.Nat.{suc, ◌+◌, ◌*◌, ◌≤◌, ◌<◌}
use mathlib.Core.Path.{◌≡◌}
use mathlib.Core.Bool.{true, ◌&&◌}
use native.Mathlib.Omega.{arith}
use lib.Dec.{leb, eqb}
use borrow.Author.Tests.{leb-true, eqb-true}
use Rattle.sets.proofs.Counting.{and_left, and_right}
use Rattle.sets.proofs.Sums.{sum_bound}
use Rattle.rule.specs.Sheet.{amount, price_sum}
use Rattle.live.specs.Auction.{rounds_fit, well_formed}
use Rattle.live.specs.declared.Auction.{Auction}
use Rattle.live.specs.declared.Phase.{Phase}
use Rattle.live.specs.declared.Phase.TheVariants.{Rising, Falling, Closed}
use Rattle.live.proofs.Formed.{formed}

module _ (r : Auction) where
  sum_low : well_formed r ≡ true → price_sum r.items r.prices ≤ 4095 * r.items
  unfolding price_sum
  sum_low e = sum_bound r.items 4095 (λ k. amount r.prices (suc k)) (λ k l. (formed r e).price-max (suc k))

  -- the counts of rounds
  record Few : Type 0 where
    pub raised : r.raised ≤ 4095 * r.items
    pub lowered : r.lowered ≤ 4095 * r.items

  few-within : leb r.raised (4095 * r.items) && leb (price_sum r.items r.prices + r.lowered) (4095 * r.items) ≡ true → Few
  few-within e =
      let a = leb r.raised (4095 * r.items) in
      let b = leb (price_sum r.items r.prices + r.lowered) (4095 * r.items) in
      let l = leb-true (price_sum r.items r.prices + r.lowered) (4095 * r.items) (and_right a b e) in
      record { raised = leb-true r.raised (4095 * r.items) (and_left a b e); lowered = omega (arith, l) }

  few-at : (p : Phase) → rounds_fit p r ≡ true → well_formed r ≡ true → Few
  unfolding rounds_fit
  few-at Rising e f =
      let a = eqb r.lowered 0 in
      let b = leb (r.raised + price_sum r.items r.floors) (price_sum r.items r.prices) in
      let z = eqb-true r.lowered 0 (and_left a b e) in
      let l = leb-true (r.raised + price_sum r.items r.floors) (price_sum r.items r.prices) (and_right a b e) in
      record { raised = omega (arith, l, sum_low f); lowered = omega arith }
  few-at Falling e f = few-within e
  few-at Closed e f = few-within e

  few : well_formed r ≡ true → Few
  few e = few-at r.phase (formed r e).rounds e

  -- one round more is counted without a wrap
  pub raised-room : well_formed r ≡ true → r.raised < 4294967295
  raised-room e = let m = (formed r e).max_items in omega (arith, (few e).raised, m)

  pub lowered-room : well_formed r ≡ true → r.lowered < 4294967295
  lowered-room e = let m = (formed r e).max_items in omega (arith, (few e).lowered, m)
