-- `least::raise` meets its contract: each turn raises one price. Assumes nothing.
use Prim.Native.Nat.{◌≤◌}
use native.Mathlib.Omega.{arith}
use native.Mathlib.Nat.{le_refl}
use lib.ListN.{get_or}
use Rattle.bids.specs.Fit.{Small}
use Rattle.least.proofs.raise.Goals as goal

pub overflow_add-prices : goal.overflow_add-prices
overflow_add-prices c =
    let a = c.args in
    let at = c.loop-i in
    let low : get_or a.prices.now at.i 0 ≤ 4095 = unfold Small in c.requires.2 at.i in
    omega (arith, low, at.invariant.rest at.i (le_refl at.i), c.saturating_sub.ensures, c.requires.1)
