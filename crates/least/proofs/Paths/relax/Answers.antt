-- `least::Paths::relax` meets its contract: each turn does one place, and keeps the least distance so far. Assumes nothing.
use Prim.Native.Nat.{◌≤◌, ◌<◌}
use native.Mathlib.Omega.{arith}
use lib.ListN.{get_or}
use Rattle.bids.specs.Fit.{Small}
use Rattle.least.proofs.Distances.{same_or, reached-more, lowest-more}
use Rattle.least.proofs.Paths.relax.Goals as goal

pub overflow_add-u : goal.overflow_add-u
overflow_add-u c =
    let low : get_or c.args.prices.now c.loop-x.x 0 ≤ 4095 = unfold Small in c.requires.1 c.loop-x.x in
    omega (arith, low, c.requires.2)

pub loop-x-preserved : goal.loop-x-preserved
loop-x-preserved c =
    let a = c.args in
    let at = c.loop-x in
    let lt : at.x < 64 = omega arith in (
      reached-more a.u a.j a.line.now a.prices.now a.self.now.dist a.self.now.via at.x at.self.dist at.self.via lt at.invariant.0 c.saturating_sub.result c.smaller-d.result c.if_same.result
          c.saturating_sub.ensures c.smaller-d.ensures (same_or _ _ _ _ _ c.if_same.ensures),
      lowest-more at.self.dist at.self.left at.x at.low c.smaller-d.result c.if_same-in-loop-x.result c.smaller-low.result (omega (arith, lt, at.invariant.0.long_dist)) at.invariant.1
          (same_or _ _ _ _ _ c.if_same-in-loop-x.ensures) c.smaller-low.ensures (omega (arith, c.smaller-low.ensures, at.invariant.2)),
      omega (arith, c.smaller-low.ensures, at.invariant.2),
      at.invariant.3,
    )
