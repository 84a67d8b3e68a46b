-- `least::Paths::item_with` meets its contract: each turn looks at one place. Assumes nothing.
use native.Mathlib.Omega.{arith}
use Rattle.sets.proofs.Tests.{at-end}
use Rattle.least.specs.Steps.{WithDistance}
use Rattle.least.proofs.Distances.{same_or, with-more}
use Rattle.least.proofs.Paths.item_with.Goals as goal

pub loop-x-preserved : goal.loop-x-preserved
loop-x-preserved c =
    let a = c.args in
    let at = c.loop-x in
    with-more a.self.now.dist a.self.now.left a.low at.x at.item c.if_same.result c.max-item.result at.invariant (same_or _ _ _ _ _ c.if_same.ensures) c.max-item.ensures

pub returns : goal.returns
returns c =
    let a = c.args in
    let at = c.loop-x in
    at-end (λ k. WithDistance a.self.now.dist a.self.now.left a.low k at.item) (omega arith) (omega arith) at.invariant
