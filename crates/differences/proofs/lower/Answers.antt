-- `differences::lower` meets its contract. Assumes nothing.
use mathlib.Core.Path.{◌∙◌}
use native.Mathlib.Omega.{arith}
use Rattle.differences.specs.Constraint.{lower}
use Rattle.differences.proofs.Signs.{passed}
use Rattle.differences.proofs.Constraints.{top-is, lower-is, lower-free}
use Rattle.differences.proofs.lower.Goals as goal

pub returns-in_default-false : goal.returns-in_default-false
returns-in_default-false c = let a = c.args in top-is (lower-free a.null a.p a.q c.in_default-false.is-1)

pub returns-in-true-true : goal.returns-in-true-true
unfolding lower
returns-in-true-true c =
    let a = c.args in
    let at = c.in-true-true in
    let m = c.max.ensures in
    passed c.less.result _ _ c.less.ensures (omega arith ∙ lower-is a.p a.q at.is-0 at.is-1)

pub returns-in-false-true : goal.returns-in-false-true
unfolding lower
returns-in-false-true c =
    let a = c.args in
    let at = c.in-false-true in
    passed c.less-in-false-true.result _ _ c.less-in-false-true.ensures (lower-is a.p a.q at.is-0 at.is-1)
