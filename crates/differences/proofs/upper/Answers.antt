-- `differences::upper` meets its contract. Assumes nothing.
use mathlib.Core.Path.{◌∙◌}
use native.Mathlib.Omega.{arith}
use Rattle.differences.specs.Constraint.{upper}
use Rattle.differences.proofs.Signs.{passed}
use Rattle.differences.proofs.Constraints.{upper_is}
use Rattle.differences.proofs.upper.Goals as goal

pub returns-in-true-true : goal.returns-in-true-true
unfolding upper
returns-in-true-true c =
    let a = c.args in
    let at = c.in-true-true in
    passed c.less.result _ _ c.less.ensures (omega arith ∙ upper_is a.p a.q at.is-0 at.is-1)

pub returns-in-true-false : goal.returns-in-true-false
unfolding upper
returns-in-true-false c =
    let a = c.args in
    let at = c.in-true-false in
    let m = c.max.ensures in
    passed c.less-in-true-false.result _ _ c.less-in-true-false.ensures (omega arith ∙ upper_is a.p a.q at.is-0 at.is-1)

pub returns-in-false-true : goal.returns-in-false-true
unfolding upper
returns-in-false-true c =
    let a = c.args in
    let at = c.in-false-true in
    passed c.less-in-false-true.result _ _ c.less-in-false-true.ensures (upper_is a.p a.q at.is-0 at.is-1)

pub returns-in-false-false : goal.returns-in-false-false
unfolding upper
returns-in-false-false c =
    let a = c.args in
    let at = c.in-false-false in
    passed c.less-in-false-false.result _ _ c.less-in-false-false.ensures (omega arith ∙ upper_is a.p a.q at.is-0 at.is-1)
