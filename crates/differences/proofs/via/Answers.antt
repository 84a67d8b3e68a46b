-- `differences::via` meets its contract. Assumes nothing.
use mathlib.Core.Path.{sym, subst}
use mir.Syntax.{w16}
use mir.Val.{SFits}
use Rattle.differences.proofs.Signs.{bothback, sum-sfits, via-is}
use Rattle.differences.proofs.via.Goals as goal

pub overflow_add-y : goal.overflow_add-y
overflow_add-y c =
    let a = c.args in
    let p = c.requires in
    subst (SFits w16) (sym (bothback a.y a.z p.1 p.2)) (sum-sfits a.y a.z p.1 p.2)

pub returns : goal.returns
returns c =
    let a = c.args in
    let p = c.requires in
    via-is a.x a.y a.z p.0 p.1 p.2 c.max.result c.min.result c.max.ensures.value c.min.ensures.value
