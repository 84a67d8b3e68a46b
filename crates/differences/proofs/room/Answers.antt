-- `differences::room` meets its contract. Assumes nothing.
use mathlib.Core.Path.{sym, subst}
use mir.Syntax.{w16}
use mir.Val.{SFits}
use Rattle.differences.proofs.Signs.{bothback, sum-sfits}
use Rattle.differences.proofs.Quick.{read_fits, read-room}
use Rattle.differences.proofs.room.Goals as goal

pub overflow_add-result : goal.overflow_add-result
overflow_add-result c =
    let a = c.args in
    let p = c.requires in
    subst (SFits w16) (sym (bothback a.y a.z p.1 p.2)) (sum-sfits a.y a.z p.1 p.2)

pub overflow_sub-result : goal.overflow_sub-result
overflow_sub-result c = let a = c.args in let p = c.requires in read_fits a.x a.y a.z p.0 p.1 p.2

pub returns : goal.returns
returns c = let a = c.args in let p = c.requires in read-room a.x a.y a.z p.0 p.1 p.2
