-- `assignment::reported` meets its contract: the sets of the first bidders stand before empty ones. Assumes nothing.
use native.Mathlib.Omega.{arith}
use Rattle.assignment.proofs.Completing.{own-known, own-idle}
use Rattle.assignment.proofs.reported.Goals as goal

pub returns : goal.returns
returns c =
    let a = c.args in
    let own = c.copy_from_slice in
    (own-known a.n c.requires a.sets.now (omega arith) own.new.self own.ensures.after, own-idle a.n c.requires a.sets.now (omega arith) own.new.self own.ensures.after)
