-- `assignment::Ways::shift` meets its contract: the way comes nearer to its end with each move. Assumes nothing.
use lib.ListN.{get_or}
use Rattle.assignment.specs.Turn.{Way}
use Rattle.assignment.proofs.Walking.{Walking}
use Rattle.assignment.proofs.Ways.shift.Given as goal

abbrev pub invariant-loop-p : goal.invariant-loop-p
invariant-loop-p l = (s : Way l.fn.x l.self.next l.self.entered l.spare (get_or l.fn.x l.k 0) l.i l.k) → Walking s l.p l.x

abbrev pub decreases-loop-p : goal.decreases-loop-p
decreases-loop-p l = get_or l.self.entered l.p 0
