-- `assignment::wanted_by` meets its contract: each turn adds one bidder. Assumes nothing.
use Rattle.assignment.proofs.Demanding.{Wanting}
use Rattle.assignment.proofs.wanted_by.Given as goal

abbrev pub invariant-loop-b : goal.invariant-loop-b
invariant-loop-b l = Wanting l.sets l.nulls l.who l.b
