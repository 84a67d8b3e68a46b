-- `assignment::Ways::sweep` meets its contract: each turn of the loop takes the step of one mover. Assumes nothing.
use Rattle.sets.specs.Bit.{size}
use Rattle.assignment.proofs.Sweeping.{Sweeping}
use Rattle.assignment.proofs.Ways.sweep.Given as goal

abbrev pub invariant-loop-rest : goal.invariant-loop-rest
invariant-loop-rest l = Sweeping l.x l.q l.turn l.movers l.initial.self.next l.initial.self.entered l.initial.self.seen l.self.next l.self.entered l.self.seen l.rest

abbrev pub decreases-loop-rest : goal.decreases-loop-rest
decreases-loop-rest l = size 64 l.rest
