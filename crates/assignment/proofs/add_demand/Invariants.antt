-- `assignment::add_demand` meets its contract: each turn adds the bidder for one item. Assumes nothing.
use Rattle.sets.specs.Bit.{size}
use Rattle.assignment.proofs.Demanding.{Adding}
use Rattle.assignment.proofs.add_demand.Given as goal

abbrev pub invariant-loop-rest : goal.invariant-loop-rest
invariant-loop-rest l = Adding l.initial.who l.items l.bidder l.who l.rest

abbrev pub decreases-loop-rest : goal.decreases-loop-rest
decreases-loop-rest l = size 32 l.rest
