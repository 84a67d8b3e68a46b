-- `least::seated` meets its contract: each turn adds the holder of one item. Assumes nothing.
use Rattle.least.specs.Falling.{Seated}
use Rattle.least.proofs.seated.Given as goal

abbrev pub invariant-loop-holder : goal.invariant-loop-holder
invariant-loop-holder l = Seated l.holder-index l.own l.seats
