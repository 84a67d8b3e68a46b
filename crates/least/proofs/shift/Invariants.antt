-- `least::shift` meets its contract: each turn fills an item, and what the taker had is next. Assumes nothing.
use Rattle.rule.specs.Sheet.{amount}
use Rattle.least.specs.Shifting.{steps}
use Rattle.least.proofs.Walking.{Walked}
use Rattle.least.proofs.shift.Given as goal

abbrev pub invariant-loop-x : goal.invariant-loop-x
invariant-loop-x l = Walked l.k l.initial.own l.via l.first l.own l.x

abbrev pub decreases-loop-x : goal.decreases-loop-x
decreases-loop-x l = steps 66 (amount l.via) l.x
