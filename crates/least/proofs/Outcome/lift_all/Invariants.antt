-- `least::Outcome::lift_all` meets its contract: each turn lifts one price. Assumes nothing.
use Rattle.least.specs.Lifting.{Lifted}
use Rattle.least.proofs.Outcome.lift_all.Given as goal

abbrev pub invariant-loop-x : goal.invariant-loop-x
invariant-loop-x l = Lifted l.x l.start l.initial.self.prices l.initial.self.own l.self.prices l.self.own l.waiting
