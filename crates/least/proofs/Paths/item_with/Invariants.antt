-- `least::Paths::item_with` meets its contract: each turn looks at one place. Assumes nothing.
use Rattle.least.specs.Steps.{WithDistance}
use Rattle.least.proofs.Paths.item_with.Given as goal

abbrev pub invariant-loop-x : goal.invariant-loop-x
invariant-loop-x l = WithDistance l.self.dist l.self.left l.low l.x l.item
