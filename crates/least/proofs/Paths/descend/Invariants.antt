-- `least::Paths::descend` meets its contract: each turn enters the nearest item, until none is left. Assumes nothing.
use Rattle.least.specs.Putting.{left_count}
use Rattle.least.proofs.Descending.{Falling}
use Rattle.least.proofs.Paths.descend.Given as goal

abbrev pub invariant-loop-next : goal.invariant-loop-next
invariant-loop-next l = Falling l.items l.bids l.outcome.prices l.outcome.own l.best l.self.dist l.self.via l.self.left l.next

abbrev pub decreases-loop-next : goal.decreases-loop-next
decreases-loop-next l = left_count l.self.left
