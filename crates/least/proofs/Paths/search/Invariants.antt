-- `least::Paths::search` meets its contract: each turn enters the nearest item, as long as somebody holds it. Assumes nothing.
use mathlib.Core.Path.{◌≡◌}
use Rattle.least.specs.Steps.{at_option}
use Rattle.least.specs.Putting.{left_count, Seeking}
use Rattle.least.proofs.Paths.search.Given as goal

abbrev pub invariant-loop-h : goal.invariant-loop-h
invariant-loop-h l = (l.h ≡ at_option 0 l.outcome.own l.next) × Seeking l.items l.k l.bids l.outcome.prices l.outcome.own l.self.dist l.self.via l.self.left l.null l.last l.next

abbrev pub decreases-loop-h : goal.decreases-loop-h
decreases-loop-h l = left_count l.self.left
