-- `matching::Matcher::free_item` meets its contract. Assumes nothing.
use Rattle.sets.specs.Bit.{size}
use Rattle.matching.proofs.Looking.{Looked}
use Rattle.matching.proofs.Matcher.free_item.Given as goal

abbrev pub invariant-loop-rest : goal.invariant-loop-rest
invariant-loop-rest l = Looked l.items l.self.holder l.rest

abbrev pub decreases-loop-rest : goal.decreases-loop-rest
decreases-loop-rest l = size 32 l.rest
