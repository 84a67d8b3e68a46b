-- `least::Outcome::put_all` meets its contract: each turn puts in one bidder, if they wait. Assumes nothing.
use Rattle.least.specs.Putting.{Put}
use Rattle.least.proofs.Joining.{in_at}
use Rattle.least.proofs.Outcome.put_all.Given as goal

abbrev pub invariant-loop-k : goal.invariant-loop-k
invariant-loop-k l = Put l.items l.bids (in_at l.bidders l.waiting l.k) l.initial.self.prices l.initial.self.own l.self.prices l.self.own
