-- `least::Outcome::give_all` meets its contract: each turn gives one bidder their option. Assumes nothing.
use Rattle.least.specs.Transposing.{Given}
use Rattle.least.proofs.Outcome.give_all.Given as goal

abbrev pub invariant-loop-b : goal.invariant-loop-b
invariant-loop-b l = Given l.items l.bids l.reverse.prices l.reverse.own l.b l.self.prices l.self.own
