-- `least::offers` meets its contract: each turn adds the line of one bidder. Assumes nothing.
use Rattle.least.specs.Falling.{Offered}
use Rattle.least.proofs.offers.Given as goal

abbrev pub invariant-loop-b : goal.invariant-loop-b
invariant-loop-b l = Offered l.items l.bids l.seats l.b l.initial.best l.best
