-- `demands::demands_at` meets its contract. Each turn collects one bidder's demand. Assumes nothing.
use lib.ListN.{length}
use Rattle.demands.proofs.Demanding.{Complete, Collected}
use Rattle.demands.proofs.demands_at.Given as goal

abbrev pub invariant-loop-b : goal.invariant-loop-b
invariant-loop-b l = Complete l.items l.bidders (length l.bids) × Collected l.items l.bidders l.prices l.bids l.sets l.nulls l.surpluses l.b
