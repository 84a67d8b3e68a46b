-- `auction::Accepted::reduced` meets its contract: each turn fills one line. Assumes nothing.
use mathlib.Core.Path.{◌≡◌}
use lib.ListN.{length}
use Rattle.auction.specs.Reduced.{ReducedLines}
use Rattle.auction.proofs.Accepted.reduced.Given as goal

abbrev pub invariant-loop-b : goal.invariant-loop-b
invariant-loop-b l = (length l.table ≡ 2048) × ReducedLines l.self.items l.prices l.self.bids.now l.b l.table
