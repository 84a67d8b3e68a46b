-- `least::transpose_line` meets its contract: each turn fills one place. Assumes nothing.
use Rattle.least.specs.Transposing.{TransposedTo}
use Rattle.least.proofs.transpose_line.Given as goal

abbrev pub invariant-loop-b : goal.invariant-loop-b
invariant-loop-b l = TransposedTo l.items l.bidders l.bids l.i l.b l.initial.table l.table
