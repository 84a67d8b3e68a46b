-- `least::transposed` meets its contract: each turn fills one line. Assumes nothing.
use Rattle.bids.specs.Fit.{Small}
use Rattle.least.specs.Transposing.{Transposed}
use Rattle.least.proofs.transposed.Given as goal

abbrev pub invariant-loop-i : goal.invariant-loop-i
invariant-loop-i l = Small l.table × Transposed l.items l.bidders l.bids l.i l.table
