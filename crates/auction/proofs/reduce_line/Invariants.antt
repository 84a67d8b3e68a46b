-- `auction::reduce_line` meets its contract: each turn fills one place. Assumes nothing.
use Rattle.auction.specs.Reduced.{ReducedTo}
use Rattle.auction.proofs.reduce_line.Given as goal

abbrev pub invariant-loop-i : goal.invariant-loop-i
invariant-loop-i l = ReducedTo l.line l.surplus l.at l.i l.initial.table l.table
