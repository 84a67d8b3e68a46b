-- `differences::Part::slack_row` meets its contract. Assumes nothing.
use lib.ListN.{get_or}
use lib.IntN.{pos}
use Rattle.differences.specs.Shifted.{up, shifted, wide, RowSlack}
use Rattle.differences.specs.Lent.{rows_of}
use Rattle.differences.proofs.Part.slack_row.Given as goal

abbrev pub invariant-loop-j : goal.invariant-loop-j
invariant-loop-j l = RowSlack (shifted (rows_of l.self.numbers.now)) (λ k. up (get_or l.bids k (pos 0))) l.j l.i (wide l.m)
