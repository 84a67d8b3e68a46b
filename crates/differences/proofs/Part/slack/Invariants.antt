-- `differences::Part::slack` meets its contract. Assumes nothing.
use Prim.Native.Nat.{ℕ, ◌+◌, ◌<◌}
use Rattle.differences.specs.Shifted.{shifted, wide, column_bid, RowSlack}
use Rattle.differences.specs.Lent.{rows_of}
use Rattle.differences.proofs.Part.slack.Given as goal

abbrev pub invariant-loop-i : goal.invariant-loop-i
invariant-loop-i l = (k : ℕ) → k < l.i → RowSlack (shifted (rows_of l.self.numbers.now)) (column_bid (shifted (rows_of l.self.numbers.now))) (l.self.items + 1) k (wide l.m)
