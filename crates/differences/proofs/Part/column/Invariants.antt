-- `differences::Part::column` meets its contract. Assumes nothing.
use Prim.Native.Nat.{◌+◌}
use mathlib.Core.List.{[]}
use Rattle.differences.specs.Shifted.{shifted, column_bid}
use Rattle.differences.specs.Lent.{rows_of}
use Rattle.differences.proofs.Filling.{RowFilling}
use Rattle.differences.proofs.Part.column.Given as goal

abbrev pub invariant-loop-i : goal.invariant-loop-i
invariant-loop-i l = RowFilling (l.self.items + 1) [] (column_bid (shifted (rows_of l.self.numbers.now))) l.r l.i
