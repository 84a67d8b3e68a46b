-- `differences::Part::loaded_row` meets its contract. Assumes nothing.
use Prim.Native.Nat.{◌+◌}
use mathlib.Core.List.{[]}
use Rattle.differences.specs.Shifted.{shifted}
use Rattle.differences.specs.Constraint.{within}
use Rattle.differences.specs.Lent.{rows_of}
use Rattle.differences.proofs.Filling.{RowFilling}
use Rattle.differences.proofs.Part.loaded_row.Given as goal

abbrev pub invariant-loop-j : goal.invariant-loop-j
invariant-loop-j l = RowFilling (l.self.items + 1) [] (within (shifted (rows_of l.self.numbers.now)) l.i) l.r l.j
