-- `differences::Part::loaded` meets its contract. Assumes nothing.
use Prim.Native.Nat.{◌+◌}
use mathlib.Core.List.{[]}
use Rattle.differences.specs.Shifted.{shifted}
use Rattle.differences.specs.Constraint.{within}
use Rattle.differences.specs.Lent.{rows_of}
use Rattle.differences.proofs.Filling.{Filling}
use Rattle.differences.proofs.Part.loaded.Given as goal

abbrev pub invariant-loop-i : goal.invariant-loop-i
invariant-loop-i l = Filling (l.self.items + 1) [] (within (shifted (rows_of l.self.numbers.now))) l.rows l.i
