-- `differences::Table::good` meets its contract. Assumes nothing.
use Prim.Native.Nat.{ℕ, ◌<◌}
use mathlib.Core.Path.{◌≡◌}
use mathlib.Core.Bool.{true}
use Rattle.differences.specs.Shifted.{shifted, good_row}
use Rattle.differences.proofs.Table.good.Given as goal

abbrev pub invariant-loop-i : goal.invariant-loop-i
invariant-loop-i l = (h : ℕ) → h < l.i → good_row (shifted l.self.rows) l.self.options h ≡ true
