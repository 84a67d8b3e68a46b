-- `differences::Table::good_row` meets its contract. Assumes nothing.
use Prim.Native.Nat.{ℕ, ◌<◌}
use mathlib.Core.Path.{◌≡◌}
use mathlib.Core.Bool.{true}
use lib.Dec.{eqb}
use Rattle.differences.specs.Shifted.{shifted, good_place}
use Rattle.differences.proofs.Table.good_row.Given as goal

abbrev pub invariant-loop-j : goal.invariant-loop-j
invariant-loop-j l = (h : ℕ) → h < l.j → good_place (eqb l.i h) (shifted l.self.rows l.i h) ≡ true
