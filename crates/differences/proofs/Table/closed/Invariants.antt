-- `differences::Table::closed` meets its contract. Assumes nothing.
use mathlib.Core.Path.{◌≡◌}
use Rattle.differences.specs.Shifted.{shifted, Made, through_all}
use Rattle.differences.proofs.Table.closed.Given as goal

abbrev pub invariant-loop-k : goal.invariant-loop-k
invariant-loop-k l = Made l.fn.self.options l.fn.self.rows (through_all (shifted l.fn.self.rows) l.k) l.t.rows × (l.t.options ≡ l.fn.self.options)
