-- `differences::Table::explained` meets its contract. Assumes nothing.
use Rattle.differences.specs.Shifted.{shifted}
use Rattle.differences.specs.Constraint.{limited}
use Rattle.differences.proofs.Filling.{Filling}
use Rattle.differences.proofs.Table.explained.Given as goal

abbrev pub invariant-loop-i : goal.invariant-loop-i
invariant-loop-i l = Filling l.self.options l.self.rows (limited (shifted l.self.rows) l.report.null l.report.set l.report.prices.now) l.rows l.i
