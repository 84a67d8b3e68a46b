-- `differences::Table::turn` meets its contract. Assumes nothing.
use Rattle.differences.specs.Shifted.{shifted, through}
use Rattle.differences.proofs.Filling.{Filling}
use Rattle.differences.proofs.Table.turn.Given as goal

abbrev pub invariant-loop-i : goal.invariant-loop-i
invariant-loop-i l = Filling l.self.options l.self.rows (through (shifted l.self.rows) l.k) l.rows l.i
