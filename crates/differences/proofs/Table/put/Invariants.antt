-- `differences::Table::put` meets its contract. Assumes nothing.
use Rattle.differences.specs.Table.{entry}
use Rattle.differences.proofs.Places.{PartFilling}
use Rattle.differences.proofs.Table.put.Given as goal

abbrev pub invariant-loop-k : goal.invariant-loop-k
invariant-loop-k l = PartFilling (entry l.self.rows) l.part l.k
