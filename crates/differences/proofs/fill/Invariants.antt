-- `differences::fill` meets its contract. Assumes nothing.
use Rattle.differences.specs.Constraint.{opening_place}
use Rattle.differences.proofs.Places.{PartFilling}
use Rattle.differences.proofs.fill.Given as goal

abbrev pub invariant-loop-k : goal.invariant-loop-k
invariant-loop-k l = PartFilling (opening_place l.items) l.part l.k
