-- `differences::Part::loaded` meets its contract. Assumes nothing.
use Prim.Native.Nat.{◌+◌}
use mathlib.Core.List.{List, []}
use native.Mathlib.Omega.{arith}
use lib.ListN.{replicate, length-replicate}
use lib.IntN.{ℤ, pos}
use Rattle.differences.specs.Shifted.{shifted}
use Rattle.differences.specs.Constraint.{within}
use Rattle.differences.specs.Lent.{rows_of}
use Rattle.differences.proofs.Filling.{start, more, end}
use Rattle.differences.proofs.Places.{zero-table, none-small}
use Rattle.differences.proofs.Part.loaded.Goals as goal

pub loop-i-init : goal.loop-i-init
loop-i-init c =
    let s = c.args.self.now in
    start (s.items + 1) [] (within (shifted (rows_of s.numbers.now))) (replicate 33 (replicate 33 (pos 0))) (length-replicate {A = List ℤ} 33 (replicate 33 (pos 0))) zero-table

pub loop-i-preserved : goal.loop-i-preserved
loop-i-preserved c =
    let s = c.args.self.now in
    let at = c.loop-i in
    let few = s.few in
    more (s.items + 1) [] (within (shifted (rows_of s.numbers.now))) at.rows at.i c.loaded_row.result (omega arith) at.invariant (omega arith) c.loaded_row.ensures

pub invariant_of-result : goal.invariant_of-result
invariant_of-result c =
    let s = c.args.self.now in
    let at = c.loop-i in
    let few = s.few in
    record { few = omega arith; small = (end (s.items + 1) [] (within (shifted (rows_of s.numbers.now))) at.rows at.i none-small at.invariant (omega arith)).small }

pub returns : goal.returns
returns c =
    let s = c.args.self.now in
    let at = c.loop-i in
    (end (s.items + 1) [] (within (shifted (rows_of s.numbers.now))) at.rows at.i none-small at.invariant (omega arith), omega arith)
