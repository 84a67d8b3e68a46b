-- `differences::Part::loaded_row` meets its contract. Assumes nothing.
use Prim.Native.Nat.{ℕ, ◌+◌, min}
use mathlib.Core.Path.{refl, ap, ◌∙◌}
use mathlib.Core.List.{[]}
use native.Mathlib.Omega.{arith}
use lib.ListN.{replicate, length-replicate}
use lib.IntN.{ℤ, pos}
use Rattle.differences.specs.Shifted.{up, shifted}
use Rattle.differences.specs.Constraint.{within}
use Rattle.differences.specs.Lent.{rows_of}
use Rattle.differences.proofs.Signs.{read, smaller-is}
use Rattle.differences.proofs.Constraints.{zero_is}
use Rattle.differences.proofs.Filling.{row-start, row_more}
use Rattle.differences.proofs.Places.{zeros-at}
use Rattle.differences.proofs.Part.loaded_row.Goals as goal

pub loop-j-init : goal.loop-j-init
loop-j-init c =
    let a = c.args in
    let s = a.self.now in
    let few = s.few in
    row-start (s.items + 1) [] (within (shifted (rows_of s.numbers.now)) a.i) (replicate 33 (pos 0)) (omega arith) (length-replicate {A = ℤ} 33 (pos 0)) zeros-at (λ k. (zero_is refl).1)

pub loop-j-preserved : goal.loop-j-preserved
loop-j-preserved c =
    let a = c.args in
    let s = a.self.now in
    let at = c.loop-j in
    let t = shifted (rows_of s.numbers.now) in
    let v = smaller-is c.at.result c.range.result c.at.ensures.1 c.range.ensures.1 c.min.result c.min.ensures.value in
    row_more (s.items + 1) [] (within t a.i) at.r at.j (read c.min.result) at.invariant (omega arith)
    (v.0 ∙ ap (λ (y : ℕ). min y (up c.range.result)) c.at.ensures.0 ∙ ap (min (t a.i at.j)) c.range.ensures.0)
    v.1
