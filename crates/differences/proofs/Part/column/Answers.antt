-- `differences::Part::column` meets its contract. Assumes nothing.
use Prim.Native.Nat.{◌+◌}
use mathlib.Core.Path.{refl}
use mathlib.Core.List.{[]}
use native.Mathlib.Omega.{arith}
use lib.ListN.{replicate, length-replicate}
use lib.IntN.{ℤ, pos}
use Rattle.differences.specs.Shifted.{shifted, column_bid}
use Rattle.differences.specs.Lent.{rows_of}
use Rattle.differences.proofs.Signs.{read, passed}
use Rattle.differences.proofs.Constraints.{zero_is}
use Rattle.differences.proofs.Filling.{row-start, row_more}
use Rattle.differences.proofs.Places.{zeros-at}
use Rattle.differences.proofs.Part.column.Goals as goal

pub loop-i-init : goal.loop-i-init
loop-i-init c =
    let s = c.args.self.now in
    let few = s.few in
    row-start (s.items + 1) [] (column_bid (shifted (rows_of s.numbers.now))) (replicate 33 (pos 0)) (omega arith) (length-replicate {A = ℤ} 33 (pos 0)) zeros-at (λ k. (zero_is refl).1)

pub loop-i-preserved : goal.loop-i-preserved
loop-i-preserved c =
    let s = c.args.self.now in
    let at = c.loop-i in
    let bids = column_bid (shifted (rows_of s.numbers.now)) in
    let v = passed c.column_bid.result _ (bids at.i) c.column_bid.ensures refl in
    row_more (s.items + 1) [] bids at.r at.i (read c.column_bid.result) at.invariant (omega arith) v.0 v.1
