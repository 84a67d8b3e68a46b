-- `differences::Table::put` meets its contract. Assumes nothing.
use Prim.Native.Nat.{◌/◌, ◌%◌}
use mathlib.Core.Path.{◌≡◌}
use mathlib.Core.List.{[]}
use native.Mathlib.Omega.{arith}
use lib.ListN.{get_or}
use lib.IntN.{ℤ, pos}
use borrow.Author.Rules.{rules}
use Rattle.differences.specs.Table.{entry}
use Rattle.differences.proofs.Signs.{read}
use Rattle.differences.proofs.Places.{part-more}
use Rattle.differences.proofs.Table.put.Goals as goal

pub loop-k-preserved : goal.loop-k-preserved
unfolding entry
loop-k-preserved c =
    let t = c.args.self.now.rows in
    let at = c.loop-k in
    let z : ℤ = get_or (get_or t (at.k / 33) []) (at.k % 33) (pos 0) in
    let e : read z ≡ z = search rules in
    part-more (entry t) at.part at.k (read z) at.invariant (omega arith) e
