-- `differences::explained_row` meets its contract. Assumes nothing.
use Prim.Native.Nat.{min}
use mathlib.Core.Path.{◌≡◌, refl, ap, ◌∙◌}
use native.Mathlib.Omega.{arith}
use lib.ListN.{length, get_or}
use lib.IntN.{pos}
use borrow.Author.Rules.{rules}
use Rattle.differences.specs.Shifted.{up}
use Rattle.differences.proofs.Signs.{read, in_row, smaller-is}
use Rattle.differences.proofs.Filling.{row-start, row_more, row-end}
use Rattle.differences.proofs.explained_row.Invariants.{limited}
use Rattle.differences.proofs.explained_row.Goals as goal

pub loop-j-init : goal.loop-j-init
loop-j-init c =
    let a = c.args in
    let q = a.report.now in
    let p = c.requires in
    row-start a.n a.own (limited q.prices.now q.null q.set a.l a.i a.own) a.own p.0 (let z : length a.own ≡ 33 = search rules in z) (λ k. refl) (in_row a.own p.3)

pub loop-j-preserved : goal.loop-j-preserved
loop-j-preserved c =
    let a = c.args in
    let q = a.report.now in
    let at = c.loop-j in
    let j = at.j in
    let x = get_or a.own j (pos 0) in
    let v = smaller-is x c.limit.result (in_row a.own c.requires.3 j) c.limit.ensures.1 c.min.result c.min.ensures.value in
    row_more a.n a.own (limited q.prices.now q.null q.set a.l a.i a.own) at.r j (read c.min.result) at.invariant (omega arith) (v.0 ∙ ap (min (up x)) c.limit.ensures.0) v.1

pub returns : goal.returns
returns c =
    let a = c.args in
    let q = a.report.now in
    let at = c.loop-j in
    row-end a.n a.own (limited q.prices.now q.null q.set a.l a.i a.own) at.r at.j at.invariant (omega arith)
