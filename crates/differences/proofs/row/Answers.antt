-- `differences::row` meets its contract. Assumes nothing.
use mathlib.Core.Path.{◌≡◌, refl}
use lib.ListN.{length, get_or}
use lib.IntN.{pos}
use mir.Syntax.{w16}
use mir.Val.{to_z, of_z}
use borrow.Author.Rules.{rules}
use Rattle.differences.proofs.Signs.{again, in_row}
use Rattle.differences.proofs.Filling.{row-start}
use Rattle.differences.proofs.row.Invariants.{by_way}
use Rattle.differences.proofs.row.Goals as goal

pub loop-j-init : goal.loop-j-init
loop-j-init c =
    let a = c.args in
    let p = c.requires in
    row-start a.n a.own (by_way a.own a.by (to_z w16 (of_z w16 a.first))) a.own p.0 (let z : length a.own ≡ 33 = search rules in z) (λ k. refl) (in_row a.own p.2)

pub via-requires : goal.via-requires
via-requires c =
    let a = c.args in
    let p = c.requires in
    let j = c.loop-j.j in
    (again (get_or a.own j (pos 0)) (in_row a.own p.2 j), again a.first p.1, again (get_or a.by j (pos 0)) (in_row a.by p.3 j))
