-- `differences::Part::slack_row` meets its contract. Assumes nothing.
use mathlib.Core.Path.{◌≡◌, refl, ap}
use native.Mathlib.Omega.{arith}
use lib.ListN.{get_or}
use lib.IntN.{pos}
use mir.Syntax.{w16}
use mir.Val.{to_z}
use borrow.Author.Rules.{rules}
use Rattle.differences.specs.Shifted.{up, shifted, wide}
use Rattle.differences.specs.Lent.{rows_of}
use Rattle.differences.proofs.Signs.{read, back, again, in_row, passed}
use Rattle.differences.proofs.Quick.{small-wide, least-is, slack-start, slack-next}
use Rattle.differences.proofs.Part.slack_row.Goals as goal

pub loop-j-init : goal.loop-j-init
loop-j-init c =
    let a = c.args in
    let x = get_or a.bids a.i (pos 0) in
    let small = in_row a.bids c.requires.1 a.i in
    let e = ap wide (back x small) in
    let f = small-wide x small in
    slack-start (shifted (rows_of a.self.now.numbers.now)) (λ k. up (get_or a.bids k (pos 0))) a.i (wide (read x)) (omega arith)

pub room-requires : goal.room-requires
room-requires c =
    let a = c.args in
    let small = in_row a.bids c.requires.1 in
    (again (get_or a.bids a.i (pos 0)) (small a.i), again c.at.result c.at.ensures.1, again (get_or a.bids c.loop-j.j (pos 0)) (small c.loop-j.j))

pub loop-j-preserved : goal.loop-j-preserved
loop-j-preserved c =
    let a = c.args in
    let at = c.loop-j in
    let j = at.j in
    let x = get_or a.bids a.i (pos 0) in
    let z = get_or a.bids j (pos 0) in
    let ex : up (read x) ≡ up x = ap up (back x (in_row a.bids c.requires.1 a.i)) in
    let ey = (passed c.at.result _ (shifted (rows_of a.self.now.numbers.now) a.i j) c.at.ensures refl).0 in
    let ez : up (read z) ≡ up z = ap up (back z (in_row a.bids c.requires.1 j)) in
    let room : read c.room.result ≡ c.room.result = search rules in
    let found = c.room.ensures in
    let m = to_z w16 at.m-bits in
    let least : read c.min-m.result ≡ c.min-m.result = search rules in
    let least' = ap wide least in
    let l = least-is m c.room.result room c.min-m.result c.min-m.ensures.value in
    slack-next (shifted (rows_of a.self.now.numbers.now)) (λ k. up (get_or a.bids k (pos 0))) j a.i (wide m) (wide (read c.min-m.result)) at.invariant (omega arith) (omega arith)
