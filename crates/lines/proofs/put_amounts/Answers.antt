-- `lines::put_amounts` meets its contract. Assumes nothing.
use Prim.Native.Nat.{ℕ, ◌+◌, ◌*◌, ◌<◌}
use mathlib.Core.Path.{◌≡◌, refl, ap, ◌∙◌}
use native.Mathlib.Omega.{arith}
use lib.ListN.{get_or, length, take}
use lib.Seq.{sets, get_or-take, length-take-le}
use Rattle.digits.specs.Digits.{hex}
use Rattle.digits.proofs.Room.{written}
use Rattle.lines.specs.Lines.{joined, amounts_line}
use Rattle.lines.proofs.Stores.{one_more, line-end}
use Rattle.lines.proofs.Lengths.{numbers-length}
use Rattle.lines.proofs.put_amounts.Goals as goal

pub loop-i-init : goal.loop-i-init
unfolding joined
loop-i-init c = refl

pub loop-i-preserved : goal.loop-i-preserved
loop-i-preserved c =
    let a = c.args in
    let l = c.loop-i in
    let x = c.write_number in
    let all : length (take a.count a.amounts.now) ≡ a.count = length-take-le a.count a.amounts.now (omega arith) in
    let here : l.i < a.count = omega arith in
    one_more a.out.now a.at l.i 4 (λ k. hex 4 (get_or a.amounts.now k 0)) (numbers-length l.i 4 a.amounts.now) l.out l.invariant x.new.out
    (written l.out x.new.out (a.at + 4 * l.i) 4 c.from.result (omega arith) x.ensures.1
    ∙ ap (λ (p : ℕ). sets l.out (a.at + 4 * l.i) (hex 4 p)) (c.from.ensures ∙ get_or-take a.count a.amounts.now l.i 0 here))

pub returns : goal.returns
unfolding amounts_line
returns c =
    let a = c.args in
    let l = c.loop-i in
    let all : length (take a.count a.amounts.now) ≡ a.count = length-take-le a.count a.amounts.now (omega arith) in
    let e : l.i ≡ a.count = omega arith in
    rw (← e)
    (line-end a.out.now a.at l.i 4 (λ k. hex 4 (get_or a.amounts.now k 0)) (numbers-length l.i 4 a.amounts.now) l.out l.invariant)
