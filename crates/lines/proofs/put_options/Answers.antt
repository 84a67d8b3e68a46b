-- `lines::put_options` meets its contract. Assumes nothing.
use Prim.Native.Nat.{ℕ, ◌+◌, ◌*◌, ◌<◌}
use mathlib.Core.Path.{◌≡◌, refl, ap, ◌∙◌}
use native.Mathlib.Omega.{arith}
use lib.ListN.{get_or, length, take}
use lib.Seq.{sets, get_or-take, length-take-le}
use Rattle.digits.specs.Digits.{hex}
use Rattle.digits.proofs.Room.{written}
use Rattle.lines.specs.Lines.{joined}
use Rattle.lines.proofs.Stores.{one_more, line-end}
use Rattle.lines.proofs.Lengths.{numbers-length}
use Rattle.lines.proofs.put_options.Goals as goal

pub loop-b-init : goal.loop-b-init
unfolding joined
loop-b-init c = refl

pub loop-b-preserved : goal.loop-b-preserved
loop-b-preserved c =
    let a = c.args in
    let l = c.loop-b in
    let x = c.write_number in
    let all : length (take a.bidders a.options.now) ≡ a.bidders = length-take-le a.bidders a.options.now (omega arith) in
    let here : l.b < a.bidders = omega arith in
    one_more a.out.now a.at l.b 2 (λ k. hex 2 (get_or a.options.now k 0)) (numbers-length l.b 2 a.options.now) l.out l.invariant x.new.out
    (written l.out x.new.out (a.at + 2 * l.b) 2 c.from.result (omega arith) x.ensures.1
    ∙ ap (λ (p : ℕ). sets l.out (a.at + 2 * l.b) (hex 2 p)) (c.from.ensures ∙ get_or-take a.bidders a.options.now l.b 0 here))

pub returns : goal.returns
returns c =
    let a = c.args in
    let l = c.loop-b in
    let all : length (take a.bidders a.options.now) ≡ a.bidders = length-take-le a.bidders a.options.now (omega arith) in
    let e : l.b ≡ a.bidders = omega arith in
    rw (← e)
    (line-end a.out.now a.at l.b 2 (λ k. hex 2 (get_or a.options.now k 0)) (numbers-length l.b 2 a.options.now) l.out l.invariant)
