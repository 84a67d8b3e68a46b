-- `least::Outcome::put_all` meets its contract: each turn puts in one bidder, if they wait. Assumes nothing.
use Prim.Native.Nat.{suc}
use mathlib.Core.Path.{◌≡◌, refl, sym, ap, ◌∙◌}
use mathlib.Core.Bool.{true, false, true≢false}
use native.Mathlib.Omega.{arith}
use native.Mathlib.Numerals.{add-one}
use Rattle.sets.specs.Bit.{has}
use Rattle.least.proofs.Joining.{put-start, put-ready, put_next, put-end}
use Rattle.least.proofs.Outcome.put_all.Goals.{then-has, else-has}
use Rattle.least.proofs.Outcome.put_all.Goals as goal

pub loop-k-init : goal.loop-k-init
loop-k-init c = put-start c.args.waiting c.requires

pub put_in-requires : goal.put_in-requires
put_in-requires c =
    let a = c.args in
    let at = c.loop-k in
    put-ready a.waiting c.requires at.k at.invariant (omega arith) (ap (has a.waiting) (sym (add-one at.k)) ∙ sym c.has.ensures ∙ c.if-has.true)

pub loop-k-preserved : goal.loop-k-preserved
loop-k-preserved c =
    let a = c.args in
    let at = c.loop-k in
    let is : has a.waiting (suc at.k) ≡ c.has.result = ap (has a.waiting) (sym (add-one at.k)) ∙ sym c.has.ensures in
    elim c.if-has.branch [
      | then-has w ↦
          let put = w.put_in in
          rw w.self-is (put_next a.waiting c.requires at.k at.invariant (omega arith) true (is ∙ w.if-has.true) put.new.self.prices put.new.self.own (λ z. absurd (true≢false z)) (λ t. put.ensures))
      | else-has w ↦ rw w.self-is (put_next a.waiting c.requires at.k at.invariant (omega arith) false (is ∙ w.if-has.false) at.self.prices at.self.own (λ z. (refl, refl)) (λ t. absurd (true≢false (sym t))))
    ]

pub returns : goal.returns
returns c = put-end c.args.waiting c.requires c.loop-k.k c.loop-k.invariant (omega arith)
