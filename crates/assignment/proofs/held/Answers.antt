-- `assignment::held` meets its contract: the places passed are those of the set. Assumes nothing.
use Prim.Native.Nat.{ℕ, ◌+◌}
use mathlib.Core.Path.{◌≡◌, ap, ◌∙◌, subst}
use mathlib.Core.Bool.{◌||◌}
use native.Mathlib.Omega.{arith}
use lib.Dec.{eqb}
use lib.ListN.{get_or}
use Rattle.sets.specs.Bit.{has, set_of}
use Rattle.sets.proofs.Taking.{member-lt}
use Rattle.assignment.specs.Turn.{Held}
use Rattle.assignment.proofs.Places.{part-at, part-long, held_none, held_next}
use Rattle.assignment.proofs.held.Goals as goal

pub loop-p-init : goal.loop-p-init
loop-p-init c =
    let e : c.args.k ≡ c.args.k + 0 = omega arith in
    (omega arith, subst (λ (b : ℕ). Held c.args.x.now c.args.k b 0) e (held_none c.args.x.now c.args.k))

pub overflow_add-from : goal.overflow_add-from
overflow_add-from c =
    let a = c.args in
    let j = c.loop-p.p-index in
    let long = part-long a.x.now a.k a.n (omega arith) in
    let at = part-at a.x.now a.k a.n j (omega arith) in
    omega (arith, c.requires.2 (a.k + j))

pub loop-p-preserved : goal.loop-p-preserved
loop-p-preserved c =
    let a = c.args in
    let b = a.k + c.loop-p.p-index in
    let s = c.with-s in
    let long = part-long a.x.now a.k a.n (omega arith) in
    let at : c.from.result ≡ get_or a.x.now b 0 = c.from.ensures ∙ part-at a.x.now a.k a.n c.loop-p.p-index (omega arith) in
    let next : b + 1 ≡ a.k + (c.loop-p.p-index + 1) = omega arith in (
      member-lt 64 s.result _ s.ensures,
      subst (λ (e : ℕ). Held a.x.now a.k e s.result) next
          (held_next a.x.now a.k b (omega arith) c.loop-p.s s.result c.loop-p.invariant.0 (c.requires.2 b (omega arith) (omega arith)) c.loop-p.invariant.1
          (s.ensures ∙ ap (λ (v : ℕ). set_of 64 (λ o. has c.loop-p.s o || eqb o (v + 1))) at)),
    )

pub returns : goal.returns
returns c =
    let a = c.args in
    let long = part-long a.x.now a.k a.n (omega arith) in
    let e : a.k + c.loop-p.p-index ≡ a.n = omega arith in
    subst (λ (b : ℕ). Held a.x.now a.k b c.loop-p.s) e c.loop-p.invariant.1
