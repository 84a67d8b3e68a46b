-- `digits::number_at` meets its contract. Assumes nothing.
use Prim.Native.Nat.{ℕ, ◌+◌}
use mathlib.Core.Path.{◌≡◌, sym, ap, ◌∙◌}
use native.Mathlib.Omega.{arith}
use Rattle.digits.specs.Reading.{number_at}
use Rattle.digits.proofs.Walking.{is_digit, no_digit, number-none, number_more, number-stops, many-digits, few-digits, one-more-digit, within-digits}
use Rattle.digits.proofs.number_at.Goals as goal

pub returns-then-digits-gt8 : goal.returns-then-digits-gt8
returns-then-digits-gt8 c = sym (many-digits c.args.s.now c.args.at c.args.digits c.if-digits-gt8.true)

pub loop-k-init : goal.loop-k-init
loop-k-init c = (number-none c.args.s.now c.args.at, omega arith)

pub returns-then-d-gt15 : goal.returns-then-d-gt15
returns-then-d-gt15 c =
    let a = c.args in
    let l = c.loop-k in
    sym
    (few-digits a.s.now a.at a.digits (omega arith)
    ∙ number-stops a.s.now a.at a.digits l.k (omega arith) (no_digit a.s.now (a.at + l.k) c.digit_at-d.result c.digit_at-d.ensures (omega arith)))

pub overflow_mul-x : goal.overflow_mul-x
overflow_mul-x c = let l = c.loop-k in omega (arith, within-digits l.k 7 l.x (omega arith) l.invariant.1)

pub overflow_add-x : goal.overflow_add-x
overflow_add-x c = let l = c.loop-k in omega (arith, within-digits l.k 7 l.x (omega arith) l.invariant.1)

pub loop-k-preserved : goal.loop-k-preserved
loop-k-preserved c =
    let a = c.args in
    let l = c.loop-k in
    let d : ℕ = c.from.result in (
      number_more a.s.now a.at l.k l.x d l.invariant.0 (is_digit _ d (c.from.ensures ∙ c.digit_at-d.ensures) (omega arith)),
      one-more-digit l.k l.x d l.invariant.1 (omega arith),
    )

pub returns : goal.returns
returns c =
    let a = c.args in
    let l = c.loop-k in
    let e : l.k ≡ a.digits = omega arith in
    sym (few-digits a.s.now a.at a.digits (omega arith) ∙ ap (λ (k : ℕ). number_at k a.s.now a.at) (sym e) ∙ l.invariant.0)
