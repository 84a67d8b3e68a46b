-- `differences::Table::closed` meets its contract. Assumes nothing.
use Prim.Native.Nat.{ℕ}
use mathlib.Core.Path.{◌≡◌, refl, ◌∙◌, subst}
use native.Mathlib.Omega.{arith}
use Rattle.differences.specs.Shifted.{shifted, Made, through, through_all}
use Rattle.differences.proofs.Filling.{turns-start, turns_more}
use Rattle.differences.proofs.Table.closed.Goals as goal

pub loop-k-init : goal.loop-k-init
loop-k-init c = let s = c.args.self in (turns-start s.options s.rows s.small, refl)

pub loop-k-preserved : goal.loop-k-preserved
loop-k-preserved c =
    let s = c.args.self in
    let at = c.loop-k in
    let t = at.t in
    let v = c.turn-t.result in
    let e = c.turn-t.ensures in (
      turns_more s.options s.rows t.rows at.k v.rows at.invariant.0 (omega arith)
          (subst (λ (n : ℕ). Made n t.rows (through (shifted t.rows) at.k) v.rows) at.invariant.1 e.0),
      e.1 ∙ at.invariant.1,
    )

pub returns : goal.returns
returns c =
    let s = c.args.self in
    let at = c.loop-k in
    let all : at.k ≡ s.options = omega arith in
    (subst (λ (h : ℕ). Made s.options s.rows (through_all (shifted s.rows) h) at.t.rows) all at.invariant.0, at.invariant.1)
