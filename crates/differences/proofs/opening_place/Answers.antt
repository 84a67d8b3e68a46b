-- `differences::opening_place` meets its contract. Assumes nothing.
use Prim.Native.Nat.{ℕ, ◌-◌}
use mathlib.Core.Path.{sym, ap, ◌∙◌}
use mathlib.Core.Bool.{true, false}
use native.Mathlib.Omega.{arith}
use lib.IntN.{sub_ℕ}
use Rattle.differences.proofs.Signs.{back, up-back}
use Rattle.differences.proofs.Constraints.{range-low, opening_is}
use Rattle.differences.proofs.opening_place.Goals as goal

pub returns-then-is_beyond : goal.returns-then-is_beyond
returns-then-is_beyond c = let a = c.args in sym (opening_is a.items a.i a.j true (sym c.is_beyond.ensures ∙ c.if-is_beyond.true))

pub returns : goal.returns
returns c =
    let a = c.args in
    let z = c.range.result in
    let e = c.range.ensures.0 in
    let low = range-low a.i a.j in
    back z c.range.ensures.1 ∙ up-back z (omega arith) ∙ ap (λ (x : ℕ). sub_ℕ (x - 1) 4095) e ∙ sym (opening_is a.items a.i a.j false (sym c.is_beyond.ensures ∙ c.if-is_beyond.false))
