-- `bids::refusal` meets its contract: floors of 0 turn no sheet down. Assumes nothing.
use Prim.Native.Nat.{ℕ}
use mathlib.Core.Path.{sym, ap, ◌∙◌}
use mathlib.Core.List.{List}
use native.Mathlib.Omega.{arith}
use Rattle.sets.proofs.Filling.{take-zeros}
use Rattle.rule.specs.Refusal.{bad_items}
use Rattle.rule.proofs.Refusal.{given, over-range}
use Rattle.bids.specs.Refusal.{sealed_refusal, sealed_above_refusal}
use Rattle.bids.proofs.Limits.{without_floors}
use Rattle.bids.proofs.refusal.Goals as goal

pub returns-then-items-gt32 : goal.returns-then-items-gt32
unfolding sealed_refusal bad_items
returns-then-items-gt32 c =
    let a = c.args in
    sym (given 1 (bad_items a.items) _ (over-range 32 a.items (omega (arith, c.if-items-gt32.true)) c.if-items-gt32.true))

pub returns : goal.returns
returns c =
    let a = c.args in
    c.refusal_above.ensures
    ∙ ap (λ (floors : List ℕ). sealed_above_refusal a.items a.bidders a.start.now floors a.bids.now) (take-zeros a.items 32 c.if-items-gt32.false)
    ∙ without_floors a.items a.bidders a.start.now a.bids.now
