-- `differences::is_asked` meets its contract. Assumes nothing.
use mathlib.Core.Path.{◌≡◌, sym, ◌∙◌}
use mathlib.Core.Bool.{true, false}
use Rattle.rule.specs.Refusal.{any_over}
use Rattle.differences.specs.Lent.{is_asked}
use Rattle.differences.proofs.is_asked.Goals as goal

pub returns-then-not-any_over : goal.returns-then-not-any_over
unfolding is_asked
returns-then-not-any_over c =
    let a = c.args in
    let e : any_over a.prices.now ≡ false = sym c.any_over.ensures ∙ c.if-not-any_over.true in
    let h = c.refuses.ensures in
    simp (e, h)

pub returns-else-not-any_over : goal.returns-else-not-any_over
unfolding is_asked
returns-else-not-any_over c =
    let a = c.args in
    let e : any_over a.prices.now ≡ true = sym c.any_over.ensures ∙ c.if-not-any_over.false in
    simp (e, c.if-not-any_over.false)
