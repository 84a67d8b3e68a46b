-- `assignment::settled` meets its contract. Assumes nothing.
use mathlib.Core.Path.{refl, sym, ◌∙◌}
use Rattle.sets.proofs.Counting.{not-both}
use Rattle.sets.proofs.Members.{has-one-more}
use Rattle.sets.specs.Bit.{is_set}
use Rattle.assignment.proofs.settled.Goals as goal

pub returns-then-has : goal.returns-then-has
returns-then-has c =
    let a = c.args in
    let on = sym (has-one-more a.seen a.wish) ∙ sym c.has.ensures ∙ c.if-has.true in
    ((λ e. refl), λ e. absurd (not-both (is_set a.seen a.wish) on e))

pub returns : goal.returns
returns c =
    let a = c.args in
    let off = sym (has-one-more a.seen a.wish) ∙ sym c.has.ensures ∙ c.if-has.false in
    ((λ e. absurd (not-both (is_set a.seen a.wish) e off)), λ e. refl)
