-- `assignment::goes_on` meets its contract. Assumes nothing.
use mathlib.Core.Path.{sym, ◌∙◌}
use Rattle.sets.proofs.Members.{has-one-more}
use Rattle.assignment.proofs.Places.{goes-spare, goes_other}
use Rattle.assignment.proofs.goes_on.Goals as goal

pub returns-then-has : goal.returns-then-has
returns-then-has c =
    let a = c.args in
    sym (goes-spare a.spare a.q (sym (has-one-more a.spare a.q) ∙ sym c.has.ensures ∙ c.if-has.true))

pub returns : goal.returns
returns c =
    let a = c.args in
    sym (goes_other a.spare a.q (sym (has-one-more a.spare a.q) ∙ sym c.has.ensures ∙ c.if-has.false))
