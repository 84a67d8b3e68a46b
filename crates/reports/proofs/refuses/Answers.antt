-- `reports::refuses` meets its contract. Assumes nothing.
use mathlib.Core.Path.{◌≡◌, sym, ◌∙◌}
use mathlib.Core.Bool.{true, false}
use Rattle.reports.specs.Report.{saying, is_empty, beyond, unfit}
use Rattle.reports.proofs.refuses.Goals as goal

pub returns-then-is_empty : goal.returns-then-is_empty
unfolding unfit
returns-then-is_empty c =
    let a = c.args in
    let e : is_empty (saying a.null a.set) ≡ true = sym c.is_empty.ensures ∙ c.if-is_empty.true in
    simp (e, c.if-is_empty.true)

pub returns-else-is_empty : goal.returns-else-is_empty
unfolding unfit
returns-else-is_empty c =
    let a = c.args in
    let e : is_empty (saying a.null a.set) ≡ false = sym c.is_empty.ensures ∙ c.if-is_empty.false in
    let h : c.holds_beyond.result ≡ beyond a.items (saying a.null a.set) = unfold beyond saying in c.holds_beyond.ensures in
    simp (e, h)
