-- `differences::fits` meets its contract. Assumes nothing.
use mathlib.Core.Path.{◌≡◌, sym, ap, ◌∙◌}
use lib.IntN.{pos}
use lib.Signed.{le_z}
use borrow.Author.Rules.{rules}
use Rattle.differences.specs.Shifted.{wide}
use Rattle.differences.proofs.Signs.{read}
use Rattle.differences.proofs.Deciding.{places-use, fits_not, fits-by}
use Rattle.differences.proofs.Quick.{quick, none-wide}
use Rattle.differences.proofs.fits.Goals as goal

pub returns-then-not-places_fit : goal.returns-then-not-places_fit
returns-then-not-places_fit c = let a = c.args in sym (fits_not a.items a.part.now (sym c.places_fit.ensures ∙ c.if-not-places_fit.true))

pub invariant_of-part : goal.invariant_of-part
invariant_of-part c =
    let fitted = sym c.places_fit.ensures ∙ c.if-not-places_fit.false in
    let u = places-use c.args.items c.args.part.now fitted in
    record { long = u.0; few = u.1; fit = fitted }

pub returns-then-slack-ge0 : goal.returns-then-slack-ge0
returns-then-slack-ge0 c =
    let a = c.args in
    let fitted = sym c.places_fit.ensures ∙ c.if-not-places_fit.false in
    let e : read c.slack.result ≡ c.slack.result = search rules in
    sym (quick a.items a.part.now fitted (wide c.slack.result) (none-wide c.slack.result (ap (le_z (pos 0)) (sym e) ∙ c.if-slack-ge0.true)) c.slack.ensures)

pub returns : goal.returns
returns c =
    let a = c.args in
    let fitted = sym c.places_fit.ensures ∙ c.if-not-places_fit.false in
    let t = c.loaded-table in
    let e = c.closed-closure in
    c.good.ensures ∙ fits-by a.items a.part.now fitted t.result.rows e.result.rows t.result.options e.result.options t.ensures.0 t.ensures.1 e.ensures.0 e.ensures.1
