-- `differences::allowed` meets its contract. Assumes nothing.
use mathlib.Core.Path.{sym, ◌∙◌}
use Rattle.sets.proofs.Tests.{and_both}
use Rattle.reports.specs.Report.{saying}
use Rattle.differences.specs.Shifted.{shifted}
use Rattle.differences.specs.Constraint.{within}
use Rattle.differences.specs.Lent.{rows_of, is_asked, places_fit}
use Rattle.differences.proofs.Deciding.{places-use, none-over, allowed-by}
use Rattle.differences.proofs.allowed.Goals as goal

pub invariant_of-part : goal.invariant_of-part
invariant_of-part c =
    let fitted = sym c.places_fit.ensures ∙ c.if-not-places_fit.false in
    let u = places-use c.args.items c.args.part.now fitted in
    record { long = u.0; few = u.1; fit = fitted }

pub invariant_of-report : goal.invariant_of-report
invariant_of-report c =
    let a = c.args in
    record { low = none-over a.items a.prices.now a.null a.set (sym c.is_asked.ensures ∙ c.if-not-is_asked.false) }

pub returns : goal.returns
returns c =
    let a = c.args in
    let t = c.loaded-t in
    let e = c.explained-e in
    let d = c.closed in
    let made = allowed-by a.items (within (shifted (rows_of a.part.now))) a.null a.set a.prices.now t.result.rows e.result.rows d.result.rows t.result.options e.result.options d.result.options
    t.ensures.0 t.ensures.1 e.ensures.0 e.ensures.1 d.ensures.0 d.ensures.1 in (
      and_both (is_asked a.items a.prices.now (saying a.null a.set)) (places_fit a.items a.part.now) (sym c.is_asked.ensures ∙ c.if-not-is_asked.false) (sym c.places_fit.ensures ∙ c.if-not-places_fit.false),
      made.0,
      made.1,
    )
