-- `differences::explains` meets its contract. Assumes nothing.
use mathlib.Core.Path.{sym, ap, ◌∙◌}
use Rattle.differences.specs.Shifted.{shifted, good_table}
use Rattle.differences.proofs.Deciding.{explains-not, explains-test}
use Rattle.differences.proofs.explains.Goals as goal

pub returns-in_default : goal.returns-in_default
returns-in_default c = let a = c.args in sym (explains-not a.items a.part.now a.prices.now a.null a.set c.in_default.ensures)

pub returns : goal.returns
returns c =
    let a = c.args in
    let t = c.in-Some.table in
    let e = c.in-Some.ensures in
    c.good.ensures ∙ ap (good_table (shifted t.rows)) e.2 ∙ explains-test a.items a.part.now a.prices.now a.null a.set c.ranges.set.fits e.0 t.rows e.1
