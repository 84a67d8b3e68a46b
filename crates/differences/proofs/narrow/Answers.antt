-- `differences::narrow` meets its contract. Assumes nothing.
use mathlib.Core.Path.{◌≡◌, sym, ap, ◌∙◌}
use Rattle.sets.proofs.Tests.{and_right}
use Rattle.reports.specs.Report.{saying}
use Rattle.differences.specs.Shifted.{shifted, good_table}
use Rattle.differences.specs.Lent.{is_asked, places_fit, part_explains}
use Rattle.differences.proofs.Deciding.{places-use, explains-not, explains-test, unchanged, narrowed_is}
use Rattle.differences.proofs.narrow.Goals as goal

pub returns-in_default : goal.returns-in_default
returns-in_default c =
    let a = c.args in
    let e = explains-not a.items a.part.now a.prices.now a.null a.set c.in_default.ensures in
    (sym e, sym (unchanged a.items a.part.now a.prices.now a.null a.set e))

pub returns-then-not-good : goal.returns-then-not-good
returns-then-not-good c =
    let a = c.args in
    let t = c.in-Some.table in
    let s = c.in-Some.ensures in
    let told : c.good.result ≡ part_explains a.items a.part.now a.prices.now (saying a.null a.set) =
    c.good.ensures ∙ ap (good_table (shifted t.rows)) s.2 ∙ explains-test a.items a.part.now a.prices.now a.null a.set c.ranges.set.fits s.0 t.rows s.1 in
    let e = sym told ∙ c.if-not-good.true in
    (sym e, sym (unchanged a.items a.part.now a.prices.now a.null a.set e))

pub put-requires : goal.put-requires
put-requires c =
    let a = c.args in
    (places-use a.items a.part.now (and_right (is_asked a.items a.prices.now (saying a.null a.set)) (places_fit a.items a.part.now) c.in-Some.ensures.0)).0

pub returns : goal.returns
returns c =
    let a = c.args in
    let t = c.in-Some.table in
    let s = c.in-Some.ensures in
    let told : c.good.result ≡ part_explains a.items a.part.now a.prices.now (saying a.null a.set) =
    c.good.ensures ∙ ap (good_table (shifted t.rows)) s.2 ∙ explains-test a.items a.part.now a.prices.now a.null a.set c.ranges.set.fits s.0 t.rows s.1 in
    let e = sym told ∙ c.if-not-good.false in
    let put = c.put.ensures in
    (sym e, narrowed_is a.items a.part.now a.prices.now a.null a.set c.ranges.set.fits s.0 t.rows s.1 e c.put.new.part put.0 put.1)
