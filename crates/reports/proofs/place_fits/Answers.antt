-- `reports::place_fits` meets its contract. Assumes nothing.
use borrow.Author.Tests.{lt-leb, le-leb}
use Rattle.reports.specs.Places.{place_fits}
use Rattle.reports.proofs.place_fits.Goals as goal

pub returns-then-not-reported : goal.returns-then-not-reported
unfolding place_fits
returns-then-not-reported c = simp (c.if-not-reported.true, c.is_empty.ensures)

pub returns-then-b-bidders : goal.returns-then-b-bidders
unfolding place_fits
returns-then-b-bidders c =
    let a = c.args in
    simp (c.if-not-reported.false, le-leb a.b a.bidders c.if-b-bidders.true, c.refuses.ensures)

pub returns-else-b-bidders : goal.returns-else-b-bidders
unfolding place_fits
returns-else-b-bidders c =
    let a = c.args in
    simp (c.if-not-reported.false, lt-leb a.b a.bidders c.if-b-bidders.false)
