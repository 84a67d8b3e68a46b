-- `reports::all_fit` meets its contract. The places passed so far hold what they may. Assumes nothing.
use mathlib.Core.Path.{sym, ◌∙◌}
use native.Mathlib.Omega.{arith}
use borrow.Author.Count.{below_more}
use Rattle.reports.proofs.Fitting.{found, all-fit-make, one-unfit}
use Rattle.reports.proofs.all_fit.Goals as goal

pub returns-then-not-place_fits : goal.returns-then-not-place_fits
returns-then-not-place_fits c =
    let a = c.args in
    let k = c.loop-k.k in
    sym (one-unfit a.items a.bidders a.sets.now a.nulls a.reported k (omega arith)
    (found a.items a.bidders a.sets.now a.nulls a.reported k c.has-has.result c.has-null.result c.place_fits.result
    c.has-has.ensures c.has-null.ensures c.place_fits.ensures ∙ c.if-not-place_fits.true))

pub loop-k-preserved : goal.loop-k-preserved
loop-k-preserved c =
    let a = c.args in
    let k = c.loop-k.k in
    below_more _ k c.loop-k.invariant (found a.items a.bidders a.sets.now a.nulls a.reported k c.has-has.result c.has-null.result c.place_fits.result
    c.has-has.ensures c.has-null.ensures c.place_fits.ensures ∙ c.if-not-place_fits.false)

pub returns : goal.returns
returns c =
    let a = c.args in
    sym (all-fit-make a.items a.bidders a.sets.now a.nulls a.reported (λ j l. c.loop-k.invariant j (omega arith)))
