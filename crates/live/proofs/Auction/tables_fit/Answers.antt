-- `live::Auction::tables_fit` meets its contract: the tables of the bidders passed so far fit. Assumes nothing.
use mathlib.Core.Path.{◌≡◌, sym, ◌∙◌}
use mathlib.Core.Bool.{true, false}
use native.Mathlib.Omega.{arith}
use borrow.Author.Count.{below_more}
use Rattle.sets.proofs.Tests.{all-use, all-make, not-both, is_false}
use Rattle.differences.specs.Table.{table_fits}
use Rattle.differences.specs.Lent.{table_at}
use Rattle.live.specs.Tables.{tables_fit}
use Rattle.live.proofs.Opening.{tables_long}
use Rattle.live.proofs.Formed.{formed}
use Rattle.live.proofs.Lent.{inside, fits-at}
use Rattle.live.proofs.Auction.tables_fit.Goals as goal

pub overflow_mul-a : goal.overflow_mul-a
overflow_mul-a c = omega (arith, (formed c.args.self c.requires.0).max_bidders)

pub overflow_add-a : goal.overflow_add-a
overflow_add-a c = omega (arith, (formed c.args.self c.requires.0).max_bidders)

pub offset_bounds-tables-a : goal.offset_bounds-tables-a
offset_bounds-tables-a c = omega (arith, (formed c.args.self c.requires.0).max_bidders)

pub slice_bounds-fits-end : goal.slice_bounds-fits-end
slice_bounds-fits-end c =
    let a = c.args in
    omega (arith, inside c.loop-k.k a.self.bidders c.loop-k-test.true, tables_long a.self.bidders a.tables.now c.requires.1)

pub returns-then-not-fits : goal.returns-then-not-fits
unfolding tables_fit
returns-then-not-fits c =
    let a = c.args in
    let k = c.loop-k.k in
    let no : table_fits a.self.items (table_at a.tables.now k) ≡ false =
    sym (c.fits.ensures ∙ fits-at a.self a.tables.now c.requires.0 c.requires.1 k c.loop-k-test.true) ∙ c.if-not-fits.true in
    sym (is_false _ (λ e. not-both (table_fits a.self.items (table_at a.tables.now k)) (all-use a.self.bidders (λ k. table_fits a.self.items (table_at a.tables.now k)) e k c.loop-k-test.true) no))

pub loop-k-preserved : goal.loop-k-preserved
loop-k-preserved c =
    let a = c.args in
    let k = c.loop-k.k in
    let yes : table_fits a.self.items (table_at a.tables.now k) ≡ true =
    sym (c.fits.ensures ∙ fits-at a.self a.tables.now c.requires.0 c.requires.1 k c.loop-k-test.true) ∙ c.if-not-fits.false in
    below_more _ k c.loop-k.invariant yes

pub returns : goal.returns
unfolding tables_fit
returns c =
    let a = c.args in
    sym (all-make a.self.bidders (λ k. table_fits a.self.items (table_at a.tables.now k)) (λ j l. c.loop-k.invariant j (omega (arith, l, c.loop-k-test.false))))
