-- `live::Complete::all_explained` meets its contract: the reports of the bidders passed so far are explained. Assumes nothing.
use mathlib.Core.Path.{◌≡◌, sym, ap, ◌∙◌}
use mathlib.Core.Bool.{true, false, not}
use native.Mathlib.Omega.{arith}
use borrow.Author.Count.{below_more}
use borrow.Author.Tests.{not-true, not-false}
use Rattle.sets.proofs.Tests.{any-make, any_false}
use Rattle.reports.specs.Report.{unfit}
use Rattle.live.specs.Auction.{place}
use Rattle.live.specs.Tables.{unexplained_at, any_unexplained}
use Rattle.live.proofs.Formed.{formed}
use Rattle.live.proofs.Lent.{said_at, report-fits}
use Rattle.live.proofs.Complete.all_explained.Goals as goal

pub offset_bounds-auction-k : goal.offset_bounds-auction-k
offset_bounds-auction-k c = omega (arith, (formed c.args.self.auction c.requires.formed).max_bidders)

pub bounds-auction-k : goal.bounds-auction-k
bounds-auction-k c = omega (arith, (formed c.args.self.auction c.requires.formed).max_bidders)

pub is_explained-requires : goal.is_explained-requires
is_explained-requires c =
    let r = c.args.self.auction in
    let k = c.loop-k.k in (
      c.requires,
      c.loop-k-test.true,
      ap (unfit r.items) (said_at r k c.has-null.result c.has-null.ensures) ∙ report-fits r c.args.self.ready k c.loop-k-test.true,
    )

pub returns-then-not-is_explained : goal.returns-then-not-is_explained
unfolding any_unexplained
returns-then-not-is_explained c =
    let r = c.args.self.auction in
    let ts = c.args.tables.now in
    let k = c.loop-k.k in
    let yes : unexplained_at r ts k (place r k) ≡ true =
    ap (unexplained_at r ts k) (sym (said_at r k c.has-null.result c.has-null.ensures)) ∙ not-false _ (sym c.is_explained.ensures ∙ c.if-not-is_explained.true) in
    sym (ap not (any-make r.bidders (λ k. unexplained_at r ts k (place r k)) k c.loop-k-test.true yes))

pub loop-k-preserved : goal.loop-k-preserved
loop-k-preserved c =
    let r = c.args.self.auction in
    let ts = c.args.tables.now in
    let k = c.loop-k.k in
    let no : unexplained_at r ts k (place r k) ≡ false =
    ap (unexplained_at r ts k) (sym (said_at r k c.has-null.result c.has-null.ensures)) ∙ not-true _ (sym c.is_explained.ensures ∙ c.if-not-is_explained.false) in
    below_more _ k c.loop-k.invariant no

pub returns : goal.returns
unfolding any_unexplained
returns c =
    let r = c.args.self.auction in
    let ts = c.args.tables.now in
    sym (ap not (any_false r.bidders (λ k. unexplained_at r ts k (place r k)) (λ j l. c.loop-k.invariant j (omega (arith, l, c.loop-k-test.false)))))
