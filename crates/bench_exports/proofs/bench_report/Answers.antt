-- `bench_exports::bench_report` meets its contract. Assumes nothing.
use mathlib.Core.Path.{ap, ◌∙◌}
use Rattle.reports.specs.Report.{saying}
use Rattle.live.specs.Calls.{report}
use Rattle.live.specs.declared.Auction.{Auction}
use Rattle.live.specs.declared.Reply.{Reply}
use Rattle.bench_exports.proofs.Lent.{stands}
use Rattle.bench_exports.proofs.bench_report.Goals as goal

pub returns : goal.returns
returns c =
    let a = c.args in
    let e = c.report-reported.ensures ∙ ap (λ (r : Auction). report r a.tables.now a.bidder (saying a.null a.set)) c.record_in-auction.ensures in
    record { number = ap (λ (r : Reply). r.number) e; «record» = stands _ _ _ _ _ _ _ (ap (λ (r : Reply). r.next) e) c.leave.ensures }
