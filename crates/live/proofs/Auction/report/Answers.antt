-- `live::Auction::report` meets its contract. Assumes nothing.
use Prim.Native.Nat.{ℕ}
use mathlib.Core.Path.{ap, ◌∙◌}
use native.Mathlib.Omega.{arith}
use Rattle.reports.specs.Report.{saying}
use Rattle.live.specs.Calls.{with_report, report_number, report}
use Rattle.live.specs.Refusals.{refusal_number}
use Rattle.live.specs.declared.Auction.{Auction}
use Rattle.live.proofs.Formed.{formed}
use Rattle.live.proofs.Refusals.{numbered}
use Rattle.live.proofs.Refusing.{accepts, of-bidder, replied, reply-kept, reply-new}
use Rattle.live.proofs.Auction.report.Goals as goal

pub with_report-requires : goal.with_report-requires
with_report-requires c =
    let a = c.args in
    let d = saying a.null a.set in
    let ok = accepts a.self a.tables.now a.bidder d c.in-Ok.ensures in
    let b = of-bidder a.self a.tables.now a.bidder d ok in
    (b.0, omega (arith, b.1, (formed a.self ok.fit.formed).max_bidders))

pub returns-in-Ok : goal.returns-in-Ok
unfolding report
returns-in-Ok c =
    let a = c.args in
    let d = saying a.null a.set in
    ap (λ (n : Auction). record { number = 0; next = n }) c.with_report.ensures
    ∙ reply-new (report_number a.self a.tables.now a.bidder d) (with_report a.self a.bidder d) a.self c.in-Ok.ensures

pub returns-in-Err : goal.returns-in-Err
unfolding report
returns-in-Err c =
    let a = c.args in
    let new = with_report a.self a.bidder (saying a.null a.set) in
    let e = c.in-Err.refusal in
    c.kept.ensures ∙ reply-kept (refusal_number e) new a.self (numbered e) ∙ ap (λ (y : ℕ). replied y new a.self) c.in-Err.ensures
