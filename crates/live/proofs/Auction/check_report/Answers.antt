-- `live::Auction::check_report` meets its contract. Assumes nothing.
use mathlib.Core.Path.{◌≡◌, sym, ◌∙◌}
use mathlib.Core.Bool.{false}
use Prim.Native.Nat.{◌≤◌}
use Rattle.std.proofs.lemmas.Result.{err_from_is_err_and}
use Rattle.std.proofs.Common.{arith}
use Rattle.std.proofs.lemmas.Grind.{common_steps}
use Rattle.rule.specs.Refusal.{first, bad_bidder}
use Rattle.rule.proofs.Refusal.{in-range}
use Rattle.reports.specs.Report.{saying, unfit}
use Rattle.live.specs.Auction.{has_reported}
use Rattle.live.specs.Calls.{report_number}
use Rattle.live.specs.Tidy.{fit_number}
use Rattle.live.proofs.Refusals.{numbered}
use Rattle.live.proofs.Refusing.{fits, report-unfit}
use Rattle.live.proofs.Auction.check_report.Goals as goal

pub returns-in_err-check_fit : goal.returns-in_err-check_fit
returns-in_err-check_fit c =
    let p = err_from_is_err_and c.from_residual.result c.from_residual.ensures.1 in
    let e = c.in_err-check_fit.ensures in
    rw (p.1, p.2) (e ∙ report-unfit c.args.self c.args.tables.now c.args.bidder (saying c.args.null c.args.set) (λ z. numbered c.in_err-check_fit.field-0.0 (e ∙ z)))

pub returns-then-is_closed : goal.returns-then-is_closed
unfolding fit_number report_number first bad_bidder has_reported
returns-then-is_closed c = grind (arith, common_steps)

pub returns-then-outside : goal.returns-then-outside
unfolding fit_number report_number first bad_bidder has_reported
returns-then-outside c = grind (arith, common_steps)

pub returns-then-has : goal.returns-then-has
unfolding fit_number report_number first bad_bidder has_reported
returns-then-has c = grind (arith, common_steps)

pub returns-then-refuses : goal.returns-then-refuses
unfolding fit_number report_number first bad_bidder has_reported
returns-then-refuses c = grind (arith, common_steps)

pub is_explained-requires : goal.is_explained-requires
is_explained-requires c =
    let fit : fit_number c.args.self c.args.tables.now ≡ 0 = sym c.in_ok-check_fit.ensures in
    let in_count : (1 ≤ c.args.bidder) × (c.args.bidder ≤ c.args.self.bidders) =
    in-range c.args.self.bidders c.args.bidder (sym c.outside.ensures ∙ c.if-outside.false) in
    let report-fit : unfit c.args.self.items (saying c.args.null c.args.set) ≡ false = sym c.refuses.ensures ∙ c.if-refuses.false in
    (fits c.args.self c.args.tables.now fit, omega (arith, in_count.0, in_count.1), report-fit)

pub returns-then-not-is_explained : goal.returns-then-not-is_explained
unfolding fit_number report_number first bad_bidder has_reported
returns-then-not-is_explained c = grind (arith, common_steps)

pub returns : goal.returns
unfolding fit_number report_number first bad_bidder has_reported
returns c = grind (arith, common_steps)
