-- `live::Auction::check_ready` meets its contract. Assumes nothing.
use mathlib.Core.Path.{◌≡◌, sym, ◌∙◌}
use mathlib.Core.Bool.{false}
use Rattle.std.proofs.lemmas.Result.{err_from_is_err_and}
use Rattle.std.proofs.Common.{arith}
use Rattle.std.proofs.lemmas.Grind.{common_steps}
use Rattle.rule.specs.Refusal.{first}
use Rattle.live.specs.Auction.{missing}
use Rattle.live.specs.Calls.{is_closed}
use Rattle.live.specs.Tidy.{fit_number, ready_number}
use Rattle.live.proofs.Places.{missing-is}
use Rattle.live.proofs.Refusals.{numbered}
use Rattle.live.proofs.Refusing.{fits, end-unfit}
use Rattle.live.proofs.Auction.check_ready.Goals as goal

pub returns-in_err-check_fit : goal.returns-in_err-check_fit
returns-in_err-check_fit c =
    let p = err_from_is_err_and c.from_residual.result c.from_residual.ensures.1 in
    let e = c.in_err-check_fit.ensures in
    rw (p.1, p.2) (e ∙ end-unfit c.args.self c.args.tables.now (λ z. numbered c.in_err-check_fit.field-0.0 (e ∙ z)))

pub returns-then-is_closed : goal.returns-then-is_closed
unfolding fit_number ready_number first
returns-then-is_closed c = grind (arith, common_steps)

pub returns-then-misses : goal.returns-then-misses
unfolding fit_number ready_number first
returns-then-misses c =
    let m = missing-is c.args.self in
    grind (arith, common_steps)

pub completed-requires : goal.completed-requires
completed-requires c =
    let running : is_closed c.args.self.phase ≡ false = sym c.is_closed.ensures ∙ c.if-is_closed.false in
    let complete : missing c.args.self ≡ false = sym (c.misses.ensures ∙ missing-is c.args.self) ∙ c.if-misses.false in
    record { formed = (fits c.args.self c.args.tables.now (sym c.in_ok-check_fit.ensures)).formed; running = running; complete = complete }

pub all_explained-requires : goal.all_explained-requires
all_explained-requires c = rw c.completed.ensures (fits c.args.self c.args.tables.now (sym c.in_ok-check_fit.ensures))

pub returns-then-not-all_explained : goal.returns-then-not-all_explained
unfolding fit_number ready_number first
returns-then-not-all_explained c =
    let m = missing-is c.args.self in
    let e = rw c.completed.ensures at c.all_explained.ensures in
    grind (arith, common_steps)

pub returns : goal.returns
unfolding fit_number ready_number first
returns c =
    let m = missing-is c.args.self in
    let e = rw c.completed.ensures at c.all_explained.ensures in
    grind (arith, common_steps)
