-- `live::Auction::end` meets its contract. Assumes nothing.
use mathlib.Core.Path.{sym, ap, ◌∙◌}
use Rattle.live.specs.Calls.{ending_of}
use Rattle.live.specs.Refusals.{refusal_number}
use Rattle.live.specs.Tidy.{is_move}
use Rattle.live.specs.declared.Step.{Step}
use Rattle.live.proofs.Refusals.{numbered}
use Rattle.live.proofs.Refusing.{settling}
use Rattle.live.proofs.Ending.{end_refused, end-round, narrows, keeps}
use Rattle.live.proofs.Auction.end.Goals as goal

pub completed-complete-requires : goal.completed-complete-requires
completed-complete-requires c = (settling c.args.self c.args.tables.now (sym c.in-Ok.ensures)).ready

pub narrow_all-requires : goal.narrow_all-requires
narrow_all-requires c =
    let s = settling c.args.self c.args.tables.now (sym c.in-Ok.ensures) in
    rw c.completed-complete.ensures (s.fit, s.explained)

pub returns-then-is_move : goal.returns-then-is_move
returns-then-is_move c =
    let a = c.args in
    let q = end-round a.self a.tables.now (sym c.in-Ok.ensures) in
    let o = rw c.completed-complete.ensures at c.ended-step.ensures in
    (o.0 ∙ q.0, o.1 ∙ q.1, (rw c.completed-complete.ensures at c.narrow_all.ensures) ∙ sym (narrows a.self a.tables.now (sym (c.is_move.ensures ∙ ap is_move (o.0 ∙ q.0)) ∙ c.if-is_move.true)))

pub returns-else-is_move : goal.returns-else-is_move
returns-else-is_move c =
    let a = c.args in
    let q = end-round a.self a.tables.now (sym c.in-Ok.ensures) in
    let o = rw c.completed-complete.ensures at c.ended-step.ensures in
    (o.0 ∙ q.0, o.1 ∙ q.1, sym (keeps a.self a.tables.now (sym (c.is_move.ensures ∙ ap is_move (o.0 ∙ q.0)) ∙ c.if-is_move.false)))

pub returns-in-Err : goal.returns-in-Err
unfolding ending_of
returns-in-Err c =
    let e = c.in-Err.refusal in
    let q = end_refused c.args.self c.args.tables.now (refusal_number e) c.in-Err.ensures (numbered e) in
    (ap (λ (s : Step). ending_of s.ended) c.stopped.ensures ∙ q.0, ap (λ (s : Step). s.next) c.stopped.ensures ∙ q.1, q.2)
