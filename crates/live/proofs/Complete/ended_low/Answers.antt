-- `live::Complete::ended_low` meets its contract. Assumes nothing.
use mathlib.Core.Path.{ap, ◌∙◌}
use Rattle.live.specs.Auction.{falling_set}
use Rattle.rule.specs.Round.{lowered, closed}
use Rattle.live.specs.Calls.{settled, ending_of, move_of}
use Rattle.live.specs.declared.Kind.TheVariants.{Lowered}
use Rattle.live.specs.declared.Ended.TheVariants.{Moved}
use Rattle.live.specs.declared.Ended.TheVariants.{Closed as Closes}
use Rattle.live.proofs.Formed.{tidy}
use Rattle.live.proofs.Bounds.{lowered-room}
use Rattle.live.proofs.Ending.{calm, round-lowered, round-closed, handed, ends_with}
use Rattle.live.proofs.Complete.ended_low.Goals as goal

pub tidied-requires : goal.tidied-requires
tidied-requires c = tidy c.args.self.auction c.args.self.ready.formed

pub returns-then-falling-eq0 : goal.returns-then-falling-eq0
unfolding ending_of
returns-then-falling-eq0 c =
    let r = c.args.self.auction in
    let p = c.requires in
    handed r c.closed.result (record { ended = Closes; next = settled r closed }) c.closed.ensures
    (ends_with r closed (calm r p) (round-closed r p c.falling_set-falling.result (c.falling_set-falling.ensures ∙ ap falling_set c.tidied.ensures) c.if-falling-eq0.true))

pub lowered_by-requires : goal.lowered_by-requires
lowered_by-requires c = lowered-room c.args.self.auction c.args.self.ready.formed

pub returns : goal.returns
unfolding ending_of move_of
returns c =
    let r = c.args.self.auction in
    let p = c.requires in
    let set = c.falling_set-falling.result in
    handed r c.lowered_by.result (record { ended = Moved Lowered set; next = settled r (lowered set) }) c.lowered_by.ensures
    (ends_with r (lowered set) (calm r p) (round-lowered r p set (c.falling_set-falling.ensures ∙ ap falling_set c.tidied.ensures) c.if-falling-eq0.false))
