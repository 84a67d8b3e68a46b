-- `live::Complete::ended_rising` meets its contract. Assumes nothing.
use mathlib.Core.Path.{◌≡◌, refl, sym, ap, ◌∙◌}
use mathlib.Core.Bool.{true, false}
use borrow.Author.Tests.{eqb-false}
use Rattle.rule.specs.Round.{raised}
use Rattle.live.specs.Auction.{rising_set}
use Rattle.live.specs.Calls.{at_top, settled, ending_of, move_of}
use Rattle.live.specs.declared.Kind.TheVariants.{Raised}
use Rattle.live.specs.declared.Ended.TheVariants.{Moved, Refused}
use Rattle.live.proofs.Formed.{formed, clauses}
use Rattle.live.proofs.Bounds.{raised-room}
use Rattle.live.proofs.Ending.{seventeen, raises, round-raised, handed, ends_with, ends_refused}
use Rattle.live.proofs.Complete.ended_rising.Goals as goal

pub at_top-requires : goal.at_top-requires
at_top-requires c = (formed c.args.self.auction c.args.self.ready.formed).max_items

pub returns-then-at_top : goal.returns-then-at_top
unfolding ending_of
returns-then-at_top c =
    let r = c.args.self.auction in
    let p = c.requires in
    let t : at_top r.items r.prices (rising_set r) ≡ true = ap (at_top r.items r.prices) (sym p.1) ∙ sym c.at_top.ensures ∙ c.if-at_top.true in
    handed r c.stopped.result (record { ended = Refused 17; next = r }) c.stopped.ensures
    (ends_refused r 17 (seventeen r p.0 t) (eqb-false 17 0 refl))

pub raised_by-requires : goal.raised_by-requires
raised_by-requires c = ((clauses c.args.self.auction c.args.self.ready.formed).prices, raised-room c.args.self.auction c.args.self.ready.formed)

pub returns : goal.returns
unfolding ending_of move_of
returns c =
    let r = c.args.self.auction in
    let p = c.requires in
    let set = c.args.set in
    let t : at_top r.items r.prices (rising_set r) ≡ false = ap (at_top r.items r.prices) (sym p.1) ∙ sym c.at_top.ensures ∙ c.if-at_top.false in
    handed r c.raised_by.result (record { ended = Moved Raised set; next = settled r (raised set) }) c.raised_by.ensures
    (ends_with r (raised set) (raises r p.0 t) (round-raised r set p.1 c.if-set-eq0.false p.0))
