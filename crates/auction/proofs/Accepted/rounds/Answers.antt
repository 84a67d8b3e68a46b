-- `auction::Accepted::rounds` meets its contract. The least prices from the floors up are the close, the least from the start up the turn. Assumes nothing.
use Rattle.bids.specs.Lent.{sheet_above}
use Rattle.bids.proofs.Limits.{accepted-within}
use Rattle.auction.proofs.Settling.{ready, last-is, raised_is, lowered_is}
use Rattle.auction.proofs.Accepted.rounds.Goals as goal

pub returns : goal.returns
unfolding sheet_above
returns c =
    let a = c.args.self.now in
    let s = sheet_above a.items a.bidders a.start.now a.floors.now a.bids.now in
    let g = ready s (accepted-within a.items a.bidders a.start.now a.floors.now a.bids.now a.accepted).1 in
    let first = c.in_places-first in
    let ends = c.close_and_turn-ends in
    let w = ends.ensures.least a.accepted in (
      raised_is s g ends.result.close w.0 ends.result.turn w.1 first.result first.ensures c.furthest.result c.furthest.ensures,
      lowered_is s g ends.result.close w.0 ends.result.turn w.1 c.furthest-2.result c.furthest-2.ensures,
      last-is s g ends.result.close w.0,
    )
