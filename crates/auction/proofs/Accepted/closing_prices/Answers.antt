-- `auction::Accepted::closing_prices` meets its contract: from the floors up the numbers are accepted too. Assumes nothing.
use Rattle.auction.proofs.Reducing.{floors-accepted}
use Rattle.auction.proofs.Accepted.closing_prices.Goals as goal

pub returns : goal.returns
returns c =
    let a = c.args.self.now in
    (c.close_and_turn.ensures.least (floors-accepted a.items a.bidders a.start.now a.floors.now a.bids.now a.accepted)).0
