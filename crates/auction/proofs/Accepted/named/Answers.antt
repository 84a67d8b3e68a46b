-- `auction::Accepted::named` meets its contract. Assumes nothing.
use Rattle.bids.proofs.Limits.{fine}
use Rattle.demands.proofs.Demanding.{demanded}
use Rattle.auction.proofs.Sealing.{named-is}
use Rattle.auction.proofs.Accepted.named.Goals as goal

pub returns : goal.returns
returns c q long ep fitting =
    let a = c.args.self.now in
    let path = c.args.path in
    let f = fine a.items a.bidders a.start.now a.floors.now a.bids.now a.accepted in
    let at = c.demands_at-d in
    let d = demanded a.items a.bidders path.prices a.bids.now (record { max_items = f.max_items; max_bidders = f.max_bidders; exact = f.bids-long }) at.result at.ensures in
    named-is a.items a.bidders a.floors.now a.bids.now q f.max_items f.floors-long long
    path.prices c.in_places-low.result at.result.sets at.result.nulls c.above_floors-above.result ep c.in_places-low.ensures c.above_floors-above.ensures
    d.reported d.same at.result.surpluses d.highest fitting path.raised path.lowered c.first-names.result c.first-names.ensures
