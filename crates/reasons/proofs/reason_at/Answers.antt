-- `reasons::reason_at` meets its contract. Assumes nothing.
use lib.ListN.{replicate}
use Rattle.reasons.proofs.Reasoning.{reason-is}
use Rattle.reasons.proofs.reason_at.Goals as goal

pub returns : goal.returns
returns c =
    let a = c.args in
    let pre = c.requires in
    let d = c.demands_at-d in
    reason-is a.items a.bidders (replicate 32 0) a.prices.now a.bids.now (record { max_items = pre.0; max_bidders = pre.1; exact = pre.2 }) pre.3 a.step d.result d.ensures
    c.above_floors.result c.moving-set.result c.kind.result c.who.result c.above_floors.ensures c.moving-set.ensures c.kind.ensures c.who.ensures
