-- `live::Auction::with_report` meets its contract. Assumes nothing.
use mathlib.Core.Path.{refl}
use Prim.Native.Nat.{◌-◌}
use lib.ListN.{set}
use Rattle.reports.specs.Report.{saying}
use Rattle.live.specs.Calls.{with_report}
use Rattle.live.proofs.Parts.{by_parts}
use Rattle.live.proofs.Auction.with_report.Goals as goal

pub returns : goal.returns
unfolding with_report saying
returns c =
    let r = c.args.self in
    let b = c.args.bidder in
    let n = c.args.null in
    let new = c.args.set in
    by_parts
    (record {
      items = r.items;
      bidders = r.bidders;
      prices = r.prices;
      floors = r.floors;
      sets = set r.sets (b - 1) new;
      nulls = c.add.result;
      reported = c.with.result;
      phase = r.phase;
      raised = r.raised;
      lowered = r.lowered;
    })
    (with_report r b (saying n new)) refl refl refl refl refl
    c.add.ensures
    c.with.ensures refl refl refl
