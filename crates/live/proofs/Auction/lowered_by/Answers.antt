-- `live::Auction::lowered_by` meets its contract. Assumes nothing.
use Prim.Native.Nat.{ℕ, ◌+◌}
use mathlib.Core.List.{List}
use mathlib.Core.Path.{ap, ◌∙◌}
use Rattle.live.specs.Calls.{cleared, settled}
use Rattle.live.specs.declared.Auction.{Auction}
use Rattle.live.specs.declared.Step.{Step}
use Rattle.live.specs.declared.Kind.TheVariants.{Lowered}
use Rattle.live.specs.declared.Ended.TheVariants.{Moved}
use Rattle.live.specs.declared.Phase.TheVariants.{Falling}
use Rattle.live.proofs.Auction.lowered_by.Goals as goal

-- the answer of the move: the record without reports, at the next prices
abbrev moved : Auction → ℕ → Auction → List ℕ → Step
moved r set n p =
    record {
      ended = Moved Lowered set;
      next = record {
        items = n.items;
        bidders = n.bidders;
        prices = p;
        floors = n.floors;
        sets = n.sets;
        nulls = n.nulls;
        reported = n.reported;
        phase = Falling;
        raised = n.raised;
        lowered = r.lowered + 1;
      };
    }

pub returns : goal.returns
unfolding cleared settled
returns c =
    let r = c.args.self in
    let set = c.args.set in
    ap (λ (n : Auction). moved r set n c.lowered.result) c.cleared.ensures
    ∙ ap (moved r set (cleared r)) c.lowered.ensures
