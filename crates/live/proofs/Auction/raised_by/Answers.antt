-- `live::Auction::raised_by` meets its contract. Assumes nothing.
use Prim.Native.Nat.{ℕ, ◌+◌}
use mathlib.Core.List.{List}
use mathlib.Core.Path.{ap, ◌∙◌}
use Rattle.live.specs.Calls.{cleared, settled}
use Rattle.live.specs.declared.Auction.{Auction}
use Rattle.live.specs.declared.Step.{Step}
use Rattle.live.specs.declared.Kind.TheVariants.{Raised}
use Rattle.live.specs.declared.Ended.TheVariants.{Moved}
use Rattle.live.specs.declared.Phase.TheVariants.{Rising}
use Rattle.live.proofs.Sets.{raised-here}
use Rattle.live.proofs.Auction.raised_by.Goals as goal

-- the answer of the move: the record without reports, at the next prices
abbrev moved : Auction → ℕ → Auction → List ℕ → Step
moved r set n p =
    record {
      ended = Moved Raised set;
      next = record {
        items = n.items;
        bidders = n.bidders;
        prices = p;
        floors = n.floors;
        sets = n.sets;
        nulls = n.nulls;
        reported = n.reported;
        phase = Rising;
        raised = r.raised + 1;
        lowered = n.lowered;
      };
    }

pub returns : goal.returns
unfolding cleared settled
returns c =
    let r = c.args.self in
    let set = c.args.set in
    ap (λ (n : Auction). moved r set n c.raised.result) c.cleared.ensures
    ∙ ap (moved r set (cleared r)) (c.raised.ensures ∙ raised-here r c.requires.0 set)
