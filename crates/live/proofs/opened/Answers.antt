-- `live::opened` meets its contract. Assumes nothing.
use mathlib.Core.Path.{refl, ap}
use Rattle.live.specs.Calls.{zeros, opened}
use Rattle.live.specs.declared.Auction.{Auction}
use Rattle.live.proofs.Parts.{by_parts}
use Rattle.live.proofs.opened.Goals as goal

pub returns : goal.returns
unfolding opened zeros
returns c =
    let z = c.zeros.ensures in
    by_parts _ _ refl refl c.in_places.ensures c.in_places-2.ensures
    (ap (λ (r : Auction). r.sets) z)
    (ap (λ (r : Auction). r.nulls) z)
    (ap (λ (r : Auction). r.reported) z)
    (ap (λ (r : Auction). r.phase) z)
    (ap (λ (r : Auction). r.raised) z)
    (ap (λ (r : Auction). r.lowered) z)
