-- `live::Auction::floors_fit` meets its contract. Assumes nothing.
use mathlib.Core.Path.{◌≡◌, ap, ◌∙◌}
use mathlib.Core.Bool.{not}
use Rattle.live.specs.Auction.{from_floors}
use Rattle.live.proofs.Formed.{floors-clauses}
use Rattle.live.proofs.Auction.floors_fit.Goals as goal

pub returns : goal.returns
returns c =
    let r = c.args.self in
    let tested : not c.any_under.result ≡ from_floors r = unfold from_floors in ap not c.any_under.ensures in
    tested ∙ floors-clauses r c.requires.0 c.requires.1
