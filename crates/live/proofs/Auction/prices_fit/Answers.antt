-- `live::Auction::prices_fit` meets its contract. Assumes nothing.
use mathlib.Core.Path.{ap}
use mathlib.Core.Bool.{not}
use Rattle.live.specs.Auction.{prices_fit}
use Rattle.live.proofs.Auction.prices_fit.Goals as goal

pub returns : goal.returns
unfolding prices_fit
returns c = ap not c.any_over.ensures
