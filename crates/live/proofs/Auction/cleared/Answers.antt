-- `live::Auction::cleared` meets its contract. Assumes nothing.
use mathlib.Core.Path.{refl}
use Rattle.live.specs.Calls.{cleared}
use Rattle.live.proofs.Auction.cleared.Goals as goal

pub returns : goal.returns
unfolding cleared
returns c = refl
