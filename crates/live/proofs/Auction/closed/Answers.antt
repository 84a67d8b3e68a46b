-- `live::Auction::closed` meets its contract. Assumes nothing.
use mathlib.Core.Path.{refl}
use Rattle.live.specs.Calls.{settled}
use Rattle.live.proofs.Auction.closed.Goals as goal

pub returns : goal.returns
unfolding settled
returns c = refl
