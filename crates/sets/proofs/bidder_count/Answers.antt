-- `sets::bidder_count` meets its contract. Assumes nothing.
use Rattle.sets.proofs.Members.{size-ones}
use Rattle.sets.proofs.bidder_count.Goals as goal

pub returns : goal.returns
returns c = size-ones 64 c.args.g c.ranges.g.fits
