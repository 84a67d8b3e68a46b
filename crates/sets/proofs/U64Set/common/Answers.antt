-- `common` of `Set` for `u64` meets its contract. Assumes nothing.
use Rattle.sets.proofs.Words.{word_and}
use Rattle.sets.proofs.U64Set.common.Goals as goal

pub returns : goal.returns
returns c = word_and 64 c.args.self c.args.bidders c.ranges.self.fits c.ranges.bidders.fits
