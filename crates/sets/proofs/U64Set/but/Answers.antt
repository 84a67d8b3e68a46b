-- `but` of `Set` for `u64` meets its contract. Assumes nothing.
use Rattle.sets.proofs.Words.{word-less}
use Rattle.sets.proofs.U64Set.but.Goals as goal

pub returns : goal.returns
returns c = word-less 64 c.args.self c.args.bidders c.ranges.self.fits c.ranges.bidders.fits
