-- `common` of `Set` for `u32` meets its contract. Assumes nothing.
use Rattle.sets.proofs.Words.{word_and}
use Rattle.sets.proofs.U32Set.common.Goals as goal

pub returns : goal.returns
returns c = word_and 32 c.args.self c.args.items c.ranges.self.fits c.ranges.items.fits
