-- `but` of `Set` for `u32` meets its contract. Assumes nothing.
use Rattle.sets.proofs.Words.{word-less}
use Rattle.sets.proofs.U32Set.but.Goals as goal

pub returns : goal.returns
returns c = word-less 32 c.args.self c.args.items c.ranges.self.fits c.ranges.items.fits
