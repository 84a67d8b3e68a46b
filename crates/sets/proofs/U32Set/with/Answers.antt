-- `with` of `Set` for `u32` meets its contract. Assumes nothing.
use Rattle.sets.proofs.Words.{word-with}
use Rattle.sets.proofs.U32Set.with.Goals as goal

pub returns : goal.returns
returns c = rw c.only.ensures (word-with 32 c.args.self c.args.item c.ranges.self.fits)
