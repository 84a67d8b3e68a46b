-- `without` of `Set` for `u32` meets its contract. Assumes nothing.
use Rattle.sets.proofs.Words.{word-without}
use Rattle.sets.proofs.U32Set.without.Goals as goal

pub returns : goal.returns
returns c = rw c.only.ensures (word-without 32 c.args.self c.args.item c.ranges.self.fits)
