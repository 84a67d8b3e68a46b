-- `without` of `Set` for `u64` meets its contract. Assumes nothing.
use Rattle.sets.proofs.Words.{word-without}
use Rattle.sets.proofs.U64Set.without.Goals as goal

pub returns : goal.returns
returns c = rw c.only.ensures (word-without 64 c.args.self c.args.bidder c.ranges.self.fits)
