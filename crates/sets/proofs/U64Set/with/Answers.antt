-- `with` of `Set` for `u64` meets its contract. Assumes nothing.
use Rattle.sets.proofs.Words.{word-with}
use Rattle.sets.proofs.U64Set.with.Goals as goal

pub returns : goal.returns
returns c = rw c.only.ensures (word-with 64 c.args.self c.args.bidder c.ranges.self.fits)
