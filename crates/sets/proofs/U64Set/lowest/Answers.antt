-- `lowest` of `Set` for `u64` meets its contract. Assumes nothing.
use Rattle.sets.proofs.Lowest.{empty-lowest, lowest-unique}
use Rattle.sets.specs.Bit.{has}
use Rattle.sets.proofs.Words.{word-lowest}
use Rattle.sets.proofs.U64Set.lowest.Goals as goal

pub returns-then-self-eq0 : goal.returns-then-self-eq0
returns-then-self-eq0 c = lowest-unique 64 (has c.args.self) 0 (empty-lowest 64 c.args.self c.if-self-eq0.true)

pub returns : goal.returns
returns c = word-lowest 64 c.args.self c.if-self-eq0.false c.ranges.self.fits
