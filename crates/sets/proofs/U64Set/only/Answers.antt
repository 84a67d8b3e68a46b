-- `only` of `Set` for `u64` meets its contract. Assumes nothing.
use native.Mathlib.Omega.{arith}
use Rattle.sets.proofs.Words.{word-only, word-nobody}
use Rattle.sets.proofs.U64Set.only.Goals as goal

pub returns-then-bidder-eq0 : goal.returns-then-bidder-eq0
returns-then-bidder-eq0 c = word-nobody 64 c.args.bidder (λ k l e. omega arith)

pub returns : goal.returns
returns c = word-only 64 c.args.bidder c.if-bidder-eq0.false c.if-bidder-gt64.false
