-- `only` of `Set` for `u32` meets its contract. Assumes nothing.
use native.Mathlib.Omega.{arith}
use Rattle.sets.proofs.Words.{word-only, word-nobody}
use Rattle.sets.proofs.U32Set.only.Goals as goal

pub returns-then-item-eq0 : goal.returns-then-item-eq0
returns-then-item-eq0 c = word-nobody 32 c.args.item (λ k l e. omega arith)

pub returns : goal.returns
returns c = word-only 32 c.args.item c.if-item-eq0.false c.if-item-gt32.false
