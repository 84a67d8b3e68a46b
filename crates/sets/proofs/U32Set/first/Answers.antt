-- `first` of `Set` for `u32` meets its contract. Assumes nothing.
use Rattle.sets.proofs.Words.{word-one, word_first, word-all}
use Rattle.sets.proofs.U32Set.first.Goals as goal

pub overflow_sub-result : goal.overflow_sub-result
overflow_sub-result c = word-one 32 c.args.items c.if-items-lt32.true

pub returns-then-items-lt32 : goal.returns-then-items-lt32
returns-then-items-lt32 c = word_first 32 c.args.items c.if-items-lt32.true

pub returns : goal.returns
returns c = word-all 32 c.args.items c.if-items-lt32.false
