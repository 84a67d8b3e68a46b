-- `first` of `Set` for `u64` meets its contract. Assumes nothing.
use Rattle.sets.proofs.Words.{word-one, word_first, word-all}
use Rattle.sets.proofs.U64Set.first.Goals as goal

pub overflow_sub-result : goal.overflow_sub-result
overflow_sub-result c = word-one 64 c.args.bidders c.if-bidders-lt64.true

pub returns-then-bidders-lt64 : goal.returns-then-bidders-lt64
returns-then-bidders-lt64 c = word_first 64 c.args.bidders c.if-bidders-lt64.true

pub returns : goal.returns
returns c = word-all 64 c.args.bidders c.if-bidders-lt64.false
