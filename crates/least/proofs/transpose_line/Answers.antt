-- `least::transpose_line` meets its contract: each turn fills one place. Assumes nothing.
use native.Mathlib.Omega.{arith}
use Rattle.least.proofs.Tables.{line-fits, bid-fits, transposed-more}
use borrow.Author.Rules.{rules}
use Rattle.least.proofs.transpose_line.Goals as goal

pub overflow_mul-start : goal.overflow_mul-start
overflow_mul-start c = omega (arith, line-fits c.requires.0 c.args.i c.requires.1)

pub overflow_mul-table : goal.overflow_mul-table
overflow_mul-table c =
    let low = bid-fits c.requires.0 c.loop-b.b c.args.i (omega arith) c.requires.1 in
    search rules

pub overflow_add-table : goal.overflow_add-table
overflow_add-table c =
    let low = bid-fits c.requires.0 c.loop-b.b c.args.i (omega arith) c.requires.1 in
    search rules

pub offset_bounds-bids-b : goal.offset_bounds-bids-b
offset_bounds-bids-b c =
    let low = bid-fits c.requires.0 c.loop-b.b c.args.i (omega arith) c.requires.1 in
    search rules

pub bounds-bids-b : goal.bounds-bids-b
bounds-bids-b c =
    let low = bid-fits c.requires.0 c.loop-b.b c.args.i (omega arith) c.requires.1 in
    search rules

pub overflow_add-table-in-loop-b : goal.overflow_add-table-in-loop-b
overflow_add-table-in-loop-b c =
    let low = line-fits c.requires.0 c.args.i c.requires.1 in
    search rules

pub offset_bounds-table-start : goal.offset_bounds-table-start
offset_bounds-table-start c =
    let low = line-fits c.requires.0 c.args.i c.requires.1 in
    search rules

pub bounds-table-start : goal.bounds-table-start
bounds-table-start c =
    let low = line-fits c.requires.0 c.args.i c.requires.1 in
    search rules

pub loop-b-preserved : goal.loop-b-preserved
loop-b-preserved c =
    let a = c.args in
    let at = c.loop-b in
    transposed-more c.requires.0 a.i at.b a.table.now at.table c.requires.1 (omega arith) at.invariant
