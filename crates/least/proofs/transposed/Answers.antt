-- `least::transposed` meets its contract: each turn fills one line. Assumes nothing.
use Rattle.least.proofs.Tables.{lines_none, lines_more, zeros-small}
use Rattle.least.proofs.transposed.Goals as goal

pub loop-i-init : goal.loop-i-init
loop-i-init c = (zeros-small 2048, lines_none c.requires _)

pub loop-i-preserved : goal.loop-i-preserved
loop-i-preserved c =
    let at = c.loop-i in
    let t = c.transpose_line in
    (t.ensures.small, lines_more c.requires at.i at.table t.new.table at.invariant.1 t.ensures)
