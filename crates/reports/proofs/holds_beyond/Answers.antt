-- `reports::holds_beyond` meets its contract. Assumes nothing.
use Rattle.reports.proofs.Laws.{beyond-any}
use Rattle.reports.proofs.holds_beyond.Goals as goal

pub returns : goal.returns
returns c =
    let a = c.args in
    beyond-any a.items a.set c.first.result c.but.result c.first.ensures c.but.ensures
