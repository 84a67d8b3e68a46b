-- `reports::is_empty` meets its contract. Assumes nothing.
use Rattle.reports.specs.Report.{saying, is_empty}
use Rattle.reports.proofs.is_empty.Goals as goal

pub returns-then-not-null : goal.returns-then-not-null
unfolding is_empty saying
returns-then-not-null c = simp c.if-not-null.true

pub returns-else-not-null : goal.returns-else-not-null
unfolding is_empty saying
returns-else-not-null c = simp c.if-not-null.false
