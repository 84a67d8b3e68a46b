-- `differences::Report::pivot` meets its contract. Assumes nothing.
use Rattle.differences.specs.Constraint.{pivot}
use Rattle.differences.proofs.Report.pivot.Goals as goal

pub returns-then-self : goal.returns-then-self
unfolding pivot
returns-then-self c = let e = c.if-self.true in simp e

pub returns : goal.returns
unfolding pivot
returns c = let e = c.if-self.false in let h = c.lowest.ensures in simp (e, h)
