-- `assignment::options` meets its contract. The options so far fill their places, can be completed, and begin the names. Assumes nothing.
use mathlib.Core.Path.{◌≡◌}
use Rattle.assignment.specs.Turn.{Demanded}
use Rattle.assignment.proofs.Assigning.{Going}
use Rattle.assignment.proofs.options.Given as goal

abbrev pub invariant-loop-b : goal.invariant-loop-b
invariant-loop-b l = record {
  going : Going l.at.n l.sets l.nulls l.at.above l.out l.x l.b l.at.opens l.at.later;
  demanded : Demanded l.at.n l.sets l.nulls l.at.demands l.at.who;
  same_n : l.at.n ≡ l.n;
  same_above : l.at.above ≡ l.above;
}
