-- `assignment::held` meets its contract: the places passed are those of the set. Assumes nothing.
use Prim.Native.Nat.{◌+◌, ◌^◌, ◌<◌}
use Rattle.assignment.specs.Turn.{Held}
use Rattle.assignment.proofs.held.Given as goal

abbrev pub invariant-loop-p : goal.invariant-loop-p
invariant-loop-p l = (l.s < 2 ^ 64) × Held l.x l.k (l.k + l.p-index) l.s
