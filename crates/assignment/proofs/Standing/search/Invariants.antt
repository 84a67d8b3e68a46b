-- `assignment::Standing::search` meets its contract: each turn expands one place, until all that are seen are done. Assumes nothing.
use Prim.Native.Nat.{◌-◌}
use Rattle.assignment.specs.Search.{Start}
use Rattle.assignment.proofs.Searching.{Searching}
use Rattle.assignment.proofs.Standing.search.Given as goal

abbrev pub invariant-loop-done : goal.invariant-loop-done
invariant-loop-done l =
    (s : Start l.self.who l.x l.spare l.self.later l.self.k) → Searching s l.unpriced l.wish l.ways.next l.ways.entered l.done l.ways.seen l.left l.turn

abbrev pub decreases-loop-done : goal.decreases-loop-done
decreases-loop-done l = 66 - l.turn
