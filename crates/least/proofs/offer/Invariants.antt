-- `least::offer` meets its contract: each turn does one place. Assumes nothing.
use Prim.Native.Nat.{max}
use lib.ListN.{get_or}
use Rattle.least.specs.Putting.{Changed}
use Rattle.least.proofs.offer.Given as goal

abbrev pub invariant-loop-x : goal.invariant-loop-x
invariant-loop-x l = Changed l.x (λ y. max (get_or l.initial.best y 0) (get_or l.line y 0)) l.initial.best l.best
