-- `prices::any_past` meets its contract. The largest so far is above the limit just where one of those passed is. Assumes nothing.
use mathlib.Core.Path.{◌≡◌}
use lib.Dec.{ltb}
use lib.ListN.{get_or}
use Rattle.sets.specs.Count.{any_below}
use Rattle.prices.proofs.any_past.Given as goal

abbrev pub invariant-loop-x : goal.invariant-loop-x
invariant-loop-x l = ltb l.limit l.most ≡ any_below l.x-index (λ k. ltb l.limit (get_or l.xs k 0))
