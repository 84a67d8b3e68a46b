-- `prices::first_under` meets its contract. The furthest so far that a floor is above its price is above 0 just where one of those passed is. Assumes nothing.
use Prim.Native.Nat.{◌-◌}
use mathlib.Core.Path.{◌≡◌}
use lib.Dec.{ltb}
use lib.ListN.{length, get_or}
use Rattle.sets.specs.Count.{any_below}
use Rattle.prices.proofs.first_under.Given as goal

abbrev pub invariant-loop-price : goal.invariant-loop-price
invariant-loop-price l = ltb 0 l.most ≡ any_below (length l.yielded) (λ k. ltb 0 (get_or l.floors k 0 - get_or l.prices k 0))
