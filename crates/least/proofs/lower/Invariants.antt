-- `least::lower` meets its contract: each turn lowers one price. Assumes nothing.
use Prim.Native.Nat.{◌-◌}
use lib.ListN.{get_or}
use Rattle.least.specs.Putting.{Changed}
use Rattle.least.proofs.lower.Given as goal

abbrev pub invariant-loop-i : goal.invariant-loop-i
invariant-loop-i l = Changed l.i (λ x. get_or l.initial.prices x 0 - get_or l.dist x 0) l.initial.prices l.prices
