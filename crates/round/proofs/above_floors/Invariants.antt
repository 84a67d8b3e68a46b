-- `round::above_floors` meets its contract. Each turn adds one item, if its price is above the floor. Assumes nothing.
use mathlib.Core.Path.{◌≡◌}
use lib.Dec.{ltb}
use Rattle.sets.specs.Bit.{set_of}
use Rattle.rule.specs.Sheet.{amount}
use Rattle.round.proofs.above_floors.Given as goal

abbrev pub invariant-loop-i : goal.invariant-loop-i
invariant-loop-i l = l.s ≡ set_of l.i (λ j. ltb (amount l.floors j) (amount l.prices j))
