-- `demands::demand_of` meets its contract. The items so far are those of the highest surplus that are bid for. Assumes nothing.
use mathlib.Core.Path.{◌≡◌}
use lib.ListN.{length}
use Rattle.sets.specs.Bit.{set_of}
use Rattle.demands.proofs.Surplus.{demanded_at}
use Rattle.demands.proofs.demand_of.Given as goal

abbrev pub invariant-loop-i : goal.invariant-loop-i
invariant-loop-i l = l.items ≡ set_of l.i (demanded_at (length l.line) l.prices l.line)
