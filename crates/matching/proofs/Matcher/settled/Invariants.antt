-- `matching::Matcher::settled` meets its contract: the bidders passed are settled. Assumes nothing.
use Prim.Native.Nat.{◌-◌}
use Rattle.matching.specs.Chain.{Settled}
use Rattle.matching.proofs.Matcher.settled.Given as goal

abbrev pub invariant-loop-b : goal.invariant-loop-b
invariant-loop-b l = Settled l.demand l.matcher.holder l.matcher.entered (l.b - 1)
