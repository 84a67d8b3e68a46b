-- `matching::Matcher::seat_all` meets its contract: the bidders passed are placed if they must be, and nothing that was held is free. Assumes nothing.
use Prim.Native.Nat.{◌-◌}
use Rattle.matching.specs.Chain.{Filled, Seated}
use Rattle.matching.proofs.Matcher.seat_all.Given as goal

abbrev pub invariant-loop-b : goal.invariant-loop-b
invariant-loop-b l = Seated l.demand l.bidders l.self.holder (l.b - 1) × Filled l.initial.self.holder l.self.holder
