-- `least::Paths::relax` meets its contract: each turn does one place, and keeps the least distance so far. Assumes nothing.
use Prim.Native.Nat.{◌≤◌}
use mathlib.Core.Path.{◌≡◌}
use Rattle.least.specs.Steps.{Reached, Lowest}
use Rattle.least.proofs.Paths.relax.Given as goal

abbrev pub invariant-loop-x : goal.invariant-loop-x
invariant-loop-x l = Reached l.u l.j l.line l.prices l.initial.self.dist l.initial.self.via l.x l.self.dist l.self.via × Lowest l.self.dist l.self.left l.x l.low × (l.low ≤ 65535) × (l.self.left ≡ l.initial.self.left)
