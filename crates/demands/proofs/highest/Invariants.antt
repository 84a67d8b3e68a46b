-- `demands::highest` meets its contract. The top so far is the highest surplus of the items passed. Assumes nothing.
use Prim.Native.Nat.{◌-◌}
use mathlib.Core.Path.{◌≡◌}
use Rattle.rule.specs.Sheet.{amount, greatest}
use Rattle.demands.proofs.highest.Given as goal

abbrev pub invariant-loop-i : goal.invariant-loop-i
invariant-loop-i l = l.top ≡ greatest l.i (λ k. amount l.line k - amount l.prices k)
