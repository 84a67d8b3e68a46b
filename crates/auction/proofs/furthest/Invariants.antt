-- `auction::furthest` meets its contract. The most so far is the greatest of the places passed. Assumes nothing.
use Prim.Native.Nat.{◌-◌}
use mathlib.Core.Path.{◌≡◌}
use lib.ListN.{length}
use Rattle.rule.specs.Sheet.{amount, greatest}
use Rattle.auction.proofs.furthest.Given as goal

abbrev pub invariant-loop-x : goal.invariant-loop-x
invariant-loop-x l = l.most ≡ greatest (length l.yielded) (λ j. amount l.a j - amount l.b j)
