-- `live::well_formed::price_sum` meets its contract. Assumes nothing.
use mathlib.Core.Path.{◌≡◌}
use mathlib.Core.List.{List}
use Prim.Native.Nat.{ℕ, suc, ◌*◌, ◌≤◌}
use Rattle.sets.specs.Sum.{sum}
use Rattle.rule.specs.Sheet.{amount}
use Rattle.live.proofs.well_formed.price_sum.Given as goal

abbrev pub sum_of : ℕ → List ℕ → ℕ
sum_of k p = sum k (λ j. amount p (suc j))

abbrev pub invariant-loop-price : goal.invariant-loop-price
invariant-loop-price l = (l.sum ≡ sum_of l.price-index l.prices) × (l.sum ≤ 65535 * l.price-index)
