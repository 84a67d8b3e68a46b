-- `live::Auction::at_top` meets its contract. Of the items passed so far none in the set stands at 4,095. Assumes nothing.
use mathlib.Core.Path.{◌≡◌}
use mathlib.Core.List.{List}
use mathlib.Core.Bool.{Bool, false, ◌&&◌}
use Prim.Native.Nat.{ℕ, suc, ◌<◌}
use lib.Dec.{eqb}
use Rattle.sets.specs.Bit.{has}
use Rattle.rule.specs.Sheet.{amount}
use Rattle.live.proofs.Auction.at_top.Given as goal

abbrev pub top_at : List ℕ → ℕ → ℕ → Bool
top_at prices set k = has set (suc k) && eqb (amount prices (suc k)) 4095

abbrev pub invariant-loop-k : goal.invariant-loop-k
invariant-loop-k l = (j : ℕ) → j < l.k → top_at l.self.prices l.set j ≡ false
