-- `live::Auction::tables_fit` meets its contract: the tables of the bidders passed so far fit. Assumes nothing.
use Prim.Native.Nat.{ℕ, ◌<◌}
use mathlib.Core.Path.{◌≡◌}
use mathlib.Core.Bool.{true}
use Rattle.differences.specs.Table.{table_fits}
use Rattle.differences.specs.Lent.{table_at}
use Rattle.live.proofs.Auction.tables_fit.Given as goal

abbrev pub invariant-loop-k : goal.invariant-loop-k
invariant-loop-k l = (j : ℕ) → j < l.k → table_fits l.self.items (table_at l.tables j) ≡ true
