-- `live::Auction::unused_prices` meets its contract. The prices from the count up to i are zero. Assumes nothing.
use mathlib.Core.Path.{◌≡◌}
use Prim.Native.Nat.{ℕ, ◌≤◌, ◌<◌}
use lib.ListN.{get_or}
use Rattle.live.proofs.Auction.unused_prices.Given as goal

abbrev pub invariant-loop-i : goal.invariant-loop-i
invariant-loop-i l = (k : ℕ) → k < l.i → l.self.items ≤ k → get_or l.self.prices k 0 ≡ 0
