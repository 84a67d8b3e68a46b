-- `live::Complete::all_explained` meets its contract: the reports of the bidders passed so far are explained. Assumes nothing.
use Prim.Native.Nat.{ℕ, ◌<◌}
use mathlib.Core.Path.{◌≡◌}
use mathlib.Core.Bool.{false}
use Rattle.live.specs.Auction.{place}
use Rattle.live.specs.Tables.{unexplained_at}
use Rattle.live.proofs.Complete.all_explained.Given as goal

abbrev pub invariant-loop-k : goal.invariant-loop-k
invariant-loop-k l = (j : ℕ) → j < l.k → unexplained_at l.auction l.tables j (place l.auction j) ≡ false
