-- `live::Complete::narrow_all` meets its contract: the tables of the bidders done are narrowed, and those of the others are as they came. Assumes nothing.
use Prim.Native.Nat.{◌*◌}
use mathlib.Core.Path.{◌≡◌}
use lib.ListN.{take, drop}
use Rattle.differences.specs.Allowed.{narrowed}
use Rattle.differences.specs.Lent.{table_at, flat_all}
use Rattle.live.specs.Auction.{place}
use Rattle.live.proofs.Complete.narrow_all.Given as goal

abbrev pub invariant-loop-k : goal.invariant-loop-k
invariant-loop-k l = (take (l.k * 1089) l.tables ≡ flat_all l.k (λ k. narrowed l.self.auction.items (table_at l.initial.tables k) l.self.auction.prices (place l.self.auction k)))
    × (drop (l.k * 1089) l.tables ≡ drop (l.k * 1089) l.initial.tables)
