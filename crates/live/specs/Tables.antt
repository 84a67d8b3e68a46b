-- The tables that the caller lends beside the record (document 02, #107): for each bidder 33 by 33 largest differences between two bids, one bidder's after the other's.
-- Assumes nothing: these are definitions.
use Rattle.std.specs.Prelude.{ℕ, ◌*◌, Bool, not, List, eqb, length, ℤ}
use Rattle.sets.specs.Count.{all_below, any_below}
use Rattle.rule.specs.Demand.{Demand}
use Rattle.differences.specs.Table.{opening, table_fits}
use Rattle.differences.specs.Allowed.{narrowed, unexplained}
use Rattle.differences.specs.Lent.{table_at, flat_all}
use Rattle.live.specs.Auction.{place}
use Rattle.live.specs.declared.Auction.{Auction}

-- 3: tables of the wrong length for n bidders
unfoldable pub bad_tables : (bidders : ℕ) (ts : List ℤ) → Bool
bad_tables n ts = not (eqb (length ts) (n * 1089))

-- not 11: every bidder's table is one that some bids of 0 to 4,095 meet, with numbers from −4,095 to 4,095, and 0 in the places beyond the items
unfoldable pub tables_fit : Auction → List ℤ → Bool
tables_fit r ts = all_below r.bidders λ k. table_fits r.items (table_at ts k)

-- the opening's tables, for all bids of 0 to 4,095
unfoldable pub open_tables : (items bidders : ℕ) → List ℤ
open_tables m n = flat_all n λ k. opening m

-- 19: no bids of 0 to 4,095 meet the table of place k and explain this report at the record's prices
unfoldable pub unexplained_at : Auction → List ℤ → ℕ → Demand → Bool
unexplained_at r ts k d = unexplained r.items (table_at ts k) r.prices d

-- 19 at an end: so it is of some bidder's report
unfoldable pub any_unexplained : Auction → List ℤ → Bool
any_unexplained r ts = any_below r.bidders λ k. unexplained_at r ts k (place r k)

-- each bidder's table narrowed to the bids that met it and explain the report
unfoldable pub narrowed_tables : Auction → List ℤ → List ℤ
narrowed_tables r ts = flat_all r.bidders λ k. narrowed r.items (table_at ts k) r.prices (place r k)
