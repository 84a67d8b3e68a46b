-- Bid sheets: document 01, "Sheets". Lines of hexadecimal, each ended by byte 0a; reading goes on from the byte after the last line read. Assumes nothing: these
-- are definitions.
use Rattle.std.specs.Prelude.{ℕ, zero, suc, ◌+◌, ◌*◌, cond, List, [], ◌++◌, eqb, length, Option, None, Some}
use Rattle.digits.specs.Reading.{◌>>=◌, number_at}
use Rattle.lines.specs.Reading.{line_at}

-- what a bid sheet says: how many items (pans) and bidders (rakers), each item's starting price (rent), and the bids, bidder after bidder
pub record BidSheet : Type 0 where
  pub items : ℕ
  pub bidders : ℕ
  pub start : List ℕ
  pub bids : List ℕ

-- the first line starts with items and bidders, 2 digits each
unfoldable pub items_in : List ℕ → Option ℕ
items_in bytes = number_at 2 bytes 0

unfoldable pub bidders_in : List ℕ → Option ℕ
bidders_in bytes = number_at 2 bytes 2

-- from a place on: one line for each of n bidders, a bid for each of m items as 4 digits, and nothing after the last line
unfoldable pub bids_at : (n m : ℕ) → List ℕ → ℕ → Option (List ℕ)
bids_at zero m bytes at = cond (eqb at (length bytes)) (Some []) None
bids_at (suc n) m bytes at = do
  xs ← line_at m 4 bytes at
  ys ← bids_at n m bytes (at + 4 * m + 1)
  Some (xs ++ ys)

-- the first line goes on with each starting price as 4 digits; then come the bids
unfoldable pub read_sheet : List ℕ → Option BidSheet
read_sheet bytes = do
  m ← items_in bytes
  n ← bidders_in bytes
  start ← line_at m 4 bytes 4
  bids ← bids_at n m bytes (5 + 4 * m)
  Some (record { items = m; bidders = n; start = start; bids = bids })
