-- Bid sheets as they are written: document 01, "Sheets". Assumes nothing: these are definitions.
use Rattle.std.specs.Prelude.{ℕ, ◌+◌, ◌*◌, ◌^◌, ◌<◌, ◌≡◌, List, ◌++◌, length, get_or}
use Rattle.digits.specs.Digits.{hex}
use Rattle.lines.specs.Lines.{newline, joined}
use Rattle.sheet.specs.BidSheet.{BidSheet}

-- bidder b's line, b from 0: a bid for each of m items
unfoldable pub bid_line : (m : ℕ) → List ℕ → ℕ → List ℕ
bid_line m bids b = joined m (λ k. hex 4 (get_or bids (b * m + k) 0)) ++ newline

-- the first line: items and bidders as 2 digits each, then each starting price as 4 digits; then one line a bidder, in order
unfoldable pub bid_sheet : BidSheet → List ℕ
bid_sheet s =
    hex 2 s.items ++ hex 2 s.bidders ++ joined s.items (λ k. hex 4 (get_or s.start k 0)) ++ newline
    ++ joined s.bidders (bid_line s.items s.bids)

-- what can be written so: counts of 2 digits, a starting price for each item and a bid of each bidder for each item, all of 4 digits
pub record Writable (s : BidSheet) : Type 0 where
  pub items : s.items < 16 ^ 2
  pub bidders : s.bidders < 16 ^ 2
  pub starts : length s.start ≡ s.items
  pub start : (k : ℕ) → k < s.items → get_or s.start k 0 < 16 ^ 4
  pub rows : length s.bids ≡ s.bidders * s.items
  pub bids : (k : ℕ) → k < s.bidders * s.items → get_or s.bids k 0 < 16 ^ 4
