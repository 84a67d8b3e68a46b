-- A bid sheet that no number turns down: what is promised of the sheet that it says, and of the closing sheet that is written. Assumes nothing: these are
-- definitions.
use Rattle.std.specs.Prelude.{ℕ, ◌≡◌, List, length}
use Rattle.rule.specs.Sheet.{Sheet}
use Rattle.rule.specs.Closing.{assignment_at, Closing}
use Rattle.rule.specs.Gains.{gains_at}
use Rattle.lines.specs.Lines.{sealed_sheet, written_to}
use Rattle.bids.specs.Lent.{sheet_of}
use Rattle.auction.specs.Sealed.{sealed_of, Promised}
use Rattle.auction.specs.declared.Closing as auction
use Rattle.sheet.specs.BidSheet.{BidSheet}
use Rattle.sheet.specs.Close.{bid_sheet_of}

-- the sheet, as the rule has it, that the bytes say
unfoldable pub sheet_in : List ℕ → Sheet
sheet_in bytes = let s : BidSheet = bid_sheet_of bytes in sheet_of s.items s.bidders s.start s.bids

-- the outcome of its sealed auction, which is the one that `closing_of` writes down
unfoldable pub sealed_in : List ℕ → auction.Closing
sealed_in bytes = let s : BidSheet = bid_sheet_of bytes in sealed_of s.items s.bidders s.start s.bids

-- the closing sheet of a sheet's closing: its rounds raised, its rounds lowered, its closing prices, its names, and what each bidder gains from them
unfoldable pub sheet_of_closing : (s : Sheet) → Closing s → List ℕ
sheet_of_closing s c = sealed_sheet s.items (length s.bids) c.ups c.downs c.prices (assignment_at s c.prices) (gains_at s c.prices)

-- the lent bytes `out` are left as `after`: the sheet that the bytes say is within the limits and has a closing, of which the rule says all that demand 3 asks,
-- the outcome stands for it, and its closing sheet is what was written
pub record Accepted (bytes out after : List ℕ) : Type 0 where
  pub promised : Promised (sheet_in bytes) (sealed_in bytes)
  pub written : after ≡ written_to out (sheet_of_closing (sheet_in bytes) promised.closing)
