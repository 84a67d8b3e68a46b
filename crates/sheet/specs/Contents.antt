-- What a bid sheet says, by value. Assumes nothing: these are definitions.
use Rattle.std.specs.Prelude.{ℕ, zero, suc, List, [], ◌∷◌, replicate}
use Rattle.sets.specs.Lists.{places}
use Rattle.rule.specs.Refusal.{on, first, any_over}
use Rattle.sheet.specs.BidSheet.{BidSheet}
use Rattle.sheet.specs.Close.{bid_sheet_of, unreadable}
use Rattle.sheet.specs.declared.Contents.{Contents}

-- the number that turns a bid sheet down where no closing sheet is asked for, so that 3 is not given: 6, 1, 2, 6, 4, 5
unfoldable pub bid_sheet_refusal : List ℕ → ℕ
bid_sheet_refusal bytes = first (unreadable bytes (on 4 (any_over (bid_sheet_of bytes).start) ∷ on 5 (any_over (bid_sheet_of bytes).bids) ∷ []))

-- what is handed back, by the number: the counts, the starting prices in 32 places and the bids in 2,048; beside a number zeros only
unfoldable pub contents : ℕ → BidSheet → Contents
contents zero s = record { refusal = 0; items = s.items; bidders = s.bidders; start = places 32 s.start; bids = places 2048 s.bids }
contents (suc why) s = record { refusal = suc why; items = 0; bidders = 0; start = replicate 32 0; bids = replicate 2048 0 }

-- what a bid sheet says
unfoldable pub contents_of : List ℕ → Contents
contents_of bytes = contents (bid_sheet_refusal bytes) (bid_sheet_of bytes)
