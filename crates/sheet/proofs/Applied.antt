-- The smallest bid sheets that tell a wrong definition from a right one, by computation: one item (pan) at 1 and two bidders (rakers) who bid 2, and one of each
-- with amounts that are too high. No number turns the bytes of the first down, so that what is proved of accepted bytes is no empty claim. Assumes nothing.
use Prim.Native.Nat.{ℕ}
use mathlib.Core.Path.{◌≡◌, refl}
use mathlib.Core.List.{List, [], ◌∷◌}
use lib.ListN.{replicate}
use Rattle.sets.specs.Count.{any_below}
use Rattle.sets.specs.Lists.{tabulate, places}
use Rattle.rule.specs.Refusal.{first, bad_items, bad_bidders, any_over}
use Rattle.digits.specs.Reading.{digit_value, digit_at, number_at}
use Rattle.lines.specs.Lines.{sealed_length}
use Rattle.lines.specs.Reading.{numbers_at, ends_at, line_at}
use Rattle.bids.specs.Lent.{line_of, rows_of, sheet_above, sheet_of}
use Rattle.sheet.specs.BidSheet.{items_in, bidders_in, bids_at, read_sheet}
use Rattle.sheet.specs.Close.{items_of, bidders_of, bid_sheet_of, sheet_refusal}
use Rattle.sheet.specs.Contents.{bid_sheet_refusal, contents, contents_of}
use Rattle.sheet.specs.Accepted.{sheet_in}

-- the definitions that the cases compute with
computing : Unit {0}
unfolding any_below tabulate places first bad_items bad_bidders any_over digit_value digit_at number_at sealed_length numbers_at ends_at line_at line_of rows_of sheet_of sheet_above items_in bidders_in bids_at read_sheet items_of bidders_of bid_sheet_of sheet_refusal bid_sheet_refusal contents contents_of sheet_in
computing = tt

-- the lines 01020001, 0002 and 0002
abbrev two_bytes : List ℕ
two_bytes = 48 ∷ 49 ∷ 48 ∷ 50 ∷ 48 ∷ 48 ∷ 48 ∷ 49 ∷ 10 ∷ 48 ∷ 48 ∷ 48 ∷ 50 ∷ 10 ∷ 48 ∷ 48 ∷ 48 ∷ 50 ∷ 10 ∷ []

-- what they say
pub says : sheet_in two_bytes ≡ record { items = 1; start = 1 ∷ []; floors = 0 ∷ []; bids = (2 ∷ []) ∷ (2 ∷ []) ∷ [] }
unfolding computing
says = refl

-- no number, with room for 32 bytes, and 3 with room for 31: four lines, and not only the three that 23 are room for
pub no_number : sheet_refusal two_bytes 32 ≡ 0
unfolding computing
no_number = refl

pub too-few : sheet_refusal two_bytes 31 ≡ 3
unfolding computing
too-few = refl

-- of the bytes 0140 and 0141 alone: 64 bidders are not too many for a sheet, whose first line is cut off, and 65 are
pub sixty-four : (sheet_refusal (48 ∷ 49 ∷ 52 ∷ 48 ∷ []) 528 ≡ 6) × (sheet_refusal (48 ∷ 49 ∷ 52 ∷ 49 ∷ []) 528 ≡ 2)
unfolding computing
sixty-four = (refl, refl)

-- by value
pub is-read : contents_of two_bytes ≡ record { refusal = 0; items = 1; bidders = 2; start = 1 ∷ replicate 31 0; bids = 2 ∷ 2 ∷ replicate 2046 0 }
unfolding computing
is-read = refl

-- the lines 01011000 and 1000, with another digit for either 1: an amount of 4,096 is too high
abbrev one_each : (start bid : ℕ) → List ℕ
one_each start bid = 48 ∷ 49 ∷ 48 ∷ 49 ∷ start ∷ 48 ∷ 48 ∷ 48 ∷ 10 ∷ bid ∷ 48 ∷ 48 ∷ 48 ∷ 10 ∷ []

-- 5 for the bid, beside zeros; 4 for the starting price; and 4 where both are
pub high-bid : contents_of (one_each 48 49) ≡ record { refusal = 5; items = 0; bidders = 0; start = replicate 32 0; bids = replicate 2048 0 }
unfolding computing
high-bid = refl

pub high-start : bid_sheet_refusal (one_each 49 48) ≡ 4
unfolding computing
high-start = refl

pub both_high : bid_sheet_refusal (one_each 49 49) ≡ 4
unfolding computing
both_high = refl
