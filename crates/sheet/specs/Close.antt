-- A bid sheet is closed: which number turns it down, and what the lent bytes hold afterwards. Assumes nothing: these are definitions.
use Rattle.std.specs.Prelude.{ℕ, zero, suc, Bool, true, false, ◌||◌, cond, List, [], ◌∷◌, ltb, length, Option, None, Some, unwrap_or}
use Rattle.rule.specs.Refusal.{Refusal, on, first, bad_items, bad_bidders, any_over}
use Rattle.lines.specs.Lines.{number_line, sealed_sheet, sealed_length, written_to}
use Rattle.auction.specs.Sealed.{sealed_of}
use Rattle.sheet.specs.BidSheet.{BidSheet, items_in, bidders_in, read_sheet}

-- nothing was read
abbrev pub is_none : {A : Type 0} → Option A → Bool
is_none None = true
is_none (Some a) = false

-- the counts of a sheet's first four bytes, and what the sheet says; zeros and nothing where it could not be read
unfoldable pub items_of : List ℕ → ℕ
items_of bytes = unwrap_or (items_in bytes) 0

unfoldable pub bidders_of : List ℕ → ℕ
bidders_of bytes = unwrap_or (bidders_in bytes) 0

unfoldable pub bid_sheet_of : List ℕ → BidSheet
bid_sheet_of bytes = unwrap_or (read_sheet bytes) (record { items = 0; bidders = 0; start = []; bids = [] })

-- what is asked before the amounts of a sheet are, and then what `rest` asks: 6 for the first four bytes, 1, 2, 6 for the rest
abbrev pub unreadable : List ℕ → List Refusal → List Refusal
unreadable bytes rest =
    on 6 (is_none (items_in bytes) || is_none (bidders_in bytes))
    ∷ on 1 (bad_items (items_of bytes))
    ∷ on 2 (bad_bidders (bidders_of bytes))
    ∷ on 6 (is_none (read_sheet bytes))
    ∷ rest

-- the number that turns a bid sheet down, with room for so many bytes of a closing sheet: document 01's order for sheets
unfoldable pub sheet_refusal : List ℕ → (room : ℕ) → ℕ
sheet_refusal bytes room =
    first
    (unreadable bytes
    (on 3 (ltb room (sealed_length (items_of bytes) (bidders_of bytes)))
    ∷ on 4 (any_over (bid_sheet_of bytes).start)
    ∷ on 5 (any_over (bid_sheet_of bytes).bids)
    ∷ []))

-- the closing sheet of a bid sheet, by the sealed auction
unfoldable pub closing_of : BidSheet → List ℕ
closing_of s =
    let c = sealed_of s.items s.bidders s.start s.bids in
    sealed_sheet s.items s.bidders c.raised c.lowered c.prices c.assignment c.gains

-- the one where no number was given, the other where one was
abbrev pub by_number : {A : Type 0} → ℕ → A → A → A
by_number zero a b = a
by_number (suc why) a b = b

-- the lent bytes afterwards: the closing sheet at their front, or as they came
unfoldable pub closed_to : List ℕ → List ℕ → List ℕ
closed_to bytes out = by_number (sheet_refusal bytes (length out)) (written_to out (closing_of (bid_sheet_of bytes))) out

-- the answer to a bid sheet: the closing sheet, or the number's line, and nothing where there is not even room for that
unfoldable pub answer_of : List ℕ → (room : ℕ) → List ℕ
answer_of bytes room = cond (ltb room 3) [] (by_number (sheet_refusal bytes room) (closing_of (bid_sheet_of bytes)) (number_line (sheet_refusal bytes room)))
