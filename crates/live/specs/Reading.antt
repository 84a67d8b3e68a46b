-- Reading the close of a record: document 01, "The live letting" and "Order". Assumes nothing: these are definitions.
use Rattle.std.specs.Prelude.{ℕ, zero, suc, Bool, not, List, [], ◌∷◌, ltb, length}
use Rattle.rule.specs.Refusal.{on, first}
use Rattle.rule.specs.Assignment.{assignment}
use Rattle.lines.specs.Lines.{closing_sheet, closing_length, written_to}
use Rattle.live.specs.Auction.{reports_of, items_above, well_formed}
use Rattle.live.specs.Calls.{is_closed}
use Rattle.live.specs.declared.Auction.{Auction}

-- ---- read the close: 11, 15, 3

-- 3: too few bytes for the closing sheet
abbrev pub too_few : Auction → List ℕ → Bool
too_few r out = ltb (length out) (closing_length r.items r.bidders)

unfoldable pub read_number : Auction → List ℕ → ℕ
read_number r out =
    first
    (on 11 (not (well_formed r))
    ∷ on 15 (not (is_closed r.phase))
    ∷ on 3 (too_few r out)
    ∷ [])

-- the names: the first assignment in order, by the reports at the close
unfoldable pub names_of : Auction → List ℕ
names_of r = assignment r.items (items_above r) (reports_of r)

-- the record's closing sheet
unfoldable pub sheet_of : Auction → List ℕ
sheet_of r = closing_sheet r.items r.bidders r.raised r.lowered r.prices (names_of r)

-- the lent bytes afterwards
unfoldable pub read_bytes : Auction → List ℕ → List ℕ
read_bytes r out = elim (read_number r out) [ zero ↦ written_to out (sheet_of r) | suc j ↦ out ]
