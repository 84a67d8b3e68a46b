-- A bidder's line, as it is shown: document 01, "Sheets" and "Order". Assumes nothing: these are definitions.
use Rattle.std.specs.Prelude.{ℕ, zero, suc, ◌+◌, ◌-◌, ◌*◌, ◌≡◌, Bool, ◌&&◌, cond, List, [], ◌∷◌, leb, length}
use Rattle.std.specs.Borrow.{Bor}
use Rattle.rule.specs.Refusal.{on, first, bad_items, bad_bidders, bad_length, bad_bidder}
use Rattle.bids.specs.Lent.{line_of}

-- a part of lent 16-bit numbers that starts at number k of them: not a copy, but that part itself. It stands in the same block of memory, 2 bytes further on for
-- each number
abbrev pub starts_at : (k : ℕ) (lent part : Bor (List ℕ)) → Type 0
starts_at k lent part = (part.ref_ptr.0 ≡ lent.ref_ptr.0) × (part.ref_ptr.1 ≡ lent.ref_ptr.1 + 2 * k)

-- a table of numbers with m columns has a row b, counted from 0. No more than 64 columns are asked for
unfoldable pub has_row : (m b : ℕ) → List ℕ → Bool
has_row m b table = leb m 64 && leb (b * m + m) (length table)

-- that row, and where it starts; nothing, at the front, where there is none
unfoldable pub row_shown : (m b : ℕ) → List ℕ → List ℕ
row_shown m b table = cond (has_row m b table) (line_of m table b) []

unfoldable pub row_start : (m b : ℕ) → List ℕ → ℕ
row_start m b table = cond (has_row m b table) (b * m) 0

-- the number that turns the asking for bidder b's line down, or 0: 1, 2, 3, 7
unfoldable pub line_refusal : ℕ → ℕ → ℕ → List ℕ → ℕ
line_refusal m n b bids = first (on 1 (bad_items m) ∷ on 2 (bad_bidders n) ∷ on 3 (bad_length bids (n * m)) ∷ on 7 (bad_bidder n b) ∷ [])

-- the part of the bids that is shown, by that number: where the call is turned down, a part of length 0
unfoldable pub shown : ℕ → List ℕ → List ℕ
shown zero part = part
shown (suc why) part = []

unfoldable pub line_shown : ℕ → ℕ → ℕ → List ℕ → List ℕ
line_shown m n b bids = shown (line_refusal m n b bids) (line_of m bids (b - 1))

-- where that part starts: at the bidder's first bid, and at the front of the bids where it is of length 0
unfoldable pub line_start : ℕ → ℕ → ℕ → List ℕ → ℕ
line_start m n b bids = elim (line_refusal m n b bids) [ zero ↦ (b - 1) * m | suc why ↦ 0 ]
