-- A sheet of lent numbers: the bids stand in one list, bidder after bidder. Assumes nothing: these are definitions.
use Rattle.std.specs.Prelude.{ℕ, ◌*◌, List, take, drop, replicate}
use Rattle.sets.specs.Lists.{tabulate}
use Rattle.rule.specs.Sheet.{Sheet}

-- the line of bidder b + 1 (raker b + 1): their part of the bids, as long as there are items
unfoldable pub line_of : ℕ → List ℕ → ℕ → List ℕ
line_of m bids b = take m (drop (b * m) bids)

-- the lines of n bidders
unfoldable pub rows_of : ℕ → ℕ → List ℕ → List (List ℕ)
rows_of m n bids = tabulate n (line_of m bids) 0

-- the sheet of m items and n bidders
unfoldable pub sheet_above : ℕ → ℕ → (start floors bids : List ℕ) → Sheet
sheet_above m n start floors bids = record { items = m; start = start; floors = floors; bids = rows_of m n bids }

-- and without floors: they are 0
unfoldable pub sheet_of : ℕ → ℕ → List ℕ → List ℕ → Sheet
sheet_of m n start bids = sheet_above m n start (replicate m 0) bids
