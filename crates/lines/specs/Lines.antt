-- Lines of numbers, and the closing sheet's bytes: document 01, "Sheets"; document 02, #106, for the fourth line. Assumes nothing: these are definitions.
use Rattle.std.specs.Prelude.{ℕ, zero, suc, ◌+◌, ◌*◌, ◌/◌, ◌%◌, Bool, ◌&&◌, cond, List, [], ◌∷◌, ◌++◌, leb, length, get_or, drop}
use Rattle.digits.specs.Digits.{hex}

-- the byte that ends each line
unfoldable pub newline : List ℕ
newline = 10 ∷ []

-- the lists f 0, …, f (n − 1), one after the other
unfoldable pub joined : ℕ → (ℕ → List ℕ) → List ℕ
joined zero f = []
joined (suc n) f = f 0 ++ joined n (λ k. f (suc k))

-- a number in 2 decimal digits, as document 01 writes the number that turns a call down
unfoldable pub number_text : ℕ → List ℕ
number_text x = (48 + x / 10) ∷ (48 + x % 10) ∷ []

-- that number alone on its line
unfoldable pub number_line : ℕ → List ℕ
number_line x = number_text x ++ newline

-- a line of k amounts, 4 digits each: prices, or gains
unfoldable pub amounts_line : ℕ → List ℕ → List ℕ
amounts_line k xs = joined k (λ j. hex 4 (get_or xs j 0)) ++ newline

-- three lines: rounds raised and rounds lowered, 6 digits each; each price, 4 digits; each bidder's option, 2 digits, 00 for none
unfoldable pub closing_sheet : (m n ups downs : ℕ) (prices options : List ℕ) → List ℕ
closing_sheet m n ups downs prices options =
    hex 6 ups ++ hex 6 downs ++ newline
    ++ amounts_line m prices
    ++ joined n (λ b. hex 2 (get_or options b 0)) ++ newline

-- of a sealed auction four: behind these each bidder's gain, 4 digits
unfoldable pub sealed_sheet : (m n ups downs : ℕ) (prices options gains : List ℕ) → List ℕ
sealed_sheet m n ups downs prices options gains = closing_sheet m n ups downs prices options ++ amounts_line n gains

-- how many bytes three lines are, and four
unfoldable pub closing_length : ℕ → ℕ → ℕ
closing_length m n = 15 + 4 * m + 2 * n

unfoldable pub sealed_length : ℕ → ℕ → ℕ
sealed_length m n = 16 + 4 * m + 6 * n

-- ---- written to lent bytes

-- sheets are written of at most 32 items and 64 bidders
unfoldable pub few_enough : ℕ → ℕ → Bool
few_enough m n = leb m 32 && leb n 64

-- so many bytes are written where there is room: none for other counts
unfoldable pub bytes_of : (m n long : ℕ) → ℕ
bytes_of m n long = cond (few_enough m n) long 0

-- lent bytes after the sheet is written to their front: bytes past the sheet stay as they came
unfoldable pub written_to : List ℕ → List ℕ → List ℕ
written_to out sheet = sheet ++ drop (length sheet) out

-- a sheet of so many bytes is written: of such counts, into bytes that are not too few for it
unfoldable pub writes : (m n long room : ℕ) → Bool
writes m n long room = few_enough m n && leb long room

-- the lent bytes afterwards: as before where the sheet is not written
unfoldable pub after_writing : (m n : ℕ) (sheet out : List ℕ) → List ℕ
after_writing m n sheet out = cond (writes m n (length sheet) (length out)) (written_to out sheet) out

-- there is room for a line of prices from a place on, and the items are at most 32
unfoldable pub has_room : (m at room : ℕ) → Bool
has_room m at room = leb m 32 && leb (at + (4 * m + 1)) room
