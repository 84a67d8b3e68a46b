-- Lines read from bytes: document 01, "Sheets"; document 02, #106, for the fourth line. Assumes nothing: these are definitions.
use Rattle.std.specs.Prelude.{ℕ, zero, suc, ◌+◌, ◌*◌, Bool, cond, List, [], ◌∷◌, eqb, get_or, Option, None, Some}
use Rattle.digits.specs.Reading.{◌>>=◌, number_at}

-- k numbers of n digits each, one after the other from a place on
unfoldable pub numbers_at : (k n : ℕ) → List ℕ → ℕ → Option (List ℕ)
numbers_at zero n bytes at = Some []
numbers_at (suc k) n bytes at = do
  x ← number_at n bytes at
  xs ← numbers_at k n bytes (at + n)
  Some (x ∷ xs)

-- byte 0a stands at a place: past the last byte, 0 stands for none
unfoldable pub ends_at : List ℕ → ℕ → Bool
ends_at bytes at = eqb (get_or bytes at 0) 10

-- the line that starts at a place: k numbers of n digits each, then byte 0a
unfoldable pub line_at : (k n : ℕ) → List ℕ → ℕ → Option (List ℕ)
line_at k n bytes at = do
  xs ← numbers_at k n bytes at
  cond (ends_at bytes (at + n * k)) (Some xs) None

-- what the three lines of a closing sheet say: rounds raised and rounds lowered, the prices, the options
pub record Said : Type 0 where
  pub rounds : List ℕ
  pub prices : List ℕ
  pub options : List ℕ

-- a closing sheet of m items and n bidders, read: each line starts right behind the one before
unfoldable pub read_closing : (m n : ℕ) → List ℕ → Option Said
read_closing m n bytes = do
  rounds ← line_at 2 6 bytes 0
  prices ← line_at m 4 bytes 13
  options ← line_at n 2 bytes (14 + 4 * m)
  Some (record { rounds = rounds; prices = prices; options = options })

-- what the four lines of a sealed auction's closing sheet say: those three, and the gains
pub record SaidSealed : Type 0 where
  pub said : Said
  pub gains : List ℕ

unfoldable pub read_sealed : (m n : ℕ) → List ℕ → Option SaidSealed
read_sealed m n bytes = do
  said ← read_closing m n bytes
  gains ← line_at n 4 bytes (15 + 4 * m + 2 * n)
  Some (record { said = said; gains = gains })
