-- A number read from bytes: document 01, "Sheets". Assumes nothing: these are definitions.
use Rattle.std.specs.Prelude.{ℕ, zero, suc, ◌+◌, ◌*◌, ◌-◌, ◌&&◌, cond, List, leb, Option, None, Some, slice_get}

infixl 20 ◌>>=◌
-- what one reading gives goes to the next; none where one of them gives none
abbrev pub ◌>>=◌ : {A B : Type 0} → Option A → (A → Option B) → Option B
None >>= f = None
Some a >>= f = f a

-- a byte's value as a digit: the bytes 48 to 57 are 0 to 9, the bytes 97 to 102 are a to f, and no other byte is a digit
unfoldable pub digit_value : ℕ → Option ℕ
digit_value b = cond (leb 48 b && leb b 57) (Some (b - 48)) (cond (leb 97 b && leb b 102) (Some (b - 87)) None)

-- the digit at a place; past the last byte there is none
unfoldable pub digit_at : List ℕ → ℕ → Option ℕ
digit_at bytes at = slice_get bytes at >>= digit_value

-- the number in n digits from a place on
unfoldable pub number_at : ℕ → List ℕ → ℕ → Option ℕ
number_at zero bytes at = Some 0
number_at (suc n) bytes at = do
  x ← number_at n bytes at
  d ← digit_at bytes (at + n)
  Some (16 * x + d)

-- the same of at most 8 digits, which a u32 holds
unfoldable pub number_in : ℕ → List ℕ → ℕ → Option ℕ
number_in n bytes at = cond (leb n 8) (number_at n bytes at) None
