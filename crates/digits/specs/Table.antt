-- The digits by cases, to be laid beside the ASCII table: document 02, #105. Assumes nothing: these are definitions.
use Rattle.std.specs.Prelude.{ℕ, ◌+◌, ◌<◌, ◌≡◌, cond, List, [], ◌∷◌, ◌⊎◌, eqb, Option, None, Some}

-- the byte of each digit and its value, in the order of the ASCII table
abbrev pub digit_table : List (ℕ × ℕ)
digit_table =
    (48, 0)
    ∷ (49, 1)
    ∷ (50, 2)
    ∷ (51, 3)
    ∷ (52, 4)
    ∷ (53, 5)
    ∷ (54, 6)
    ∷ (55, 7)
    ∷ (56, 8)
    ∷ (57, 9)
    ∷ (97, 10)
    ∷ (98, 11)
    ∷ (99, 12)
    ∷ (100, 13)
    ∷ (101, 14)
    ∷ (102, 15)
    ∷ []

-- the value that a table has beside a byte
unfoldable pub beside : List (ℕ × ℕ) → ℕ → Option ℕ
beside [] b = None
beside (row ∷ rows) b = cond (eqb b row.0) (Some row.1) (beside rows b)

-- a byte's value as a digit, by the table
unfoldable pub by_table : ℕ → Option ℕ
by_table b = beside digit_table b

-- what the table shows of all 256 bytes: 48 to 57 are 0 to 9, 97 to 102 are 10 to 15, and no other is a digit
pub record AsciiDigits (value : ℕ → Option ℕ) : Type 0 where
  pub numerals : (d : ℕ) → d < 10 → value (48 + d) ≡ Some d
  pub letters : (d : ℕ) → d < 6 → value (97 + d) ≡ Some (10 + d)
  pub no_other : (b : ℕ) → b < 256 → (b < 48) ⊎ ((57 < b) × (b < 97)) ⊎ (102 < b) → value b ≡ None
