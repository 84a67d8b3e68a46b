-- Request #105: digits by cases. "Shown with it for all 256 bytes". The function of sixteen cases is called in `src`. Assumes nothing: these are statements, which
-- `proofs/Digits` proves.
use Rattle.std.specs.Prelude.{ℕ, ◌+◌, ◌<◌, ◌⊎◌, ◌≡◌, Option, None, Some}
use Rattle.digits.specs.Reading.{digit_value}
use Rattle.digits.specs.Table.{by_table}

-- "codes 48 to 57 give 0 to 9, codes 97 to 102 give 10 to 15, and no other is a digit"
pub record Ascii (value : ℕ → Option ℕ) : Type 0 where
  pub numerals : (d : ℕ) → d < 10 → value (48 + d) ≡ Some d
  pub letters : (d : ℕ) → d < 6 → value (97 + d) ≡ Some (10 + d)
  pub no_other : (b : ℕ) → b < 256 → (b < 48) ⊎ ((57 < b) × (b < 97)) ⊎ (102 < b) → value b ≡ None

pub record Request105 : Type 0 where
  pub cases : Ascii by_table
  -- the three sentences leave no byte open
  pub only : (value : ℕ → Option ℕ) → Ascii value → (b : ℕ) → b < 256 → value b ≡ by_table b
  -- "Every sheet is read as before": the rule that reading went by has the same values
  pub as_before : (b : ℕ) → b < 256 → by_table b ≡ digit_value b
