-- What each byte is worth as a digit, the byte of a digit, and how many digits there are. Assumes nothing.
use Prim.Native.Nat.{ℕ, zero, suc, ◌+◌, ◌-◌, ◌/◌, ◌%◌, ◌≤◌, ◌<◌}
use mathlib.Core.Path.{◌≡◌, refl, sym, ap}
use mathlib.Core.List.{[], ◌∷◌}
use Rattle.std.specs.Prelude.{Option, None, Some, unwrap_or}
use native.Mathlib.Omega.{arith}
use lib.ListN.{length, length-append}
use borrow.Author.Tests.{lt-ltb, le-ltb, le-leb, lt-leb}
use Rattle.digits.specs.Digits.{digit, hex}
use Rattle.digits.specs.Reading.{digit_value}

pub decimal : (b : ℕ) → 48 ≤ b → b ≤ 57 → digit_value b ≡ Some (b - 48)
unfolding digit_value
decimal b l h = simp (le-leb 48 b l, le-leb b 57 h)

pub letter : (b : ℕ) → 97 ≤ b → b ≤ 102 → digit_value b ≡ Some (b - 87)
unfolding digit_value
letter b l h = simp (le-leb 48 b (omega arith), lt-leb b 57 (omega arith), le-leb 97 b l, le-leb b 102 h)

pub below : (b : ℕ) → b < 48 → digit_value b ≡ None
unfolding digit_value
below b h = simp (lt-leb 48 b h, lt-leb 97 b (omega arith))

pub between : (b : ℕ) → 57 < b → b < 97 → digit_value b ≡ None
unfolding digit_value
between b l h = simp (le-leb 48 b (omega arith), lt-leb b 57 l, lt-leb 97 b h)

pub above : (b : ℕ) → 102 < b → digit_value b ≡ None
unfolding digit_value
above b l = simp (le-leb 48 b (omega arith), lt-leb b 57 (omega arith), le-leb 97 b (omega arith), lt-leb b 102 l)

-- the code has 16 for none: what a value is, so is that
pub or-sixteen : {o p : Option ℕ} → o ≡ p → unwrap_or p 16 ≡ unwrap_or o 16
or-sixteen e = ap (λ (x : Option ℕ). unwrap_or x 16) (sym e)

-- the byte of a digit
pub digit_low : (d : ℕ) → d < 10 → digit d ≡ 48 + d
unfolding digit
digit_low d h = simp (lt-ltb d 10 h)

pub digit-high : (d : ℕ) → 10 ≤ d → digit d ≡ 87 + d
unfolding digit
digit-high d h = simp (le-ltb d 10 h)

pub hex-length : (n x : ℕ) → length (hex n x) ≡ n
unfolding hex
hex-length zero x = refl
hex-length (suc n) x = omega (arith, length-append (hex n (x / 16)) (digit (x % 16) ∷ []), hex-length n (x / 16))
