-- How long the lines and the closing sheet are. Assumes nothing.
use Prim.Native.Nat.{ℕ, zero, suc, ◌+◌, ◌*◌}
use mathlib.Core.Path.{◌≡◌, refl, ap}
use mathlib.Core.List.{List, ◌++◌, append_assoc}
use native.Mathlib.Omega.{arith}
use lib.ListN.{length, get_or, length-append}
use Rattle.digits.specs.Digits.{hex}
use Rattle.digits.proofs.Digits.{hex-length}
use Rattle.lines.specs.Lines.{newline, joined, amounts_line, closing_sheet, sealed_sheet, closing_length, sealed_length}

pub joined_length : (n c : ℕ) (f : ℕ → List ℕ) → ((k : ℕ) → length (f k) ≡ c) → length (joined n f) ≡ c * n
unfolding joined
joined_length zero c f h = omega arith
joined_length (suc n) c f h =
    let e : c * suc n ≡ c + c * n = omega arith in
    omega (arith, length-append (f 0) (joined n (λ k. f (suc k))), h 0, joined_length n c (λ k. f (suc k)) (λ k. h (suc k)), e)

pub newline-length : length newline ≡ 1
unfolding newline
newline-length = refl

-- the first line; a line of n numbers of c digits
pub rounds-length : (u d : ℕ) → length (hex 6 u ++ hex 6 d ++ newline) ≡ 13
rounds-length u d =
    omega (
      arith,
      length-append (hex 6 u ++ hex 6 d) newline,
      length-append (hex 6 u) (hex 6 d),
      hex-length 6 u,
      hex-length 6 d,
      newline-length,
    )

pub numbers-length : (n c : ℕ) (xs : List ℕ) → length (joined n (λ k. hex c (get_or xs k 0))) ≡ c * n
numbers-length n c xs = joined_length n c (λ k. hex c (get_or xs k 0)) (λ k. hex-length c (get_or xs k 0))

pub line-length : (n c : ℕ) (xs : List ℕ) → length (joined n (λ k. hex c (get_or xs k 0)) ++ newline) ≡ c * n + 1
line-length n c xs = omega (arith, length-append (joined n (λ k. hex c (get_or xs k 0))) newline, numbers-length n c xs, newline-length)

pub amounts-length : (k : ℕ) (xs : List ℕ) → length (amounts_line k xs) ≡ 4 * k + 1
unfolding amounts_line
amounts-length k xs = line-length k 4 xs

-- the closing sheet by its lines
pub by_lines : (m n ups downs : ℕ) (prices options : List ℕ)
    → closing_sheet m n ups downs prices options
    ≡ hex 6 ups ++ hex 6 downs ++ newline
    ++ (joined m (λ k. hex 4 (get_or prices k 0)) ++ newline)
    ++ (joined n (λ b. hex 2 (get_or options b 0)) ++ newline)
unfolding closing_sheet amounts_line
by_lines m n ups downs prices options = simp append_assoc

pub closing-length : (m n ups downs : ℕ) (prices options : List ℕ) → length (closing_sheet m n ups downs prices options) ≡ closing_length m n
unfolding closing_length
closing-length m n ups downs prices options =
    let a : List ℕ = hex 6 ups ++ hex 6 downs ++ newline in
    let b : List ℕ = joined m (λ k. hex 4 (get_or prices k 0)) ++ newline in
    let c : List ℕ = joined n (λ x. hex 2 (get_or options x 0)) ++ newline in
    omega (
      arith,
      ap length (by_lines m n ups downs prices options),
      length-append (a ++ b) c,
      length-append a b,
      rounds-length ups downs,
      line-length m 4 prices,
      line-length n 2 options,
    )

pub sealed-length : (m n ups downs : ℕ) (prices options gains : List ℕ) → length (sealed_sheet m n ups downs prices options gains) ≡ sealed_length m n
unfolding sealed_sheet sealed_length closing_length
sealed-length m n ups downs prices options gains =
    omega (
      arith,
      length-append (closing_sheet m n ups downs prices options) (amounts_line n gains),
      closing-length m n ups downs prices options,
      amounts-length n gains,
    )
