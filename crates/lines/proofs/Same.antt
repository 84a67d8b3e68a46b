-- A closing sheet has regard to the prices of its items and the options and gains of its bidders only: lists that agree on those places give the same bytes.
-- Assumes nothing.
use Prim.Native.Nat.{ℕ, zero, suc, ◌<◌}
use mathlib.Core.Path.{◌≡◌, refl, ap, ◌∙◌}
use mathlib.Core.List.{List, ◌++◌}
use native.Mathlib.Omega.{arith}
use lib.ListN.{get_or}
use Rattle.digits.specs.Digits.{hex}
use Rattle.lines.specs.Lines.{newline, joined, amounts_line, closing_sheet}

pub joined_same : (n : ℕ) (f g : ℕ → List ℕ) → ((k : ℕ) → k < n → f k ≡ g k) → joined n f ≡ joined n g
unfolding joined
joined_same zero f g h = refl
joined_same (suc n) f g h =
    ap (λ x. x ++ joined n (λ k. f (suc k))) (h 0 (omega arith)) ∙ ap (λ xs. g 0 ++ xs) (joined_same n (λ k. f (suc k)) (λ k. g (suc k)) (λ k l. h (suc k) (omega arith)))

pub sheet-same : (m n ups downs : ℕ) (p q xs ys : List ℕ) → ((k : ℕ) → k < m → get_or p k 0 ≡ get_or q k 0) → ((b : ℕ) → b < n → get_or xs b 0 ≡ get_or ys b 0)
    → closing_sheet m n ups downs p xs ≡ closing_sheet m n ups downs q ys
unfolding closing_sheet amounts_line
sheet-same m n ups downs p q xs ys f g =
    ap (λ (l : List ℕ). hex 6 ups ++ hex 6 downs ++ newline ++ (l ++ newline) ++ joined n (λ b. hex 2 (get_or xs b 0)) ++ newline)
    (joined_same m (λ k. hex 4 (get_or p k 0)) (λ k. hex 4 (get_or q k 0)) (λ k l. ap (hex 4) (f k l)))
    ∙ ap (λ (l : List ℕ). hex 6 ups ++ hex 6 downs ++ newline ++ amounts_line m q ++ l ++ newline)
    (joined_same n (λ b. hex 2 (get_or xs b 0)) (λ b. hex 2 (get_or ys b 0)) (λ b l. ap (hex 2) (g b l)))

pub amounts-same : (k : ℕ) (xs ys : List ℕ) → ((i : ℕ) → i < k → get_or xs i 0 ≡ get_or ys i 0) → amounts_line k xs ≡ amounts_line k ys
unfolding amounts_line
amounts-same k xs ys f =
    ap (λ (l : List ℕ). l ++ newline) (joined_same k (λ i. hex 4 (get_or xs i 0)) (λ i. hex 4 (get_or ys i 0)) (λ i l. ap (hex 4) (f i l)))
