-- 528 bytes are room for every closing sheet: with as many or more, 3 is not given. Assumes nothing.
use Prim.Native.Nat.{ℕ, ◌≤◌}
use mathlib.Core.Path.{◌≡◌, ◌∙◌}
use mathlib.Core.List.{List, []}
use native.Mathlib.Omega.{arith}
use Rattle.rule.proofs.Refusal.{other}
use Rattle.sheet.specs.Close.{sheet_refusal}
use Rattle.sheet.specs.Contents.{bid_sheet_refusal}
use Rattle.sheet.proofs.Sixes.{none_left}
use Rattle.sheet.proofs.Reading.{same_number}

pub no-three : (bytes : List ℕ) (room : ℕ) → 528 ≤ room → sheet_refusal bytes room ≡ 3 → ⊥
unfolding bid_sheet_refusal
no-three bytes room large three =
    other 6 3 _ _ (λ z. omega arith)
    (other 1 3 _ _ (λ z. omega arith)
    (other 2 3 _ _ (λ z. omega arith)
    (other 6 3 _ _ (λ z. omega arith) (other 4 3 _ _ (λ z. omega arith) (other 5 3 _ [] (λ z. omega arith) (none_left 2))))))
    (same_number bytes room large ∙ three)
