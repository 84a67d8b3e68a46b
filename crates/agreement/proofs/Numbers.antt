-- Two lists of refusals side by side. Assumes nothing.
use Prim.Native.Nat.{ℕ}
use mathlib.Core.Path.{◌≡◌, refl, sym, ◌∙◌}
use mathlib.Core.Bool.{Bool, true, false}
use mathlib.Core.List.{List, ◌∷◌}
use Rattle.rule.specs.Refusal.{Refusal, on, first}
use Rattle.rule.proofs.Refusal.{passed, given}

pub first-same : (n : ℕ) (a b : Bool) (xs ys : List Refusal) → a ≡ b → (b ≡ false → first xs ≡ first ys) → first (on n a ∷ xs) ≡ first (on n b ∷ ys)
first-same n a true xs ys e h = given n a xs e ∙ sym (given n true ys refl)
first-same n a false xs ys e h = passed n a xs e ∙ h refl ∙ sym (passed n false ys refl)
