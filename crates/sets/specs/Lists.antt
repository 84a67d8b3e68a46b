-- Lists by places. Assumes nothing: these are definitions.
use Rattle.std.specs.Prelude.{ℕ, zero, suc, List, [], ◌∷◌, get_or}

-- the n values f i, f (i + 1), …
unfoldable pub tabulate : {A : Type 0} → ℕ → (ℕ → A) → ℕ → List A
tabulate zero f i = []
tabulate (suc n) f i = f i ∷ tabulate n f (suc i)

-- xs in w places: what it has, and zeros past its end
unfoldable pub places : ℕ → List ℕ → List ℕ
places w xs = tabulate w (λ k. get_or xs k 0) 0
