-- A list by places has as many places as it says, and in each what it says. Assumes nothing.
use Prim.Native.Nat.{ℕ, zero, suc, ◌+◌, ◌≤◌, ◌<◌}
use mathlib.Core.Path.{◌≡◌, refl, sym, ap, ap₂, ◌∙◌, subst}
use mathlib.Core.List.{List, ◌∷◌}
use native.Mathlib.Omega.{arith}
use native.Mathlib.Nat.{not-suc-le-zero, add-zero, zero-add}
use lib.ListN.{length, get_or, take}
use lib.Seq.{ext_get_or, length-take-le, get_or-take}
use Rattle.sets.specs.Lists.{tabulate, places}

pub tabulate-length : {A : Type 0} (n : ℕ) (f : ℕ → A) (i : ℕ) → length (tabulate n f i) ≡ n
unfolding tabulate
tabulate-length zero f i = refl
tabulate-length (suc n) f i = ap suc (tabulate-length n f (suc i))

pub tabulate-at : {A : Type 0} (n : ℕ) (f : ℕ → A) (i k : ℕ) (z : A) → k < n → get_or (tabulate n f i) k z ≡ f (i + k)
unfolding tabulate
tabulate-at zero f i k z l = absurd (not-suc-le-zero l)
tabulate-at (suc n) f i zero z l = ap f (sym (add-zero i))
tabulate-at (suc n) f i (suc k) z l = tabulate-at n f (suc i) k z (omega arith) ∙ ap f (omega arith)

-- two lists are one where they agree in each place
tabulate-cong : {A : Type 0} (n : ℕ) (f g : ℕ → A) (i : ℕ) → ((k : ℕ) → i ≤ k → k < i + n → f k ≡ g k) → tabulate n f i ≡ tabulate n g i
unfolding tabulate
tabulate-cong zero f g i h = refl
tabulate-cong {A} (suc n) f g i h =
    ap₂ (λ (x : A) (xs : List A). x ∷ xs) (h i (omega arith) (omega arith)) (tabulate-cong n f g (suc i) (λ k lo hi. h k (omega arith) (omega arith)))

pub tabulate-same : {A : Type 0} (n : ℕ) (f g : ℕ → A) → ((k : ℕ) → k < n → f k ≡ g k) → tabulate n f 0 ≡ tabulate n g 0
tabulate-same n f g h = tabulate-cong n f g 0 (λ k lo hi. h k (omega arith))

-- numbers from 0 and from 1
pub tabulate-shift : {A : Type 0} (n : ℕ) (f : ℕ → A) (i : ℕ) → tabulate n (λ k. f (suc k)) i ≡ tabulate n f (suc i)
unfolding tabulate
tabulate-shift zero f i = refl
tabulate-shift {A} (suc n) f i = ap (λ (xs : List A). f (suc i) ∷ xs) (tabulate-shift n f (suc i))

pub places-length : (w : ℕ) (xs : List ℕ) → length (places w xs) ≡ w
unfolding places
places-length w xs = tabulate-length w (λ k. get_or xs k 0) 0

pub places-at : (w : ℕ) (xs : List ℕ) (k : ℕ) → k < w → get_or (places w xs) k 0 ≡ get_or xs k 0
unfolding places
places-at w xs k l = tabulate-at w (λ k. get_or xs k 0) 0 k 0 l ∙ ap (λ (j : ℕ). get_or xs j 0) (zero-add k)

-- a list that has no more numbers than there are places is its part of them
pub take_places : (w : ℕ) (xs : List ℕ) → length xs ≤ w → take (length xs) (places w xs) ≡ xs
take_places w xs l =
    let long : length (take (length xs) (places w xs)) ≡ length xs = length-take-le (length xs) (places w xs) (omega (arith, places-length w xs)) in
    ext_get_or 0 (take (length xs) (places w xs)) xs long
    (λ k h. let small : k < length xs = omega (arith, h, long) in get_or-take (length xs) (places w xs) k 0 small ∙ places-at w xs k (omega arith))

-- a list of w numbers that has in each place what f says is the list of f
pub is-tabulate : (w : ℕ) (l : List ℕ) (f : ℕ → ℕ) (i : ℕ) → length l ≡ w → ((k : ℕ) → k < w → get_or l k 0 ≡ f (i + k)) → l ≡ tabulate w f i
is-tabulate w l f i e h =
    ext_get_or 0 l (tabulate w f i) (e ∙ sym (tabulate-length w f i))
    (λ k lk. h k (subst (λ (n : ℕ). k < n) e lk) ∙ sym (tabulate-at w f i k 0 (subst (λ (n : ℕ). k < n) e lk)))
