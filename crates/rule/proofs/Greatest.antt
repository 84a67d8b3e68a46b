-- The greatest of f 1, …, f m. Assumes nothing.
use Prim.Native.Nat.{ℕ, zero, suc, ◌+◌, ◌≤◌, ◌<◌, max}
use mathlib.Core.Path.{◌≡◌, refl, sym, ap, ap₂, ◌∙◌}
use mathlib.Core.Logic.{◌⊎◌, inl, inr}
use native.Mathlib.Omega.{arith}
use native.Mathlib.Nat.{lt-suc_self, eq-or-lt_of_le}
use native.Mathlib.Numerals.{add-one}
use Rattle.sets.proofs.Counting.{lt-or-le, below_suc}
use Rattle.rule.specs.Sheet.{greatest}

pub greatest-le : (m : ℕ) (f : ℕ → ℕ) (v : ℕ) → ((i : ℕ) → i < suc m → f i ≤ v) → greatest m f ≤ v
unfolding greatest
greatest-le zero f v h = omega arith
greatest-le (suc m) f v h = omega (arith, greatest-le m f v (λ i l. h i (omega arith)), h (suc m) (lt-suc_self (suc m)))

pub greatest-ge : (m : ℕ) (f : ℕ → ℕ) (i : ℕ) → 0 < i → i < suc m → f i ≤ greatest m f
unfolding greatest
greatest-ge zero f i p l = absurd (omega arith)
greatest-ge (suc m) f i p l = go (greatest-ge m f i p) (below_suc l)
  where
    go : (i < suc m → f i ≤ greatest m f) → (i ≡ suc m) ⊎ (i < suc m) → f i ≤ max (greatest m f) (f (suc m))
    go ih (inl e) = omega (arith, ap f e)
    go ih (inr lt) = omega (arith, ih lt)

-- it is 0, or some item's
pub greatest-some : (m : ℕ) (f : ℕ → ℕ) → (greatest m f ≡ 0) ⊎ ((i : ℕ) × (0 < i) × (i < suc m) × (f i ≡ greatest m f))
unfolding greatest
greatest-some zero f = inl refl
greatest-some (suc m) f = go (lt-or-le (greatest m f) (f (suc m))) (greatest-some m f)
  where
    go : (greatest m f < f (suc m)) ⊎ (f (suc m) ≤ greatest m f) → (greatest m f ≡ 0) ⊎ ((i : ℕ) × (0 < i) × (i < suc m) × (f i ≡ greatest m f))
        → (max (greatest m f) (f (suc m)) ≡ 0) ⊎ ((i : ℕ) × (0 < i) × (i < suc (suc m)) × (f i ≡ max (greatest m f) (f (suc m))))
    go (inl l) w = inr (suc m, omega arith, omega arith, omega arith)
    go (inr l) (inl z) = inl (omega arith)
    go (inr l) (inr w) = inr (w.0, w.1, omega (arith, w.2), omega (arith, w.3))

-- v bounds f, and some item's is v if v is above 0
pub greatest-is : (m : ℕ) (f : ℕ → ℕ) (v : ℕ) → f 0 ≡ 0 → ((i : ℕ) → i < suc m → f i ≤ v) → (0 < v → (i : ℕ) × (i < suc m) × (f i ≡ v)) → v ≡ greatest m f
greatest-is m f v null le some = go v refl
  where
    item : (i : ℕ) → 0 < f i → 0 < i
    item zero pos = absurd (omega (arith, null))
    item (suc i) pos = omega arith

    go : (x : ℕ) → v ≡ x → v ≡ greatest m f
    go zero e = omega (arith, greatest-le m f v le)
    go (suc x) e =
        let w = some (omega arith) in
        omega (arith, greatest-le m f v le, greatest-ge m f w.0 (item w.0 (omega (arith, w.2))) w.1, w.2)

-- ---- as loops find it

-- one item more
pub greatest-next : (f : ℕ → ℕ) (i x v y : ℕ) → x ≡ greatest i f → v ≡ f (suc i) → y ≡ max x v → y ≡ greatest (i + 1) f
unfolding greatest
greatest-next f i x v y ex ev ey = ey ∙ ap₂ max ex ev ∙ sym (ap (λ (k : ℕ). greatest k f) (add-one i))

-- where nothing past m is above 0, more of them have the same
pub greatest-past : (m w : ℕ) (f : ℕ → ℕ) → m ≤ w → ((i : ℕ) → m < i → f i ≡ 0) → greatest w f ≡ greatest m f
unfolding greatest
greatest-past m zero f l h = let e : 0 ≡ m = omega arith in ap (λ (k : ℕ). greatest k f) e
greatest-past m (suc w) f l h = go (greatest-past m w f) (eq-or-lt_of_le l)
  where
    go : (m ≤ w → ((i : ℕ) → m < i → f i ≡ 0) → greatest w f ≡ greatest m f) → (m ≡ suc w) ⊎ (m < suc w) → max (greatest w f) (f (suc w)) ≡ greatest m f
    go ih (inl e) = sym (ap (λ (k : ℕ). greatest k f) e)
    go ih (inr lt) = omega (arith, ih (omega arith) h, h (suc w) lt)
