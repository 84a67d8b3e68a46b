-- The lowest item that passes a test: there is one such number, and of a set it stands past the trailing zeros. Assumes nothing.
use Prim.Native.Nat.{ℕ, zero, suc, ◌/◌, ◌%◌, ◌^◌, ◌≤◌, ◌<◌}
use mathlib.Core.Path.{◌≡◌, refl, ap, ◌∙◌}
use mathlib.Core.Bool.{Bool, true, false, cond}
use mathlib.Core.Logic.{◌⊎◌, inl, inr}
use native.Mathlib.Omega.{arith}
use native.Mathlib.Decide.{dec_le}
use native.Mathlib.Nat.{lt-suc_self, not-suc-le-zero, zero-lt-suc, mod-lt, div-add-mod'}
use native.Mathlib.Numerals.{add-one}
use lib.Arith.{lt-one}
use lib.Count.{count_trailing_zeros, under}
use lib.Dec.{eqb}
use lib.Pow.{shr_lt}
use Rattle.sets.specs.Bit.{bit, is_set, has, lowest}
use Rattle.sets.proofs.Counting.{and_below, lt-or-le, not-both}
use Rattle.sets.proofs.Members.{is_set-none, empty-has, has-past}

-- what the lowest is
pub data Lowest (m : ℕ) (g : ℕ → Bool) : ℕ → Type 0 where
  item : (k : ℕ) → k < m → g (suc k) ≡ true → ((j : ℕ) → j < k → g (suc j) ≡ false) → Lowest m g (suc k)
  is-null : ((j : ℕ) → j < m → g (suc j) ≡ false) → Lowest m g 0

pub lowest_is : (m : ℕ) (g : ℕ → Bool) → Lowest m g (lowest m g)
unfolding lowest
lowest_is zero g = is-null (λ j l. absurd (not-suc-le-zero l))
lowest_is (suc m) g = go (lowest m g) (lowest_is m g) (g (suc m)) refl
  where
    go : (r : ℕ) → Lowest m g r → (b : Bool) → g (suc m) ≡ b → Lowest (suc m) g (elim r [ suc k ↦ suc k | zero ↦ cond (g (suc m)) (suc m) 0 ])
    go r (item k l e h) b q = item k (omega arith) e h
    go r (is-null h) true q = rw q (item m (lt-suc_self m) q h)
    go r (is-null h) false q = rw q (is-null (and_below (λ j. g (suc j) ≡ false) q h))

-- there is no other
lowest-only : (m : ℕ) (g : ℕ → Bool) (r q : ℕ) → Lowest m g r → Lowest m g q → r ≡ q
lowest-only m g r q (is-null h) (is-null f) = refl
lowest-only m g r q (is-null h) (item k l e b) = absurd (not-both (g (suc k)) e (h k l))
lowest-only m g r q (item k l e b) (is-null h) = absurd (not-both (g (suc k)) e (h k l))
lowest-only m g r q (item j lj p a) (item k l e b) = go (dec_le k j) (dec_le j k)
  where
    go : Dec (k ≤ j) → Dec (j ≤ k) → suc j ≡ suc k
    go (yes x) (yes y) = omega arith
    go (no x) y = absurd (not-both (g (suc j)) p (b j (omega arith)))
    go (yes x) (no y) = absurd (not-both (g (suc k)) e (a k (omega arith)))

pub lowest-unique : (m : ℕ) (g : ℕ → Bool) (r : ℕ) → Lowest m g r → r ≡ lowest m g
lowest-unique m g r l = lowest-only m g r (lowest m g) l (lowest_is m g)

pub lowest-le : {m : ℕ} {g : ℕ → Bool} {r : ℕ} → Lowest m g r → r ≤ m
lowest-le (item k l e h) = l
lowest-le (is-null h) = omega arith

-- ---- of a set

-- a set that is not empty has a lowest item
pub lowest-found : (w s : ℕ) → s < 2 ^ w → (s ≡ 0 → ⊥) → (k : ℕ) × (lowest w (has s) ≡ suc k) × (k < w) × (is_set s k ≡ true)
unfolding has
lowest-found w s h ne = go (lowest w (has s)) (lowest_is w (has s))
  where
    go : (r : ℕ) → Lowest w (has s) r → (k : ℕ) × (r ≡ suc k) × (k < w) × (is_set s k ≡ true)
    go r (item k l e b) = (k, refl, l, e)
    go r (is-null n) = absurd (ne (is_set-none w s h n))

pub empty-lowest : (w s : ℕ) → s ≡ 0 → Lowest w (has s) 0
empty-lowest w s e = is-null (λ j l. ap (λ (x : ℕ). has x (suc j)) e ∙ empty-has (suc j))

up : (w s r : ℕ) → s % 2 ≡ 0 → Lowest w (has (s / 2)) (suc r) → Lowest (suc w) (has s) (suc (suc r))
unfolding has is_set bit
up w s r e (item k l h b) = item (suc r) (omega arith) h below
  where
    below : (j : ℕ) → j < suc r → has s (suc j) ≡ false
    below zero q = ap (λ (x : ℕ). eqb x 1) e
    below (suc j) q = b j (omega arith)

trailing_at : (w s d : ℕ) → s % 2 ≡ d → d < 2 → (t : ℕ) → (d ≡ 0 → Lowest w (has (s / 2)) (suc t)) → Lowest (suc w) (has s) (suc (under d t))
unfolding has is_set bit
trailing_at w s zero e l t f = up w s t e (f refl)
trailing_at w s (suc zero) e l t f = item 0 (zero-lt-suc w) (ap (λ (x : ℕ). eqb x 1) e) (λ j q. absurd (not-suc-le-zero q))
trailing_at w s (suc (suc d)) e l t f = absurd (let n : ⊥ = omega arith in n)

pub trailing : (w s : ℕ) → (s ≡ 0 → ⊥) → s < 2 ^ w → Lowest w (has s) (suc (count_trailing_zeros w s))
unfolding count_trailing_zeros
trailing zero s n h = absurd (n (lt-one h))
trailing (suc w) s n h =
    trailing_at w s (s % 2) refl (mod-lt s (zero-lt-suc 1)) (count_trailing_zeros w (s / 2))
    (λ e. trailing w (s / 2) (λ z. n (omega (arith, div-add-mod' s 2))) (shr_lt w 1 (rw add-one h)))

-- a wider word has no other lowest number
pub lowest-wide : (v w s : ℕ) → w ≤ v → s < 2 ^ w → lowest v (has s) ≡ lowest w (has s)
lowest-wide v w s l h = lowest-unique w (has s) (lowest v (has s)) (narrow (lowest v (has s)) (lowest_is v (has s)))
  where
    inside : (k : ℕ) → has s (suc k) ≡ true → (k < w) ⊎ (w ≤ k) → k < w
    inside k e (inl q) = q
    inside k e (inr q) = absurd (not-both (has s (suc k)) e (has-past w s (suc k) h (omega arith)))

    narrow : (r : ℕ) → Lowest v (has s) r → Lowest w (has s) r
    narrow r (item k q e b) = item k (inside k e (lt-or-le k w)) e b
    narrow r (is-null n) = is-null (λ j q. n j (omega arith))
