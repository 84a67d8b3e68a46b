-- Tests and what they say: two numbers compared, the connectives, a test at each or some number below n, and the least at which it passes; and
-- where a loop's count ends. Assumes nothing.
use Prim.Native.Nat.{ℕ, zero, suc, ◌≤◌, ◌<◌, zero-le, suc-le-suc}
use mathlib.Core.Path.{◌≡◌, refl, sym, ap₂, ◌∙◌, subst}
use mathlib.Core.Bool.{Bool, true, false, ◌&&◌, ◌||◌, not, false≢true, true≢false}
use mathlib.Core.Logic.{◌⊎◌, inl, inr, ⊎_elim}
use native.Mathlib.Omega.{arith}
use native.Mathlib.Nat.{zero-lt-suc, not-suc-le-zero, lt-suc_self, eq-or-lt_of_le, le_of_suc-le-suc, le_antisymm}
use Rattle.sets.specs.Count.{◌⇒◌, all_below, any_below}

-- ---- numbers in order

-- two numbers compared
pub lt-or-le : (m n : ℕ) → (m < n) ⊎ (n ≤ m)
lt-or-le m zero = inr zero-le
lt-or-le zero (suc n) = inl (zero-lt-suc n)
lt-or-le (suc m) (suc n) = ⊎_elim (λ l. inl (suc-le-suc l)) (λ g. inr (suc-le-suc g)) (lt-or-le m n)

-- a number below suc n is n or below n
pub below_suc : {k n : ℕ} → k < suc n → (k ≡ n) ⊎ (k < n)
below_suc h = eq-or-lt_of_le (le_of_suc-le-suc h)

-- a claim at n and below n holds below suc n
pub and_below : {n : ℕ} (P : ℕ → Type 0) → P n → ((k : ℕ) → k < n → P k) → (k : ℕ) → k < suc n → P k
and_below P p ps k h = elim (below_suc h) [ inl e ↦ subst P (sym e) p | inr l ↦ ps k l ]

-- ---- the connectives

pub and_left : (a b : Bool) → a && b ≡ true → a ≡ true
and_left true b e = refl
and_left false b e = e

pub and_right : (a b : Bool) → a && b ≡ true → b ≡ true
and_right true b e = e
and_right false b e = absurd (false≢true e)

pub and_both : (a b : Bool) → a ≡ true → b ≡ true → a && b ≡ true
and_both a b p q = rw (p, q)

pub or_cases : (a b : Bool) → a || b ≡ true → (a ≡ true) ⊎ (b ≡ true)
or_cases true b e = inl refl
or_cases false b e = inr e

pub or_left : (a b : Bool) → a ≡ true → a || b ≡ true
or_left a b e = rw e

pub or_right : (a b : Bool) → b ≡ true → a || b ≡ true
or_right true b e = refl
or_right false b e = e

pub or_left_false : (a b : Bool) → a || b ≡ false → a ≡ false
or_left_false true b e = e
or_left_false false b e = refl

pub or_right_false : (a b : Bool) → a || b ≡ false → b ≡ false
or_right_false true b e = absurd (true≢false e)
or_right_false false b e = e

pub or-false : (a : Bool) → a || false ≡ a
or-false true = refl
or-false false = refl

pub and-true : (a : Bool) → a && true ≡ a
and-true true = refl
and-true false = refl

pub and-right-false : (a b : Bool) → b ≡ false → a && b ≡ false
and-right-false true b e = e
and-right-false false b e = refl

pub imp_use : (a b : Bool) → a ⇒ b ≡ true → a ≡ true → b ≡ true
imp_use true b e p = e
imp_use false b e p = absurd (false≢true p)

pub imp-make : (a b : Bool) → (a ≡ true → b ≡ true) → a ⇒ b ≡ true
imp-make true b h = h refl
imp-make false b h = refl

pub not-both : (a : Bool) → a ≡ true → a ≡ false → ⊥
not-both a p q = true≢false (sym p ∙ q)

pub not_is : (a : Bool) → not a ≡ true → a ≡ false
not_is true e = sym e
not_is false e = refl

pub is_false : (a : Bool) → (a ≡ true → ⊥) → a ≡ false
is_false true h = absurd (h refl)
is_false false h = refl

-- two tests that pass together are the same
pub together : (a b : Bool) → (a ≡ true → b ≡ true) → (b ≡ true → a ≡ true) → a ≡ b
together true b to back = sym (to refl)
together false true to back = back refl
together false false to back = refl

pub less-make : (a b : Bool) → a ≡ true → (b ≡ true → ⊥) → a && not b ≡ true
less-make a true p h = absurd (h refl)
less-make a false p h = rw p

-- ---- a test at each number below n, and at some

pub all-use : (n : ℕ) (f : ℕ → Bool) → all_below n f ≡ true → (k : ℕ) → k < n → f k ≡ true
unfolding all_below
all-use zero f e k l = absurd (not-suc-le-zero l)
all-use (suc n) f e k l =
    and_below (λ k. f k ≡ true) (and_left (f n) (all_below n f) e) (all-use n f (and_right (f n) (all_below n f) e)) k l

pub all-make : (n : ℕ) (f : ℕ → Bool) → ((k : ℕ) → k < n → f k ≡ true) → all_below n f ≡ true
unfolding all_below
all-make zero f h = refl
all-make (suc n) f h = and_both (f n) (all_below n f) (h n (lt-suc_self n)) (all-make n f (λ k l. h k (omega arith)))

pub any-use : (n : ℕ) (f : ℕ → Bool) → any_below n f ≡ true → (k : ℕ) × (k < n) × (f k ≡ true)
unfolding any_below
any-use zero f e = absurd (false≢true e)
any-use (suc n) f e = go (any-use n f) (or_cases (f n) (any_below n f) e)
  where
    go : (any_below n f ≡ true → (k : ℕ) × (k < n) × (f k ≡ true)) → (f n ≡ true) ⊎ (any_below n f ≡ true) → (k : ℕ) × (k < suc n) × (f k ≡ true)
    go ih (inl p) = (n, lt-suc_self n, p)
    go ih (inr p) = let w = ih p in (w.0, omega arith, w.2)

pub any-make : (n : ℕ) (f : ℕ → Bool) (k : ℕ) → k < n → f k ≡ true → any_below n f ≡ true
unfolding any_below
any-make zero f k l e = absurd (not-suc-le-zero l)
any-make (suc n) f k l e = go (any-make n f k) (below_suc l)
  where
    go : (k < n → f k ≡ true → any_below n f ≡ true) → (k ≡ n) ⊎ (k < n) → f n || any_below n f ≡ true
    go ih (inl q) = rw (subst (λ (x : ℕ). f x ≡ true) q e)
    go ih (inr l') = or_right (f n) (any_below n f) (ih l' e)

pub any_false : (n : ℕ) (f : ℕ → Bool) → ((k : ℕ) → k < n → f k ≡ false) → any_below n f ≡ false
any_false n f h = is_false (any_below n f) (λ e. let w = any-use n f e in not-both (f w.0) w.2 (h w.0 w.1))

-- where none passes, no one does
pub any_none : (n : ℕ) (f : ℕ → Bool) → any_below n f ≡ false → (k : ℕ) → k < n → f k ≡ false
any_none n f e k l = is_false (f k) (λ q. not-both (any_below n f) (any-make n f k l q) e)

pub all-cong : (n : ℕ) (f g : ℕ → Bool) → ((k : ℕ) → k < n → f k ≡ g k) → all_below n f ≡ all_below n g
unfolding all_below
all-cong zero f g h = refl
all-cong (suc n) f g h = ap₂ ◌&&◌ (h n (omega arith)) (all-cong n f g (λ k l. h k (omega arith)))

pub any-cong : (n : ℕ) (f g : ℕ → Bool) → ((k : ℕ) → k < n → f k ≡ g k) → any_below n f ≡ any_below n g
unfolding any_below
any-cong zero f g h = refl
any-cong (suc n) f g h = ap₂ ◌||◌ (h n (omega arith)) (any-cong n f g (λ k l. h k (omega arith)))

-- ---- where a loop's count has come to its end

pub at-end : (P : ℕ → Type 0) {k n : ℕ} → k ≤ n → n ≤ k → P k → P n
at-end P l h = subst P (le_antisymm l h)

-- ---- the least k below n at which f is true, or none

pub record Least (n : ℕ) (f : ℕ → Bool) : Type 0 where
  pub at : ℕ
  pub small : at < n
  pub here : f at ≡ true
  pub before : (j : ℕ) → j < at → f j ≡ false

pub least : (n : ℕ) (f : ℕ → Bool) → Least n f ⊎ ((k : ℕ) → k < n → f k ≡ false)
least zero f = inr (λ k l. absurd (not-suc-le-zero l))
least (suc n) f = go (least n f) (f n) refl
  where
    go : Least n f ⊎ ((k : ℕ) → k < n → f k ≡ false) → (b : Bool) → f n ≡ b → Least (suc n) f ⊎ ((k : ℕ) → k < suc n → f k ≡ false)
    go (inl w) b e = inl (record { at = w.at; small = omega arith; here = w.here; before = w.before })
    go (inr h) true e = inl (record { at = n; small = lt-suc_self n; here = e; before = h })
    go (inr h) false e = inr (and_below (λ k. f k ≡ false) e h)
