-- A set to which a loop adds its numbers one after the other. Assumes nothing.
use Prim.Native.Nat.{ℕ, suc, ◌+◌, ◌≤◌, ◌<◌}
use mathlib.Core.Path.{◌≡◌, refl, sym, ap, ap₂, ◌∙◌}
use mathlib.Core.Bool.{Bool, true, false, ◌&&◌, ◌||◌}
use mathlib.Core.Logic.{◌⊎◌, inl, inr}
use native.Mathlib.Omega.{arith}
use native.Mathlib.Nat.{lt_of_lt_of_le}
use native.Mathlib.Decide.{ℕ_discrete}
use native.Mathlib.Numerals.{add-one}
use lib.Dec.{eqb}
use lib.Pow.{pow_mono}
use borrow.Author.Tests.{eq-eqb, ne_eqb}
use Rattle.sets.specs.Bit.{is_set, has, set_of}
use Rattle.sets.proofs.Counting.{lt-or-le}
use Rattle.sets.proofs.Members.{set_of-lt, set_of-cong, is_set-set_of, is-set_of, is_set-above}

-- the number i is added
pub add-on : (w s i : ℕ) (on : Bool) → on ≡ true → set_of w (λ k. has s k || eqb k i) ≡ set_of w (λ k. has s k || (on && eqb k i))
add-on w s i on e = ap (λ (b : Bool). set_of w (λ k. has s k || (b && eqb k i))) (sym e)

-- or not: number 0 is in no set
pub add-off : (w s i n : ℕ) (on : Bool) → n ≡ 0 → on ≡ false → set_of w (λ k. has s k || eqb k n) ≡ set_of w (λ k. has s k || (on && eqb k i))
add-off w s i n on z e =
    set_of-cong w (λ k. has s k || eqb k n) (λ k. has s k || false) (λ k lk. ap (λ (b : Bool). has s (suc k) || b) (ne_eqb (suc k) n (λ q. omega arith)))
    ∙ ap (λ (b : Bool). set_of w (λ k. has s k || (b && eqb k i))) (sym e)

-- of the numbers 1 to i, those at which f is true, and number i + 1 where f is true there: those of 1 to i + 1
module _ (w : ℕ) (f : ℕ → Bool) (i : ℕ) (l : i < w) where
  grown : ℕ → Bool
  grown k = has (set_of i f) k || (f (suc i) && eqb k (suc i))

  others : (a b : Bool) → a || (b && false) ≡ a
  others true b = refl
  others false true = refl
  others false false = refl

  last : (b : Bool) → false || (b && true) ≡ b
  last true = refl
  last false = refl

  grown-at : (k : ℕ) → k < w → is_set (set_of (suc i) f) k ≡ grown (suc k)
  unfolding grown has
  grown-at k lk = sym (go (ℕ_discrete k i) (lt-or-le k i))
    where
      go : Dec (k ≡ i) → (k < i) ⊎ (i ≤ k) → is_set (set_of i f) k || (f (suc i) && eqb (suc k) (suc i)) ≡ is_set (set_of (suc i) f) k
      go (yes e) q =
          ap₂ (λ (a b : Bool). a || (f (suc i) && b)) (is_set-above i (set_of i f) k (set_of-lt i f) (omega arith)) (eq-eqb (suc k) (suc i) (ap suc e))
          ∙ last (f (suc i)) ∙ ap (λ (j : ℕ). f (suc j)) (sym e) ∙ sym (is_set-set_of (suc i) f k (omega arith))
      go (no ne) (inl q) =
          ap₂ (λ (a b : Bool). a || (f (suc i) && b)) (is_set-set_of i f k q) (ne_eqb (suc k) (suc i) (λ e. ne (omega arith)))
          ∙ others (f (suc k)) (f (suc i)) ∙ sym (is_set-set_of (suc i) f k (omega arith))
      go (no ne) (inr q) =
          ap₂ (λ (a b : Bool). a || (f (suc i) && b)) (is_set-above i (set_of i f) k (set_of-lt i f) q) (ne_eqb (suc k) (suc i) (λ e. ne (omega arith)))
          ∙ others false (f (suc i)) ∙ sym (is_set-above (suc i) (set_of (suc i) f) k (set_of-lt (suc i) f) (omega arith))

  grows : set_of w grown ≡ set_of (suc i) f
  grows = sym (is-set_of w (set_of (suc i) f) grown (lt_of_lt_of_le (set_of-lt (suc i) f) (pow_mono l)) grown-at)

  -- as a loop has it: s so far, and v the set after the turn
  pub add-next : (s : ℕ) (on : Bool) (v : ℕ) → s ≡ set_of i f → on ≡ f (i + 1) → v ≡ set_of w (λ k. has s k || (on && eqb k (i + 1))) → v ≡ set_of (i + 1) f
  unfolding grown
  add-next s on v es eo ev =
      ev ∙ ap₂ (λ (t : ℕ) (b : Bool). set_of w (λ k. has t k || (b && eqb k (i + 1)))) es eo
      ∙ ap (λ (j : ℕ). set_of w (λ k. has (set_of i f) k || (f j && eqb k j))) (add-one i) ∙ grows ∙ ap (λ (j : ℕ). set_of j f) (sym (add-one i))

pub add-end : (f : ℕ → Bool) (i n s : ℕ) → s ≡ set_of i f → i ≤ n → n ≤ i → s ≡ set_of n f
add-end f i n s e l h = let q : i ≡ n = omega arith in e ∙ ap (λ (j : ℕ). set_of j f) q
