-- Members of a set taken out one after the other, the lowest first, as a loop over a set does, or put in. Assumes nothing.
use Prim.Native.Nat.{ℕ, suc, ◌-◌, ◌^◌, ◌≤◌, ◌<◌}
use mathlib.Core.Path.{◌≡◌, sym, ap, ◌∙◌, subst}
use mathlib.Core.Bool.{Bool, true, false, ◌&&◌, ◌||◌, not}
use mathlib.Core.Logic.{◌⊎◌, inl, inr}
use native.Mathlib.Omega.{arith}
use lib.Dec.{eqb}
use borrow.Author.Tests.{eqb-true, eq-eqb, ne_eqb}
use Rattle.sets.specs.Bit.{is_set, has, set_of, lowest, size}
use Rattle.sets.proofs.Counting.{lt-or-le, and_left, and_right, and_both, or_cases, or_left, or_right, not-both, not_is, is_false, count_less}
use Rattle.sets.proofs.Members.{is_set-set_of, is_set-above, set_of-lt}
use Rattle.sets.proofs.Lowest.{lowest-found}

-- ---- a set that is given by a test

pub below-width : (w s q : ℕ) → s < 2 ^ w → is_set s q ≡ true → q < w
below-width w s q l e = go (lt-or-le q w)
  where
    go : (q < w) ⊎ (w ≤ q) → q < w
    go (inl h) = h
    go (inr h) = absurd (not-both (is_set s q) e (is_set-above w s q l h))

pub member-use : (w r : ℕ) (f : ℕ → Bool) → r ≡ set_of w f → (q : ℕ) → is_set r q ≡ true → (q < w) × (f (suc q) ≡ true)
member-use w r f e q h =
    let on : is_set (set_of w f) q ≡ true = sym (ap (λ (s : ℕ). is_set s q) e) ∙ h in
    let l = below-width w (set_of w f) q (set_of-lt w f) on in
    (l, sym (is_set-set_of w f q l) ∙ on)

pub member-make : (w r : ℕ) (f : ℕ → Bool) → r ≡ set_of w f → (q : ℕ) → q < w → f (suc q) ≡ true → is_set r q ≡ true
member-make w r f e q l h = ap (λ (s : ℕ). is_set s q) e ∙ is_set-set_of w f q l ∙ h

pub member-lt : (w r : ℕ) (f : ℕ → Bool) → r ≡ set_of w f → r < 2 ^ w
member-lt w r f e = subst (λ (s : ℕ). s < 2 ^ w) (sym e) (set_of-lt w f)

-- ---- how many members

pub size_less : (w s t : ℕ) → ((q : ℕ) → is_set s q ≡ true → is_set t q ≡ true) → (p : ℕ) → p < w → is_set t p ≡ true → is_set s p ≡ false → size w s < size w t
unfolding size
size_less w s t sub p l on off = count_less w (is_set s) (is_set t) (λ q lq. sub q) p l on off

-- ---- s with number l

module _ (w s l r : ℕ) (e : r ≡ set_of w (λ k. has s k || eqb k l)) where
  pub with-use : (q : ℕ) → is_set r q ≡ true → (is_set s q ≡ true) ⊎ (suc q ≡ l)
  unfolding has
  with-use q h = go (or_cases (is_set s q) (eqb (suc q) l) (member-use w r (λ k. has s k || eqb k l) e q h).1)
    where
      go : (is_set s q ≡ true) ⊎ (eqb (suc q) l ≡ true) → (is_set s q ≡ true) ⊎ (suc q ≡ l)
      go (inl o) = inl o
      go (inr o) = inr (eqb-true (suc q) l o)

  pub with-old : (q : ℕ) → q < w → is_set s q ≡ true → is_set r q ≡ true
  unfolding has
  with-old q lq o = member-make w r (λ k. has s k || eqb k l) e q lq (or_left (is_set s q) (eqb (suc q) l) o)

  pub with-new : (q : ℕ) → q < w → suc q ≡ l → is_set r q ≡ true
  unfolding has
  with-new q lq h = member-make w r (λ k. has s k || eqb k l) e q lq (or_right (is_set s q) (eqb (suc q) l) (eq-eqb (suc q) l h))

-- ---- s without number l

module _ (w s l r : ℕ) (e : r ≡ set_of w (λ k. has s k && not (eqb k l))) where
  pub without-use : (q : ℕ) → is_set r q ≡ true → (is_set s q ≡ true) × (suc q ≡ l → ⊥)
  unfolding has
  without-use q o =
      let a = (member-use w r (λ k. has s k && not (eqb k l)) e q o).1 in
      (and_left (is_set s q) (not (eqb (suc q) l)) a, λ h. not-both (eqb (suc q) l) (eq-eqb (suc q) l h) (not_is (eqb (suc q) l) (and_right (is_set s q) (not (eqb (suc q) l)) a)))

  pub without-make : (q : ℕ) → q < w → is_set s q ≡ true → (suc q ≡ l → ⊥) → is_set r q ≡ true
  unfolding has
  without-make q lq o ne = member-make w r (λ k. has s k && not (eqb k l)) e q lq (and_both (is_set s q) (not (eqb (suc q) l)) o (ap not (ne_eqb (suc q) l ne)))

  pub without-less : 0 < l → l ≤ w → is_set s (l - 1) ≡ true → size w r < size w s
  without-less pos lw on = size_less w r s (λ q o. (without-use q o).0) (l - 1) (omega arith) on (is_false (is_set r (l - 1)) (λ o. (without-use (l - 1) o).1 (omega arith)))

-- the number of the lowest member
pub lowest-of : (w s : ℕ) → s < 2 ^ w → (s ≡ 0 → ⊥) → (l : ℕ) → l ≡ lowest w (has s) → (0 < l) × (l ≤ w) × (is_set s (l - 1) ≡ true)
lowest-of w s ls ne l el =
    let v = lowest-found w s ls ne in
    let at : v.0 ≡ l - 1 = omega (arith, el, v.1) in
    (omega (arith, el, v.1), omega (arith, el, v.1, v.2), ap (is_set s) (sym at) ∙ v.3)
