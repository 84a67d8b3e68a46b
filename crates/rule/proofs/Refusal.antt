-- The first number in order: a condition that fails is passed over, and one that holds gives its number. And what it says that a condition holds or fails:
-- a count outside 1 to the top, a length that is not exact, an amount above 4,095, a price below its floor. Assumes nothing.
use Prim.Native.Nat.{ℕ, suc, ◌≤◌, ◌<◌}
use mathlib.Core.Path.{◌≡◌, refl, ap, ap₂}
use mathlib.Core.Bool.{Bool, true, false, ◌||◌, not}
use mathlib.Core.List.{List, [], ◌∷◌}
use mathlib.Core.Logic.{◌⊎◌, inl, inr}
use native.Mathlib.Omega.{arith}
use lib.Dec.{ltb, eqb}
use lib.ListN.{length, get_or, replicate, get_or-eq_default}
use borrow.Author.Tests.{ltb-true, ltb-false, lt-ltb, le-ltb, eqb-true, eq-eqb, ne_eqb, not-false}
use Rattle.sets.specs.Count.{any_below}
use Rattle.sets.specs.Bit.{outside}
use Rattle.sets.proofs.Counting.{lt-or-le, or_left_false, or_right_false, any-use, any-make, is_false, not-both}
use Rattle.sets.proofs.Filling.{zeros-at}
use Rattle.rule.specs.Refusal.{Refusal, on, first, bad_length, any_over, any_under, bad_floors}

pub passed : (n : ℕ) (a : Bool) (rest : List Refusal) → a ≡ false → first (on n a ∷ rest) ≡ first rest
unfolding first
passed n a rest e = ap (λ (x : Bool). first (on n x ∷ rest)) e

pub given : (n : ℕ) (a : Bool) (rest : List Refusal) → a ≡ true → first (on n a ∷ rest) ≡ n
unfolding first
given n a rest e = ap (λ (x : Bool). first (on n x ∷ rest)) e

pub first-nil : first [] ≡ 0
unfolding first
first-nil = refl

-- no number: the condition fails, and no later number is given
pub none : (n : ℕ) (a : Bool) (rest : List Refusal) → first (on (suc n) a ∷ rest) ≡ 0 → (a ≡ false) × (first rest ≡ 0)
unfolding first
none n true rest e = absurd (omega arith)
none n false rest e = (refl, e)

-- a number that is neither the first of the list nor any later one
pub other : (n k : ℕ) (a : Bool) (rest : List Refusal) → (n ≡ k → ⊥) → (first rest ≡ k → ⊥) → first (on n a ∷ rest) ≡ k → ⊥
unfolding first
other n k true rest ne h e = ne e
other n k false rest ne h e = h e

-- a number that is not this one: the condition fails, and a later one gives it
pub past : (n k : ℕ) (a : Bool) (rest : List Refusal) → first (on n a ∷ rest) ≡ k → (n ≡ k → ⊥) → (a ≡ false) × (first rest ≡ k)
unfolding first
past n k true rest e ne = absurd (ne e)
past n k false rest e ne = (refl, e)

-- ---- counts outside 1 to the top

pub under-range : (top x : ℕ) → x < 1 → outside top x ≡ true
under-range top x l = simp (lt-ltb x 1 l)

pub over-range : (top x : ℕ) → 1 ≤ x → top < x → outside top x ≡ true
over-range top x l h = simp (le-ltb x 1 l, lt-ltb top x h)

pub range-in : (top x : ℕ) → 1 ≤ x → x ≤ top → outside top x ≡ false
range-in top x l h = simp (le-ltb x 1 l, le-ltb top x h)

pub in-range : (top x : ℕ) → outside top x ≡ false → (1 ≤ x) × (x ≤ top)
in-range top x e = (ltb-false x 1 (or_left_false (ltb x 1) (ltb top x) e), ltb-false top x (or_right_false (ltb x 1) (ltb top x) e))

-- ---- lengths

pub inexact : (xs : List ℕ) (n : ℕ) → (length xs ≡ n → ⊥) → bad_length xs n ≡ true
unfolding bad_length
inexact xs n ne = ap not (ne_eqb (length xs) n ne)

pub exact : (xs : List ℕ) (n : ℕ) → length xs ≡ n → bad_length xs n ≡ false
unfolding bad_length
exact xs n e = ap not (eq-eqb (length xs) n e)

pub exact-is : (xs : List ℕ) (n : ℕ) → bad_length xs n ≡ false → length xs ≡ n
unfolding bad_length
exact-is xs n e = eqb-true (length xs) n (not-false (eqb (length xs) n) e)

-- ---- amounts above 4,095

pub none-over : (xs : List ℕ) → any_over xs ≡ false → (k : ℕ) → k < length xs → get_or xs k 0 ≤ 4095
unfolding any_over
none-over xs e k l = go (lt-or-le 4095 (get_or xs k 0))
  where
    go : (4095 < get_or xs k 0) ⊎ (get_or xs k 0 ≤ 4095) → get_or xs k 0 ≤ 4095
    go (inr q) = q
    go (inl q) = absurd (not-both (any_below (length xs) (λ k. ltb 4095 (get_or xs k 0))) (any-make (length xs) (λ k. ltb 4095 (get_or xs k 0)) k l (lt-ltb 4095 (get_or xs k 0) q)) e)

pub none-over-all : (xs : List ℕ) → any_over xs ≡ false → (k : ℕ) → get_or xs k 0 ≤ 4095
none-over-all xs e k = go (lt-or-le k (length xs))
  where
    go : (k < length xs) ⊎ (length xs ≤ k) → get_or xs k 0 ≤ 4095
    go (inl l) = none-over xs e k l
    go (inr l) = omega (arith, get_or-eq_default xs 0 {n = k} l)

pub over-not : (xs : List ℕ) → ((k : ℕ) → k < length xs → get_or xs k 0 ≤ 4095) → any_over xs ≡ false
unfolding any_over
over-not xs h =
    is_false (any_below (length xs) (λ k. ltb 4095 (get_or xs k 0))) (λ e.
    let w = any-use (length xs) (λ k. ltb 4095 (get_or xs k 0)) e in
    let more = ltb-true 4095 (get_or xs w.0 0) w.2 in
    let most = h w.0 w.1 in
    omega arith)

-- ---- prices below their floors

pub none-under : (xs floors : List ℕ) → any_under xs floors ≡ false → (k : ℕ) → get_or floors k 0 ≤ get_or xs k 0
unfolding any_under
none-under xs floors e k = go (lt-or-le k (length floors)) (lt-or-le (get_or xs k 0) (get_or floors k 0))
  where
    test : ℕ → Bool
    test k = ltb (get_or xs k 0) (get_or floors k 0)

    go : (k < length floors) ⊎ (length floors ≤ k) → (get_or xs k 0 < get_or floors k 0) ⊎ (get_or floors k 0 ≤ get_or xs k 0) → get_or floors k 0 ≤ get_or xs k 0
    go l (inr q) = q
    go (inr l) (inl q) = omega (arith, get_or-eq_default floors 0 {n = k} l)
    go (inl l) (inl q) = absurd (not-both (any_below (length floors) test) (any-make (length floors) test k l (lt-ltb (get_or xs k 0) (get_or floors k 0) q)) e)

pub under-not : (xs floors : List ℕ) → ((k : ℕ) → k < length floors → get_or floors k 0 ≤ get_or xs k 0) → any_under xs floors ≡ false
unfolding any_under
under-not xs floors h =
    is_false (any_below (length floors) (λ k. ltb (get_or xs k 0) (get_or floors k 0))) (λ e.
    let w = any-use (length floors) (λ k. ltb (get_or xs k 0) (get_or floors k 0)) e in
    let less = ltb-true (get_or xs w.0 0) (get_or floors w.0 0) w.2 in
    let most = h w.0 w.1 in
    omega arith)

pub under_some : (xs floors : List ℕ) (k : ℕ) → k < length floors → get_or xs k 0 < get_or floors k 0 → any_under xs floors ≡ true
unfolding any_under
under_some xs floors k l h = any-make (length floors) (λ k. ltb (get_or xs k 0) (get_or floors k 0)) k l (lt-ltb (get_or xs k 0) (get_or floors k 0) h)

-- where no starting price is above 4,095, a floor above 4,095 is above its starting price: 18's two halves are one test
pub floors-test : (start floors : List ℕ) → ((k : ℕ) → get_or start k 0 ≤ 4095) → bad_floors start floors ≡ any_under start floors
unfolding bad_floors
floors-test start floors most = go (any_under start floors) refl
  where
    go : (b : Bool) → any_under start floors ≡ b → b || any_over floors ≡ b
    go true e = refl
    go false e = over-not floors (λ k l. omega (arith, none-under start floors e k, most k))

pub floors-fit : (start floors : List ℕ) → bad_floors start floors ≡ false → ((k : ℕ) → get_or floors k 0 ≤ get_or start k 0) × ((k : ℕ) → k < length floors → get_or floors k 0 ≤ 4095)
unfolding bad_floors
floors-fit start floors e =
    (none-under start floors (or_left_false (any_under start floors) (any_over floors) e), none-over floors (or_right_false (any_under start floors) (any_over floors) e))

pub floors-in : (start floors : List ℕ) → ((k : ℕ) → k < length floors → get_or floors k 0 ≤ get_or start k 0) → ((k : ℕ) → k < length floors → get_or floors k 0 ≤ 4095)
    → bad_floors start floors ≡ false
unfolding bad_floors
floors-in start floors low most = ap₂ ◌||◌ (under-not start floors low) (over-not floors most)

-- floors of 0 turn nothing down
pub floors-none : (start : List ℕ) (m : ℕ) → bad_floors start (replicate m 0) ≡ false
floors-none start m = floors-in start (replicate m 0) (λ k l. omega (arith, zeros-at m k)) (λ k l. omega (arith, zeros-at m k))
