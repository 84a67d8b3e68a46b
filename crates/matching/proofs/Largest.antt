-- What the tests of `specs/Demand` say, and that the largest set in excess demand is the one that holds all the others. Assumes nothing.
use Prim.Native.Nat.{ℕ, ◌^◌, ◌<◌}
use mathlib.Core.Path.{◌≡◌, refl, sym, ◌∙◌}
use mathlib.Core.Bool.{Bool, true, false, ◌&&◌}
use mathlib.Core.List.{List}
use native.Mathlib.Omega.{arith}
use native.Mathlib.Nat.{lt_irrefl}
use lib.ListN.{get_or}
use borrow.Author.Tests.{ltb-true, lt-ltb}
use Rattle.sets.specs.Bit.{is_set, size}
use Rattle.sets.specs.Count.{◌⇒◌, any_below, count}
use Rattle.sets.proofs.Counting.{count_less, and_left, and_right, and_both, imp_use, imp-make, all-use, all-make, any-use, any-make}
use Rattle.sets.proofs.Members.{is_set-empty, is_set-ext}
use Rattle.sets.proofs.Largest.{Largest, largest_is}
use Rattle.matching.specs.Demand.{part, meets, excess, largest_excess}
use Rattle.matching.proofs.Holdings.{no_both}

-- ---- the tests

pub part-use : (m a b : ℕ) → part m a b ≡ true → (i : ℕ) → i < m → is_set a i ≡ true → is_set b i ≡ true
unfolding part
part-use m a b e i l = imp_use (is_set a i) (is_set b i) (all-use m (λ i. is_set a i ⇒ is_set b i) e i l)

pub part-make : (m a b : ℕ) → ((i : ℕ) → i < m → is_set a i ≡ true → is_set b i ≡ true) → part m a b ≡ true
unfolding part
part-make m a b h = all-make m (λ i. is_set a i ⇒ is_set b i) (λ i l. imp-make (is_set a i) (is_set b i) (h i l))

pub meets-use : (m a b : ℕ) → meets m a b ≡ true → (i : ℕ) × (i < m) × (is_set a i ≡ true) × (is_set b i ≡ true)
unfolding meets
meets-use m a b e =
    let w = any-use m (λ i. is_set a i && is_set b i) e in
    (w.0, w.1, and_left (is_set a w.0) (is_set b w.0) w.2, and_right (is_set a w.0) (is_set b w.0) w.2)

pub meets-make : (m a b i : ℕ) → i < m → is_set a i ≡ true → is_set b i ≡ true → meets m a b ≡ true
unfolding meets
meets-make m a b i l p q = any-make m (λ i. is_set a i && is_set b i) i l (and_both (is_set a i) (is_set b i) p q)

-- the bidders whose set lies within s and meets t
abbrev pub wanting : ℕ → List ℕ → ℕ → ℕ → ℕ → Bool
wanting m ds s t b = part m (get_or ds b 0) s && meets m (get_or ds b 0) t

pub excess-use : (m n : ℕ) (ds : List ℕ) (s t : ℕ) → excess m n ds s ≡ true → t < 2 ^ m → (i : ℕ) → i < m → is_set t i ≡ true
    → ((k : ℕ) → k < m → is_set t k ≡ true → is_set s k ≡ true) → count m (is_set t) < count n (wanting m ds s t)
unfolding excess size
excess-use m n ds s t e lt i l h sub =
    ltb-true (count m (is_set t)) (count n (wanting m ds s t))
    (imp_use (any_below m (is_set t) && part m t s) _ (all-use (2 ^ m) _ e t lt)
    (and_both (any_below m (is_set t)) (part m t s) (any-make m (is_set t) i l h) (part-make m t s sub)))

pub excess-make : (m n : ℕ) (ds : List ℕ) (s : ℕ)
    → ((t i : ℕ) → i < m → is_set t i ≡ true → ((k : ℕ) → k < m → is_set t k ≡ true → is_set s k ≡ true) → count m (is_set t) < count n (wanting m ds s t))
    → excess m n ds s ≡ true
unfolding excess size
excess-make m n ds s h =
    all-make (2 ^ m) _
    (λ t lt. imp-make (any_below m (is_set t) && part m t s) _ λ e.
    let w = any-use m (is_set t) (and_left (any_below m (is_set t)) (part m t s) e) in
    lt-ltb (count m (is_set t)) (count n (wanting m ds s t))
    (h t w.0 w.1 w.2 (part-use m t s (and_right (any_below m (is_set t)) (part m t s) e))))

empty-excess : (m n : ℕ) (ds : List ℕ) → excess m n ds 0 ≡ true
empty-excess m n ds = excess-make m n ds 0 (λ t i l h sub. no_both (sub i l h) (is_set-empty i))

-- ---- the largest

pub largest-excess : (m n : ℕ) (ds : List ℕ) → Largest m (2 ^ m) (excess m n ds) (largest_excess m n ds)
unfolding largest_excess
largest-excess m n ds = largest_is m (excess m n ds) (empty-excess m n ds)

-- a set in excess demand that holds every other is the largest
module _ (m n : ℕ) (ds : List ℕ) (w : ℕ) (small : w < 2 ^ m) (in-excess : excess m n ds w ≡ true)
    (holds : (s : ℕ) → excess m n ds s ≡ true → (i : ℕ) → i < m → is_set s i ≡ true → is_set w i ≡ true) where
  abbrev r : ℕ
  r = largest_excess m n ds

  top : Largest m (2 ^ m) (excess m n ds) r
  top = largest-excess m n ds

  same : (i : ℕ) → i < m → (b c : Bool) → is_set w i ≡ b → is_set r i ≡ c → is_set w i ≡ is_set r i
  unfolding size
  same i l true true e g = e ∙ sym g
  same i l false false e g = e ∙ sym g
  same i l false true e g = no_both (holds r top.passes i l g) e
  same i l true false e g =
      absurd
      (lt_irrefl (count m (is_set r))
      (let more = count_less m (is_set r) (is_set w) (holds r top.passes) i l e g in
      omega (arith, top.most w small in-excess)))

  pub is-largest : w ≡ largest_excess m n ds
  is-largest = is_set-ext m w r small top.bound (λ i l. same i l (is_set w i) (is_set r i) refl refl)
