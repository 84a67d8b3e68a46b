-- The empty report, a set that holds an item beyond the count, and a count that tells whether a report is missing. Assumes nothing.
use Prim.Native.Nat.{ℕ, suc, ◌^◌, ◌≤◌, ◌<◌}
use mathlib.Core.Path.{◌≡◌, refl, sym, ap, ◌∙◌}
use mathlib.Core.Bool.{Bool, true, false, ◌&&◌, not}
use mathlib.Core.Logic.{◌⊎◌, inl, inr}
use native.Mathlib.Omega.{arith}
use native.Mathlib.Decide.{ℕ_discrete}
use lib.Dec.{leb, ltb, eqb}
use borrow.Author.Tests.{eqb-true, eq-eqb, ne_eqb, le-leb, lt-leb, lt-ltb, le-ltb, not-false}
use Rattle.sets.specs.Bit.{has, is_set, set_of, size}
use Rattle.sets.specs.Count.{any_below, count}
use Rattle.sets.proofs.Counting.{lt-or-le, and_right, and_both, and-right-false, any-use, any-make, any_false, is_false, not-both, not_is, count-all, count-trim, count_less, count-le}
use Rattle.sets.proofs.Members.{empty-has, has-set_of, has-past, is_set-set_of, is_set-none, is_set-empty}
use Rattle.sets.proofs.Taking.{member-lt}
use Rattle.rule.specs.Demand.{Demand}
use Rattle.reports.specs.Report.{is_empty, beyond}
use Rattle.reports.specs.Places.{any_missing}

-- the empty report holds no item beyond the count
pub empty-within : (m : ℕ) (d : Demand) → is_empty d ≡ true → beyond m d ≡ false
unfolding is_empty beyond
empty-within m d e =
    let z : d.items ≡ 0 = eqb-true d.items 0 (and_right (not d.null) (eqb d.items 0) e) in
    any_false 32 (λ k. leb m k && has d.items (suc k))
    (λ k l. is_false (leb m k && has d.items (suc k)) (λ h. not-both (has d.items (suc k)) (and_right (leb m k) (has d.items (suc k)) h) (rw z (empty-has (suc k)))))

-- a set less the first m items is empty where it holds none beyond m
module _ (m s f o : ℕ) (first : f ≡ set_of 32 (λ k. leb k m)) (less : o ≡ set_of 32 (λ k. has s k && not (has f k))) where
  abbrev past : ℕ → Bool
  past k = leb m k && has s (suc k)

  at : (k : ℕ) → k < 32 → is_set o k ≡ has s (suc k) && not (leb (suc k) m)
  at k l =
      ap (λ (x : ℕ). is_set x k) less ∙ is_set-set_of 32 (λ k. has s k && not (has f k)) k l
      ∙ ap (λ (x : Bool). has s (suc k) && not x) (ap (λ (x : ℕ). has x (suc k)) first ∙ has-set_of 32 (λ k. leb k m) k l)

  same : (k : ℕ) → k < 32 → is_set o k ≡ past k
  same k l = at k l ∙ go (has s (suc k)) (lt-or-le k m)
    where
      go : (h : Bool) → (k < m) ⊎ (m ≤ k) → h && not (leb (suc k) m) ≡ leb m k && h
      go h (inl q) = rw (le-leb (suc k) m q, lt-leb m k q) (and-right-false h false refl)
      go true (inr q) = rw (lt-leb (suc k) m (omega arith), le-leb m k q) refl
      go false (inr q) = sym (and-right-false (leb m k) false refl)

  pub beyond-any : not (eqb o 0) ≡ any_below 32 past
  beyond-any = go (ℕ_discrete o 0) (any_below 32 past) refl
    where
      none : any_below 32 past ≡ false → o ≡ 0
      none e = is_set-none 32 o (member-lt 32 o (λ k. has s k && not (has f k)) less) (λ k l. same k l ∙ is_false (past k) (λ q. not-both (any_below 32 past) (any-make 32 past k l q) e))

      go : Dec (o ≡ 0) → (b : Bool) → any_below 32 past ≡ b → not (eqb o 0) ≡ b
      go (yes z) true e = let w = any-use 32 past e in absurd (not-both (past w.0) w.2 (sym (same w.0 w.1) ∙ ap (λ (x : ℕ). is_set x w.0) z ∙ is_set-empty w.0))
      go (yes z) false e = ap not (eq-eqb o 0 z)
      go (no n) true e = ap not (ne_eqb o 0 n)
      go (no n) false e = absurd (n (none e))

-- of the first n bidders fewer than n have reported where a report is missing
module _ (n r f g : ℕ) (small : r < 2 ^ 64) (first : f ≡ set_of 64 (λ k. leb k n)) (both : g ≡ set_of 64 (λ k. has r k && has f k)) where
  here : (k : ℕ) → k < 64 → is_set g k ≡ has r (suc k) && leb (suc k) n
  here k l =
      ap (λ (x : ℕ). is_set x k) both ∙ is_set-set_of 64 (λ k. has r k && has f k) k l
      ∙ ap (λ (x : Bool). has r (suc k) && x) (ap (λ (x : ℕ). has x (suc k)) first ∙ has-set_of 64 (λ k. leb k n) k l)

  up_to : n ≤ 64 → size 64 g ≡ count n (is_set g)
  unfolding size
  up_to l = count-trim 64 n (is_set g) l (λ k q lk. here k lk ∙ rw (lt-leb (suc k) n (omega arith)) (and-right-false (has r (suc k)) false refl))

  abbrev silent : ℕ → Bool
  silent k = not (has r (suc k))

  pub missing-count : ltb (size 64 g) n ≡ any_missing n r
  unfolding any_missing size
  missing-count = go (lt-or-le 64 n) (any_below n silent) refl
    where
      go : (64 < n) ⊎ (n ≤ 64) → (b : Bool) → any_below n silent ≡ b → ltb (size 64 g) n ≡ b
      go (inl l) true e = lt-ltb (size 64 g) n (omega (arith, l, count-le 64 (is_set g)))
      go (inl l) false e = absurd (not-both (any_below n silent) (any-make n silent 64 l (ap not (has-past 64 r 65 small (omega arith)))) e)
      go (inr l) true e =
          let w = any-use n silent e in
          let less : count n (is_set g) < count n (λ k. true) =
          count_less n (is_set g) (λ k. true) (λ k lk q. refl) w.0 w.1 refl (here w.0 (omega (arith, l, w.1)) ∙ ap (λ (x : Bool). x && leb (suc w.0) n) (not_is (has r (suc w.0)) w.2)) in
          lt-ltb (size 64 g) n (omega (arith, less, up_to l, count-all n (λ k. true) (λ k lk. refl)))
      go (inr l) false e =
          le-ltb (size 64 g) n (omega (arith, up_to l, count-all n (is_set g) there))
        where
          there : (k : ℕ) → k < n → is_set g k ≡ true
          there k lk =
              here k (omega arith)
              ∙ and_both (has r (suc k)) (leb (suc k) n) (not-false (has r (suc k)) (is_false (silent k) (λ q. not-both (any_below n silent) (any-make n silent k lk q) e))) (le-leb (suc k) n lk)
