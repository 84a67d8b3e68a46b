-- What a place may hold, and the places one after the other: what is found at one, and what that says of all. Assumes nothing.
use Prim.Native.Nat.{ℕ, suc, ◌+◌, ◌≤◌, ◌<◌}
use mathlib.Core.Path.{◌≡◌, refl, ap, sym, ◌∙◌}
use mathlib.Core.Bool.{Bool, true, false, ◌&&◌, not, cond}
use mathlib.Core.List.{List}
use native.Mathlib.Numerals.{add-one}
use lib.Dec.{leb}
use lib.ListN.{length, get_or}
use borrow.Author.Tests.{leb-true, le-leb}
use Rattle.sets.specs.Bit.{has}
use Rattle.sets.proofs.Counting.{and_left, and_right, and_both, all-use, all-make, is_false, not-both, not_is}
use Rattle.rule.specs.Demand.{Demand}
use Rattle.reports.specs.Report.{saying, is_empty, unfit}
use Rattle.reports.specs.Places.{place_fits, all_fit}

-- ---- one place

module _ (m n b : ℕ) (reported : Bool) (d : Demand) where
  pub fits-reported : place_fits m n b reported d ≡ true → reported ≡ true → (b ≤ n) × (unfit m d ≡ false)
  unfolding place_fits
  fits-reported e h =
      let q = ap (λ (x : Bool). cond x (leb b n && not (unfit m d)) (is_empty d)) (sym h) ∙ e in
      (leb-true b n (and_left (leb b n) (not (unfit m d)) q), not_is (unfit m d) (and_right (leb b n) (not (unfit m d)) q))

  pub fits-other : place_fits m n b reported d ≡ true → reported ≡ false → is_empty d ≡ true
  unfolding place_fits
  fits-other e h = ap (λ (x : Bool). cond x (leb b n && not (unfit m d)) (is_empty d)) (sym h) ∙ e

  pub fits-make : (reported ≡ true → (b ≤ n) × (unfit m d ≡ false)) → (reported ≡ false → is_empty d ≡ true) → place_fits m n b reported d ≡ true
  unfolding place_fits
  fits-make f g = go reported f g
    where
      go : (x : Bool) → (x ≡ true → (b ≤ n) × (unfit m d ≡ false)) → (x ≡ false → is_empty d ≡ true) → cond x (leb b n && not (unfit m d)) (is_empty d) ≡ true
      go true f g = and_both (leb b n) (not (unfit m d)) (le-leb b n (f refl).0) (ap not (f refl).1)
      go false f g = g refl

-- ---- all places

module _ (m n : ℕ) (sets : List ℕ) (nulls reported : ℕ) where
  -- place k holds what it may
  abbrev pub fits_at : ℕ → Bool
  fits_at k = place_fits m n (suc k) (has reported (suc k)) (saying (has nulls (suc k)) (get_or sets k 0))

  -- what the code finds at place k
  pub found : (k : ℕ) (h o p : Bool) → h ≡ has reported (k + 1) → o ≡ has nulls (k + 1) → p ≡ place_fits m n (k + 1) h (saying o (get_or sets k 0)) → fits_at k ≡ p
  found k h o p eh eo ep =
      ap (λ (b : ℕ). place_fits m n b (has reported b) (saying (has nulls b) (get_or sets k 0))) (sym (add-one k))
      ∙ sym (ep ∙ ap (λ (x : Bool). place_fits m n (k + 1) x (saying o (get_or sets k 0))) eh ∙ ap (λ (x : Bool). place_fits m n (k + 1) (has reported (k + 1)) (saying x (get_or sets k 0))) eo)

  pub all-fit-use : all_fit m n sets nulls reported ≡ true → (k : ℕ) → k < length sets → fits_at k ≡ true
  unfolding all_fit
  all-fit-use e = all-use (length sets) fits_at e

  pub all-fit-make : ((k : ℕ) → k < length sets → fits_at k ≡ true) → all_fit m n sets nulls reported ≡ true
  unfolding all_fit
  all-fit-make h = all-make (length sets) fits_at h

  pub one-unfit : (k : ℕ) → k < length sets → fits_at k ≡ false → all_fit m n sets nulls reported ≡ false
  one-unfit k l e = is_false (all_fit m n sets nulls reported) (λ h. not-both (fits_at k) (all-fit-use h k l) e)
