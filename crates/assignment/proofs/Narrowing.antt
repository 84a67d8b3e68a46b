-- Fewer than 32 items: where nothing is reported past m items, and no item past m is above its floor, the names are those among m items. Assumes nothing.
use Prim.Native.Nat.{ℕ, zero, suc, ◌^◌, ◌≤◌, ◌<◌}
use mathlib.Core.Path.{◌≡◌, refl, sym, ◌∙◌}
use mathlib.Core.Bool.{Bool, true, false}
use mathlib.Core.List.{List}
use mathlib.Core.Logic.{◌⊎◌, inl, inr}
use native.Mathlib.Omega.{arith}
use lib.ListN.{length, get_or}
use Rattle.sets.specs.Bit.{has}
use Rattle.sets.proofs.Counting.{lt-or-le, not-both}
use Rattle.sets.proofs.Members.{has-past}
use Rattle.rule.specs.Demand.{wants, nth}
use Rattle.rule.specs.Assignment.{option, fits, some_list, choose, assignment}
use Rattle.rule.proofs.Order.{Listed, some-make, choose-passes, choose-first, not-after-same}
use Rattle.rule.proofs.Fitting.{fits-use, fits-make, assigns-listed}
use Rattle.round.specs.Reports.{reports, Reported}
use Rattle.round.proofs.Reporting.{reports-length}
use Rattle.assignment.proofs.Completing.{wants-item}
use Rattle.assignment.proofs.Unfit.{choose-none}

-- two tests that the same lists pass, of options 0 to k for the one and 0 to m for the other, have the same first list
choose-same : (k m n : ℕ) (f g : List ℕ → Bool) → ((xs : List ℕ) → f xs ≡ true → (g xs ≡ true) × Listed k n xs) → ((xs : List ℕ) → g xs ≡ true → (f xs ≡ true) × Listed m n xs)
    → choose k n f ≡ choose m n g
choose-same k m n f g there back = go (some_list k n f) refl (some_list m n g) refl
  where
    go : (a : Bool) → some_list k n f ≡ a → (b : Bool) → some_list m n g ≡ b → choose k n f ≡ choose m n g
    go false p false q = choose-none k n f p ∙ sym (choose-none m n g q)
    go false p true q =
        let y = (choose-passes m n g q).1 in
        let fy = (back (choose m n g) y).0 in
        absurd (not-both (some_list k n f) (some-make k n f (choose m n g) (there (choose m n g) fy).1 fy) p)
    go true p b q =
        let x = (choose-passes k n f p).1 in
        let gx = (there (choose k n f) x).0 in
        let some = some-make m n g (choose k n f) (back (choose k n f) gx).1 gx in
        let fy = (back (choose m n g) (choose-passes m n g some).1).0 in
        not-after-same (choose k n f) (choose m n g) (choose-first k n f (choose m n g) (there (choose m n g) fy).1 fy)
        (choose-first m n g (choose k n f) (back (choose k n f) gx).1 gx)

module _ (m n : ℕ) (sets : List ℕ) (r : Reported m n sets) (nulls above : ℕ) (la : above < 2 ^ m) where
  len : length (reports n sets nulls) ≡ n
  len = reports-length n sets nulls

  -- an item that is demanded, and one above its floor, is among m
  demanded : (b i : ℕ) → b < length (reports n sets nulls) → wants (nth (reports n sets nulls) b) i ≡ true → i < suc m
  demanded b zero l e = omega arith
  demanded b (suc k) l e = go (lt-or-le k m)
    where
      lb : b < n
      lb = omega (arith, l, len)

      go : (k < m) ⊎ (m ≤ k) → suc k < suc m
      go (inl q) = omega arith
      go (inr q) = absurd (not-both (has (get_or sets b 0) (suc k)) (sym (wants-item n sets nulls b k lb) ∙ e) (has-past m (get_or sets b 0) (suc k) (r.small b lb) (omega arith)))

  priced : (i : ℕ) → has above i ≡ true → i < suc m
  priced zero e = omega arith
  priced (suc k) e = go (lt-or-le k m)
    where
      go : (k < m) ⊎ (m ≤ k) → suc k < suc m
      go (inl q) = omega arith
      go (inr q) = absurd (not-both (has above (suc k)) e (has-past m above (suc k) la (omega arith)))

  -- so what fits among 32 items fits among m, and back
  narrower : (xs : List ℕ) → fits 32 above (reports n sets nulls) xs ≡ true → fits m above (reports n sets nulls) xs ≡ true
  narrower xs e =
      let f = fits-use 32 above (reports n sets nulls) xs e in
      fits-make m above (reports n sets nulls) xs
      (record {
        assigns = record { all = f.assigns.all; small = λ b l. demanded b (option xs b) l (f.wanted b l); once = f.assigns.once };
        wanted = f.wanted;
        covers = λ i l u. f.covers i (omega (arith, l, r.max_items)) u;
      })

  wider : (xs : List ℕ) → fits m above (reports n sets nulls) xs ≡ true → fits 32 above (reports n sets nulls) xs ≡ true
  wider xs e =
      let f = fits-use m above (reports n sets nulls) xs e in
      fits-make 32 above (reports n sets nulls) xs
      (record {
        assigns = record { all = f.assigns.all; small = λ b l. omega (arith, f.assigns.small b l, r.max_items); once = f.assigns.once };
        wanted = f.wanted;
        covers = λ i l u. f.covers i (priced i u) u;
      })

  listed_of : (k : ℕ) (xs : List ℕ) → fits k above (reports n sets nulls) xs ≡ true → Listed k (length (reports n sets nulls)) xs
  listed_of k xs e = assigns-listed k (length (reports n sets nulls)) xs (fits-use k above (reports n sets nulls) xs e).assigns

  pub assignment-narrow : assignment 32 above (reports n sets nulls) ≡ assignment m above (reports n sets nulls)
  unfolding assignment
  assignment-narrow =
      choose-same 32 m (length (reports n sets nulls)) (fits 32 above (reports n sets nulls)) (fits m above (reports n sets nulls))
      (λ xs e. (narrower xs e, listed_of 32 xs e)) (λ xs e. (wider xs e, listed_of m xs e))
