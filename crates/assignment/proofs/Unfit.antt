-- Where no assignment fits, everybody's option is null. Assumes nothing.
use Prim.Native.Nat.{ℕ, zero, suc, ◌+◌, ◌-◌, ◌≤◌, ◌<◌}
use mathlib.Core.Path.{◌≡◌, refl, sym, ap, ◌∙◌}
use mathlib.Core.Bool.{Bool, true, false}
use mathlib.Core.List.{List, [], ◌∷◌}
use native.Mathlib.Omega.{arith}
use lib.ListN.{length, get_or, replicate, length-replicate}
use borrow.Author.Tests.{le-leb, lt-leb}
use Rattle.sets.specs.Bit.{any}
use Rattle.sets.specs.Lists.{places}
use Rattle.sets.proofs.Counting.{any-make, not-both, is_false}
use Rattle.sets.proofs.Lists.{is-tabulate}
use Rattle.sets.proofs.Lowest.{is-null, lowest-unique}
use Rattle.rule.specs.Assignment.{fits, some_list, choose, assignment}
use Rattle.round.specs.Reports.{reports}
use Rattle.sets.proofs.Filling.{zeros-at}
use Rattle.round.proofs.Reporting.{reports-length}
use Rattle.assignment.specs.Assigned.{assigned}
use Rattle.assignment.specs.Choice.{completed}

pub choose-none : (m n : ℕ) (f : List ℕ → Bool) → some_list m n f ≡ false → choose m n f ≡ replicate n 0
unfolding choose some_list any
choose-none m zero f e = refl
choose-none m (suc n) f e = ap (λ (i : ℕ). i ∷ choose m n (λ xs. f (i ∷ xs))) (sym (lowest-unique m g 0 (is-null (λ k l. off (suc k) (omega arith))))) ∙ ap (λ (xs : List ℕ). 0 ∷ xs) (choose-none m n (λ xs. f (0 ∷ xs)) (off 0 (omega arith)))
  where
    g : ℕ → Bool
    g i = some_list m n (λ xs. f (i ∷ xs))

    off : (i : ℕ) → i < suc m → some_list m n (λ xs. f (i ∷ xs)) ≡ false
    off i l = is_false (some_list m n (λ xs. f (i ∷ xs))) (λ h. not-both (any m (λ i. some_list m n (λ xs. f (i ∷ xs)))) (unfold any in any-make (suc m) (λ i. some_list m n (λ xs. f (i ∷ xs))) i l h) (unfold any in e))

places-zeros : (w n : ℕ) → replicate w 0 ≡ places w (replicate n 0)
unfolding places
places-zeros w n = is-tabulate w (replicate w 0) (λ k. get_or (replicate n 0) k 0) 0 (length-replicate {A = ℕ} w 0) (λ k l. zeros-at w k ∙ sym (zeros-at n (0 + k)))

-- ---- what the code answers

pub assigned-many : (sets : List ℕ) (nulls above n : ℕ) → 64 < n → replicate 64 0 ≡ assigned sets nulls above n
unfolding assigned
assigned-many sets nulls above n l =
    ap (λ (b : Bool). elim b [ true ↦ places 64 (assignment 32 above (reports n sets nulls)) | false ↦ replicate 64 0 ]) (sym (lt-leb n 64 l))

pub assigned-is : (sets : List ℕ) (nulls above n : ℕ) → n ≤ 64 → places 64 (assignment 32 above (reports n sets nulls)) ≡ assigned sets nulls above n
unfolding assigned
assigned-is sets nulls above n l =
    ap (λ (b : Bool). elim b [ true ↦ places 64 (assignment 32 above (reports n sets nulls)) | false ↦ replicate 64 0 ]) (sym (le-leb n 64 l))

pub assigned-unfit : (sets : List ℕ) (nulls above n : ℕ) → n ≤ 64 → completed n sets nulls above [] ≡ false → replicate 64 0 ≡ assigned sets nulls above n
unfolding completed assignment
assigned-unfit sets nulls above n l e = places-zeros 64 n ∙ ap (places 64) (sym none) ∙ assigned-is sets nulls above n l
  where
    none : choose 32 (length (reports n sets nulls)) (fits 32 above (reports n sets nulls)) ≡ replicate n 0
    none =
        let z : n - 0 ≡ n = omega arith in
        ap (λ (k : ℕ). choose 32 k (fits 32 above (reports n sets nulls))) (reports-length n sets nulls)
        ∙ choose-none 32 n (fits 32 above (reports n sets nulls)) (ap (λ (k : ℕ). some_list 32 k (fits 32 above (reports n sets nulls))) (sym z) ∙ (unfold completed in e))
