-- Bytes that stand at a place of a sheet, taken apart and put together. Assumes nothing.
use Prim.Native.Nat.{ℕ, zero, suc, ◌+◌, ◌-◌, ◌≤◌, ◌<◌}
use mathlib.Core.Path.{◌≡◌, refl, sym, ap, ◌∙◌}
use mathlib.Core.List.{List, [], ◌∷◌, ◌++◌}
use Rattle.std.specs.Prelude.{None, Some, slice_get}
use native.Mathlib.Omega.{arith}
use native.Mathlib.Nat.{not-suc-le-zero, zero-add, add-zero, add_assoc}
use native.Mathlib.Decide.{dec_lt}
use lib.ListN.{length, get_or, length-append, get_or-append}
use lib.Seq.{get_or-append-add, ext_get_or}

-- vs stands in the bytes from a place on
pub record Stands (bytes : List ℕ) (at : ℕ) (vs : List ℕ) : Type 0 where
  pub fits : at + length vs ≤ length bytes
  pub same : (k : ℕ) → k < length vs → get_or bytes (at + k) 0 ≡ get_or vs k 0

-- an element that is there, and one that is not
pub there : (l : List ℕ) (k : ℕ) → k < length l → slice_get l k ≡ Some (get_or l k 0)
there [] k h = absurd (not-suc-le-zero h)
there (x ∷ l) zero h = refl
there (x ∷ l) (suc k) h = there l k (omega arith)

pub beyond : (l : List ℕ) (k : ℕ) → length l ≤ k → slice_get l k ≡ None
beyond [] k h = refl
beyond (x ∷ l) zero h = absurd (not-suc-le-zero h)
beyond (x ∷ l) (suc k) h = beyond l k (omega arith)

pub itself : (vs : List ℕ) → Stands vs 0 vs
itself vs = record { fits = omega arith; same = λ k h. ap (λ (j : ℕ). get_or vs j 0) (zero-add k) }

module _ (bytes : List ℕ) (at : ℕ) where
  pub nothing : at ≤ length bytes → Stands bytes at []
  nothing h = record { fits = omega arith; same = λ k l. absurd (not-suc-le-zero l) }

  pub one : (v : ℕ) → at < length bytes → get_or bytes at 0 ≡ v → Stands bytes at (v ∷ [])
  one v h e = record { fits = omega arith; same = at_zero }
    where
      at_zero : (k : ℕ) → k < 1 → get_or bytes (at + k) 0 ≡ get_or (v ∷ []) k 0
      at_zero zero l = ap (λ (j : ℕ). get_or bytes j 0) (add-zero at) ∙ e
      at_zero (suc k) l = absurd (not-suc-le-zero {n = k} (omega arith))

  module _ (xs ys : List ℕ) where
    pub front : Stands bytes at (xs ++ ys) → Stands bytes at xs
    front s =
        record {
          fits = omega (arith, s.fits, length-append xs ys);
          same = λ k h. s.same k (omega (arith, length-append xs ys)) ∙ get_or-append xs ys 0 k h;
        }

    pub back : Stands bytes at (xs ++ ys) → Stands bytes (at + length xs) ys
    back s =
        record {
          fits = omega (arith, s.fits, length-append xs ys);
          same = λ k h.
              ap (λ (j : ℕ). get_or bytes j 0) (add_assoc at (length xs) k)
              ∙ s.same (length xs + k) (omega (arith, length-append xs ys))
              ∙ get_or-append-add xs ys k 0;
        }

    pub both : Stands bytes at xs → Stands bytes (at + length xs) ys → Stands bytes at (xs ++ ys)
    both s t = record { fits = omega (arith, t.fits, length-append xs ys); same = λ k h. go k h (dec_lt k (length xs)) }
      where
        go : (k : ℕ) → k < length (xs ++ ys) → Dec (k < length xs) → get_or bytes (at + k) 0 ≡ get_or (xs ++ ys) k 0
        go k h (yes l) = s.same k l ∙ sym (get_or-append xs ys 0 k l)
        go k h (no l) =
            let j : ℕ = k - length xs in
            let e : k ≡ length xs + j = omega arith in
            let f : at + k ≡ at + length xs + j = omega arith in
            ap (λ (i : ℕ). get_or bytes i 0) f
            ∙ t.same j (omega (arith, length-append xs ys))
            ∙ sym (ap (λ (i : ℕ). get_or (xs ++ ys) i 0) e ∙ get_or-append-add xs ys j 0)

-- bytes that stand at the front and are all that there is
pub whole : (bytes vs : List ℕ) → Stands bytes 0 vs → length bytes ≡ length vs → bytes ≡ vs
whole bytes vs s e = ext_get_or 0 bytes vs e (λ k h. sym (ap (λ (j : ℕ). get_or bytes j 0) (zero-add k)) ∙ s.same k (omega arith))
