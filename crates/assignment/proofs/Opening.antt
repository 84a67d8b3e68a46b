-- The open places: an item is open until a bidder has it, and null always. Assumes nothing.
use Prim.Native.Nat.{ℕ, zero, suc, ◌+◌, ◌<◌}
use mathlib.Core.Path.{◌≡◌, sym, ◌∙◌}
use mathlib.Core.Bool.{true, ◌&&◌, ◌||◌, not}
use mathlib.Core.List.{List, [], ◌∷◌, ◌++◌}
use mathlib.Core.Logic.{◌⊎◌, inl, inr}
use native.Mathlib.Omega.{arith}
use native.Mathlib.Nat.{not-suc-le-zero}
use lib.Dec.{eqb}
use lib.ListN.{length}
use Rattle.sets.specs.Bit.{is_set, has, set_of}
use Rattle.sets.proofs.Members.{is_set-full}
use Rattle.sets.proofs.Taking.{below-width, member-lt, without-use, without-make}
use Rattle.rule.specs.Assignment.{option}
use Rattle.rule.proofs.Completion.{option-low, option-at, snoc-length, Snoc, snoc-split}
use Rattle.assignment.specs.Search.{Open}
use Rattle.assignment.specs.Turn.{Opens}
use Rattle.assignment.proofs.Places.{with-use, with-old, with-new}

-- at first all
pub opens-all : Opens [] 8589934591
opens-all = record { only = λ p o. (below-width 33 8589934591 p (omega arith) o, λ c lc. absurd (not-suc-le-zero lc)); all = λ p l f. is_set-full 33 p l }

-- the next bidder has i
pub opens-next : {ys : List ℕ} {s : ℕ} → Opens ys s → (i t : ℕ) → t ≡ set_of 64 (λ j. has s j && not (eqb j (i + 1))) → (r : ℕ) → r ≡ set_of 64 (λ j. has t j || eqb j 1) → Opens (ys ++ (i ∷ [])) r
opens-next {ys} {s} h i t et r er = record { only = λ p o. only p (with-use t 0 r er p o); all = all }
  where
    only : (p : ℕ) → (is_set t p ≡ true) ⊎ (p ≡ 0) → (p < 33) × Open (ys ++ (i ∷ [])) p
    only p (inr z) = (omega arith, λ c lc pos e. omega arith)
    only p (inl o) = let v = without-use 64 s (i + 1) t et p o in ((h.only p v.0).0, λ c lc pos e. free c pos e v.0 v.1 (snoc-split ys i c lc))
      where
        free : (c : ℕ) → 0 < p → option (ys ++ (i ∷ [])) c ≡ p → is_set s p ≡ true → (suc p ≡ i + 1 → ⊥) → Snoc ys i c → ⊥
        free c pos e o ne (inl v) = (h.only p o).1 c v.0 pos (sym v.1 ∙ e)
        free c pos e o ne (inr v) = ne (omega (arith, e, v.1))

    all : (p : ℕ) → p < 33 → Open (ys ++ (i ∷ [])) p → is_set r p ≡ true
    all zero l f = with-new t 0 r er (omega arith)
    all (suc p) l f =
        with-old t 0 r er (member-lt 64 t (λ j. has s j && not (eqb j (i + 1))) et) (suc p)
        (without-make 64 s (i + 1) t et (suc p) (omega arith) (h.all (suc p) l (λ c lc pos e. f c (omega (arith, lc, snoc-length ys i)) pos (option-low ys (i ∷ []) c lc ∙ e)))
        (λ q. f (length ys) (omega (arith, snoc-length ys i)) (omega arith) (omega (arith, option-at ys [] i))))
