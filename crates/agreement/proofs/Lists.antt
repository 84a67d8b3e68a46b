-- Lists and sets made of a function: equal where the functions are, and with one place changed. Assumes nothing.
use Prim.Native.Nat.{ℕ, zero, suc, ◌<◌}
use mathlib.Core.Path.{◌≡◌, sym, ap, ◌∙◌, subst}
use mathlib.Core.Bool.{Bool, false, cond}
use native.Mathlib.Omega.{arith}
use native.Mathlib.Nat.{zero-add}
use native.Mathlib.Decide.{ℕ_discrete}
use lib.Dec.{eqb}
use lib.ListN.{get_or, set, replicate, length-set, length-replicate, get_or-replicate}
use lib.Seq.{get_or-set_same, get_or-set_other}
use borrow.Author.Tests.{eq-eqb, ne_eqb}
use Rattle.sets.specs.Bit.{has, set_of}
use Rattle.sets.specs.Lists.{tabulate}
use Rattle.sets.proofs.Lists.{tabulate-length, tabulate-at, is-tabulate}
use Rattle.sets.proofs.Members.{set_of-lt, has-set_of, none-zero, has-zero}

pub replicate-is : (n x : ℕ) → replicate n x ≡ tabulate n (λ k. x) 0
replicate-is n x = is-tabulate n (replicate n x) (λ k. x) 0 (length-replicate {A = ℕ} n x) (λ k l. get_or-replicate n k x 0 l)

-- one place changed
pub tabulate-set : (n : ℕ) (f : ℕ → ℕ) (b v : ℕ) → set (tabulate n f 0) b v ≡ tabulate n (λ k. cond (eqb k b) v (f k)) 0
tabulate-set n f b v =
    is-tabulate n (set (tabulate n f 0) b v) (λ k. cond (eqb k b) v (f k)) 0 (length-set (tabulate n f 0) b v ∙ tabulate-length n f 0)
    (λ k l. at k l (ℕ_discrete k b) ∙ ap (λ (j : ℕ). cond (eqb j b) v (f j)) (sym (zero-add k)))
  where
    at : (k : ℕ) → k < n → Dec (k ≡ b) → get_or (set (tabulate n f 0) b v) k 0 ≡ cond (eqb k b) v (f k)
    at k l (yes e) =
        ap (λ (j : ℕ). get_or (set (tabulate n f 0) b v) j 0) e
        ∙ get_or-set_same (tabulate n f 0) b v 0 (subst (λ (x : ℕ). b < x) (sym (tabulate-length n f 0)) (subst (λ (x : ℕ). x < n) e l))
        ∙ sym (ap (λ (x : Bool). cond x v (f k)) (eq-eqb k b e))
    at k l (no ne) =
        get_or-set_other (tabulate n f 0) b k v 0 ne ∙ tabulate-at n f 0 k 0 l ∙ ap f (zero-add k) ∙ sym (ap (λ (x : Bool). cond x v (f k)) (ne_eqb k b ne))

pub set_of-none : (m : ℕ) (f : ℕ → Bool) → ((k : ℕ) → k < m → f (suc k) ≡ false) → set_of m f ≡ 0
set_of-none m f h = none-zero m (set_of m f) (set_of-lt m f) at
  where
    at : (i : ℕ) → i < suc m → has (set_of m f) i ≡ false
    at zero l = has-zero (set_of m f)
    at (suc k) l = has-set_of m f k (omega arith) ∙ h k (omega arith)
