-- An array that is made by a call for each place, where the call leaves what it is made with as it is. Assumes nothing.
use Prim.Native.Nat.{ℕ, zero, suc, ◌+◌, ◌≤◌, ◌<◌}
use mathlib.Core.Path.{◌≡◌, refl, sym, ap, ◌∙◌, subst}
use mathlib.Core.List.{List}
use mathlib.Core.Logic.{◌⊎◌, inl, inr}
use native.Mathlib.Omega.{arith}
use native.Mathlib.Nat.{zero-add}
use lib.ListN.{get_or}
use denote.Param.Members.{Mut, Called}
use Rattle.std.specs.Array.{IsFromFnResult, IsFromFnResultFrom}
use Rattle.sets.specs.Lists.{tabulate}
use Rattle.sets.proofs.Counting.{lt-or-le}
use Rattle.sets.proofs.Lists.{is-tabulate}

-- a closure f, of which each call at a place gives what P says there
module _ {F : Type 0} (g : Mut F (ℕ × Unit {0}) ℕ) (f : F) (n : ℕ) (P : ℕ → ℕ → Type 0)
    (call : (q : F) (i y : ℕ) → i < n → Called g f (i, tt) y q → P i y × (q ≡ f)) where
  each-from : (ys : List ℕ) (m i : ℕ) (p : F) → i + m ≡ n → p ≡ f → IsFromFnResultFrom g p ys i m → (k : ℕ) → i ≤ k → k < i + m → P k (get_or ys k 0)
  each-from ys zero i p e s r k lo hi = absurd (omega arith)
  each-from ys (suc m) i p e s r k lo hi =
      let here : P i r.1 × (r.0 ≡ f) = call r.0 i r.1 (omega arith) (subst (λ (o : F). Called g o (i, tt) r.1 r.0) s r.3) in
      go here.0 (lt-or-le i k) (λ l. each-from ys m (i + 1) r.0 (omega arith) here.1 r.4 k l (omega arith))
    where
      go : P i r.1 → (i < k) ⊎ (k ≤ i) → (i + 1 ≤ k → P k (get_or ys k 0)) → P k (get_or ys k 0)
      go h (inl l) rest = rest (omega arith)
      go h (inr l) rest = let same : i ≡ k = omega arith in subst (λ (j : ℕ). P j (get_or ys j 0)) same (subst (P i) (sym (r.2.1 0)) h)

  pub from_fn-each : (ys : List ℕ) → IsFromFnResult g f ys n → (k : ℕ) → k < n → P k (get_or ys k 0)
  from_fn-each ys r k l = each-from ys n 0 f (omega arith) refl r.each k (omega arith) (omega arith)

-- each call gives what `at` says
pub from_fn-tabulate : {F : Type 0} (g : Mut F (ℕ × Unit {0}) ℕ) (f : F) (n : ℕ) (at : ℕ → ℕ)
    → ((q : F) (i y : ℕ) → i < n → Called g f (i, tt) y q → (y ≡ at i) × (q ≡ f)) → (ys : List ℕ) → IsFromFnResult g f ys n → ys ≡ tabulate n at 0
from_fn-tabulate g f n at call ys r =
    is-tabulate n ys at 0 r.long (λ k l. from_fn-each g f n (λ i y. y ≡ at i) call ys r k l ∙ ap at (sym (zero-add k)))
