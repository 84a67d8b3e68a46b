-- The largest set that passes a test, where the empty one does: it passes, and no set that does has more items. Assumes nothing.
use Prim.Native.Nat.{ℕ, zero, suc, ◌^◌, ◌≤◌, ◌<◌}
use mathlib.Core.Path.{◌≡◌, refl, sym, ap, ◌∙◌, subst}
use mathlib.Core.Bool.{Bool, true, false, ◌&&◌, cond, true≢false}
use mathlib.Core.Logic.{inl, inr}
use native.Mathlib.Omega.{arith}
use native.Mathlib.Nat.{not-suc-le-zero, le_refl}
use lib.Dec.{ltb}
use lib.Pow.{pow_pos}
use borrow.Author.Tests.{ltb-true, ltb-false}
use Rattle.sets.specs.Bit.{size}
use Rattle.sets.specs.Largest.{largest_below, largest}
use Rattle.sets.proofs.Counting.{below_suc}

-- among the sets numbered below n
pub record Largest (m n : ℕ) (f : ℕ → Bool) (r : ℕ) : Type 0 where
  pub passes : f r ≡ true
  pub bound : r < 2 ^ m
  pub most : (k : ℕ) → k < n → f k ≡ true → size m k ≤ size m r

below-is : (m n : ℕ) (f : ℕ → Bool) → n ≤ 2 ^ m → f 0 ≡ true → Largest m n f (largest_below m n f)
unfolding largest_below
below-is m zero f l z = record { passes = z; bound = pow_pos m; most = λ k lk. absurd (not-suc-le-zero lk) }
below-is m (suc n) f l z = go (below-is m n f (omega arith) z) (f n) refl (ltb (size m (largest_below m n f)) (size m n)) refl
  where
    go : Largest m n f (largest_below m n f) → (b : Bool) → f n ≡ b → (c : Bool) → ltb (size m (largest_below m n f)) (size m n) ≡ c
        → Largest m (suc n) f (cond (f n && ltb (size m (largest_below m n f)) (size m n)) n (largest_below m n f))
    go ih true e true g =
        rw (e, g)
        (record {
          passes = e;
          bound = l;
          most = λ k lk fk. elim (below_suc lk) [
            | inl q ↦ subst (λ (x : ℕ). size m x ≤ size m n) (sym q) (le_refl (size m n))
            | inr lt ↦ omega (arith, ih.most k lt fk, ltb-true (size m (largest_below m n f)) (size m n) g)
          ];
        })
    go ih true e false g =
        rw (e, g)
        (record {
          passes = ih.passes;
          bound = ih.bound;
          most = λ k lk fk. elim (below_suc lk) [
            | inl q ↦ subst (λ (x : ℕ). size m x ≤ size m (largest_below m n f)) (sym q) (ltb-false (size m (largest_below m n f)) (size m n) g)
            | inr lt ↦ ih.most k lt fk
          ];
        })
    go ih false e c g =
        rw e
        (record {
          passes = ih.passes;
          bound = ih.bound;
          most = λ k lk fk. elim (below_suc lk) [
            | inl q ↦ absurd (true≢false (sym fk ∙ ap f q ∙ e))
            | inr lt ↦ ih.most k lt fk
          ];
        })

pub largest_is : (m : ℕ) (f : ℕ → Bool) → f 0 ≡ true → Largest m (2 ^ m) f (largest m f)
unfolding largest
largest_is m f z = below-is m (2 ^ m) f (le_refl (2 ^ m)) z
