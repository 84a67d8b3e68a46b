-- The transposed table of bids, line after line. THEORY.md 2.13. Assumes nothing.
use Prim.Native.Nat.{ℕ, ◌+◌, ◌*◌, ◌≤◌, ◌<◌}
use mathlib.Core.Path.{◌≡◌, refl, sym, ap, ◌∙◌, subst}
use mathlib.Core.List.{List}
use mathlib.Core.Logic.{◌⊎◌, inl, inr}
use native.Mathlib.Omega.{arith}
use native.Mathlib.Nat.{mul-le-mul_right}
use native.Mathlib.Decide.{ℕ_discrete}
use lib.ListN.{length, get_or, set, replicate, length-set}
use lib.Seq.{get_or-set_same, get_or-set_other}
use borrow.Author.Count.{below_more}
use Rattle.sets.proofs.Counting.{below_suc}
use Rattle.sets.proofs.Filling.{zeros-at}
use Rattle.bids.proofs.Lent.{line-inside}
use Rattle.bids.specs.Fit.{Small, Fit}
use Rattle.least.specs.Transposing.{TransposedTo, Transposed}

module _ {m n : ℕ} {bids : List ℕ} (f : Fit m n bids) where
  -- line i lies within the table, and what is read within the bids
  pub line-fits : (i : ℕ) → i < m → i * n + n ≤ 2048
  line-fits i l =
      let most : m * n ≤ 32 * n = mul-le-mul_right n f.max_items in
      omega (arith, line-inside n m i (m * n) refl l, most, f.max_bidders)

  pub bid-fits : (b i : ℕ) → b < n → i < m → b * m + i < length bids
  bid-fits b i lb li = omega (arith, line-inside m n b (length bids) f.long lb, li)

  pub transposed-more : (i b : ℕ) (before table : List ℕ) → i < m → b < n → TransposedTo m n bids i b before table
      → TransposedTo m n bids i (b + 1) before (set table (i * n + b) (get_or bids (b * m + i) 0))
  unfolding Small
  transposed-more i b before table li lb t =
      record {
        long = length-set table (i * n + b) v ∙ t.long;
        small = λ p. small p (ℕ_discrete p (i * n + b));
        done = below_more _ _ (λ c lc. get_or-set_other table (i * n + b) (i * n + c) v 0 (λ q. omega arith) ∙ t.done c lc) (get_or-set_same table (i * n + b) v 0 (omega (arith, t.long, line-fits i li)));
        rest = λ p h. get_or-set_other table (i * n + b) p v 0 (λ q. omega arith) ∙ t.rest p h;
      }
    where
      v : ℕ
      v = get_or bids (b * m + i) 0

      small : (p : ℕ) → Dec (p ≡ i * n + b) → get_or (set table (i * n + b) v) p 0 ≤ 4095
      small p (yes q) = omega (arith, ap (λ (z : ℕ). get_or (set table (i * n + b) v) z 0) q, get_or-set_same table (i * n + b) v 0 (omega (arith, t.long, line-fits i li)), f.small (b * m + i))
      small p (no ne) = omega (arith, get_or-set_other table (i * n + b) p v 0 ne, t.small p)

  pub lines_none : (table : List ℕ) → Transposed m n bids 0 table
  unfolding Transposed
  lines_none table j c lj lc = absurd (omega arith)

  pub lines_more : (i : ℕ) (before table : List ℕ) → Transposed m n bids i before → TransposedTo m n bids i n before table → Transposed m n bids (i + 1) table
  unfolding Transposed
  lines_more i before table h t j c lj lc = go (below_suc (omega arith))
    where
      go : (j ≡ i) ⊎ (j < i) → get_or table (j * n + c) 0 ≡ get_or bids (c * m + j) 0
      go (inl e) = subst (λ (k : ℕ). get_or table (k * n + c) 0 ≡ get_or bids (c * m + k) 0) (sym e) (t.done c lc)
      go (inr l) = t.rest (j * n + c) (omega (arith, line-inside n i j (i * n) refl l, lc)) ∙ h j c l lc

-- zeros are small
pub zeros-small : (n : ℕ) → Small (replicate n 0)
unfolding Small
zeros-small n k = omega (arith, zeros-at n k)
