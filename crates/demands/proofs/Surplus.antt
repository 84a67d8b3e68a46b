-- The options of the highest surplus. Assumes nothing.
use Prim.Native.Nat.{ℕ, suc, ◌+◌, ◌≤◌, ◌<◌}
use mathlib.Core.Path.{◌≡◌, sym, ap, ◌∙◌}
use mathlib.Core.Bool.{Bool, true, ◌&&◌, cond}
use mathlib.Core.List.{List}
use native.Mathlib.Omega.{arith}
use native.Mathlib.Decide.{ℕ_discrete}
use native.Mathlib.Numerals.{add-one}
use lib.Dec.{ltb, eqb}
use lib.ListN.{length, get_or}
use borrow.Author.Tests.{eq-eqb, ne_eqb, le-leb}
use Rattle.sets.proofs.Counting.{is_false}
use Rattle.rule.specs.Sheet.{amount}
use Rattle.rule.specs.Demand.{best, surplus, demand}
use Rattle.rule.proofs.Highest.{surplus-best, best-surplus}
use Rattle.demands.specs.Demands.{surplus_of}

-- item i is bid for, and of the highest surplus
abbrev pub demanded_at : (m : ℕ) (p b : List ℕ) → ℕ → Bool
demanded_at m p b i = ltb 0 (amount b i) && best m p b i

module _ (m : ℕ) (p b : List ℕ) (x : ℕ) (e : x ≡ surplus m p b) where
  -- who has the highest surplus is best, and the best has it
  is-best : (i : ℕ) → amount b i ≡ amount p i + x → best m p b i ≡ true
  is-best i h = surplus-best m p b i (omega (arith, h, e))

  best_is : (i : ℕ) → i < suc m → best m p b i ≡ true → amount b i ≡ amount p i + x
  best_is i l h = omega (arith, e, best-surplus m p b i l h)

  test-is : (i : ℕ) → i < suc m → eqb (amount b i) (amount p i + x) ≡ best m p b i
  test-is i l = go (ℕ_discrete (amount b i) (amount p i + x))
    where
      go : Dec (amount b i ≡ amount p i + x) → eqb (amount b i) (amount p i + x) ≡ best m p b i
      go (yes q) = eq-eqb (amount b i) (amount p i + x) q ∙ sym (is-best i q)
      go (no ne) = ne_eqb (amount b i) (amount p i + x) ne ∙ sym (is_false (best m p b i) (λ h. ne (best_is i l h)))

  -- ---- the code's tests, of an item and of null

  pub item-test : (k : ℕ) → k < m → ltb 0 (get_or b k 0) && eqb (get_or b k 0) (get_or p k 0 + x) ≡ demanded_at m p b (k + 1)
  unfolding amount
  item-test k l =
      ap (λ (t : Bool). ltb 0 (amount b (suc k)) && t) (test-is (suc k) (omega arith)) ∙ ap (demanded_at m p b) (sym (add-one k))

  pub null-test : eqb x 0 ≡ (demand m p b).null
  unfolding demand amount
  null-test = go (ℕ_discrete x 0)
    where
      go : Dec (x ≡ 0) → eqb x 0 ≡ best m p b 0
      go (yes q) = eq-eqb x 0 q ∙ sym (is-best 0 (omega (arith, q)))
      go (no ne) = ne_eqb x 0 ne ∙ sym (is_false (best m p b 0) (λ h. ne (let w = best_is 0 (omega arith) h in omega (arith, w))))

-- ---- a line as the code takes it

pub line-surplus : (p b : List ℕ) → length b ≤ 32 → surplus (length b) p b ≡ surplus_of p b
unfolding surplus_of
line-surplus p b l = ap (λ (t : Bool). cond t (surplus (length b) p b) 0) (sym (le-leb (length b) 32 l))
