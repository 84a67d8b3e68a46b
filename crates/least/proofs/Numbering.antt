-- What stands for the items that are left: their numbers, and 64 more for free ones, where these are left too. THEORY.md 2.12. Assumes nothing.
use Prim.Native.Nat.{ℕ, zero, suc, ◌+◌, ◌≤◌, ◌<◌}
use mathlib.Core.Path.{◌≡◌, ap, ◌∙◌}
use mathlib.Core.Bool.{Bool, cond}
use mathlib.Core.List.{List}
use mathlib.Core.Logic.{◌⊎◌, inl, inr}
use native.Mathlib.Omega.{arith}
use native.Mathlib.Decide.{ℕ_discrete}
use native.Mathlib.Nat.{zero-add}
use native.Mathlib.Numerals.{add-one}
use lib.Dec.{eqb}
use lib.ListN.{length, get_or, get_or-eq_default}
use borrow.Author.Tests.{eq-eqb, ne_eqb}
use Rattle.sets.specs.Lists.{tabulate}
use Rattle.sets.proofs.Counting.{lt-or-le}
use Rattle.sets.proofs.Lists.{tabulate-length, tabulate-at}
use Rattle.rule.specs.Sheet.{amount}
use Rattle.least.specs.Searching.{Item}
use Rattle.least.specs.Steps.{NumberOf, Numbered, LeftBy, AllLeft, HeldLeft, IsLeft}
use Rattle.least.specs.Falling.{HeldItem}

module _ (f : ℕ → ℕ) (own : List ℕ) where
  -- filled place by place
  pub all-left : (g : ℕ → ℕ) → ((x : ℕ) → g x ≡ f x) → (left : List ℕ) → left ≡ tabulate 64 (λ x. cond (eqb (get_or own x 0) 0) (g x) (x + 1)) 0 → LeftBy f own 64 left
  all-left g same left e =
      record {
        long = ap length e ∙ tabulate-length 64 _ 0;
        free = λ x l z. here x l ∙ ap (λ (b : Bool). cond b (g x) (x + 1)) (eq-eqb (get_or own x 0) 0 z) ∙ same x;
        held = λ x l n. here x l ∙ ap (λ (b : Bool). cond b (g x) (x + 1)) (ne_eqb (get_or own x 0) 0 n) ∙ add-one x;
      }
    where
      here : (x : ℕ) → x < 64 → get_or left x 0 ≡ cond (eqb (get_or own x 0) 0) (g x) (x + 1)
      here x l =
          let at : ℕ → ℕ = λ x. cond (eqb (get_or own x 0) 0) (g x) (x + 1) in
          ap (λ (xs : List ℕ). get_or xs x 0) e ∙ tabulate-at 64 at 0 x 0 l ∙ ap at (zero-add x)

  pub numbered : ((x : ℕ) → (f x ≡ 0) ⊎ (f x ≡ suc x + 64)) → (left : List ℕ) → LeftBy f own 64 left → Numbered left
  unfolding Numbered
  numbered h left t x = go (lt-or-le x 64)
    where
      by : x < 64 → Dec (get_or own x 0 ≡ 0) → (f x ≡ 0) ⊎ (f x ≡ suc x + 64) → NumberOf x (get_or left x 0)
      by l (no ne) w = inr (inl (t.held x l ne))
      by l (yes e) (inl w) = inl (t.free x l e ∙ w)
      by l (yes e) (inr w) = inr (inr (t.free x l e ∙ w))

      go : (x < 64) ⊎ (64 ≤ x) → NumberOf x (get_or left x 0)
      go (inl l) = by l (ℕ_discrete (get_or own x 0) 0) (h x)
      go (inr l) = inl (get_or-eq_default left 0 {n = x} (omega (arith, l, t.long)))

module _ (m : ℕ) (own left : List ℕ) (lm : m ≤ 64) where
  -- ---- all are left

  pub all-numbered : AllLeft own left → Numbered left
  all-numbered = numbered (λ x. suc x + 64) own (λ x. inr (omega arith)) left

  pub all_left : AllLeft own left → (i : ℕ) → Item m i → IsLeft left i
  unfolding amount
  all_left t zero i = absurd (omega (arith, i.0))
  all_left t (suc x) i = λ z. go (ℕ_discrete (get_or own x 0) 0) z
    where
      lx : x < 64
      lx = omega (arith, i.1, lm)

      go : Dec (get_or own x 0 ≡ 0) → get_or left x 0 ≡ 0 → ⊥
      go (yes e) z = omega (arith, z, t.free x lx e)
      go (no ne) z = omega (arith, z, t.held x lx ne)

  -- ---- what is left is what is held

  pub held-numbered : HeldLeft own left → Numbered left
  held-numbered = numbered (λ x. 0) own (λ x. inl (omega arith)) left

  pub held-left : HeldLeft own left → (i : ℕ) → HeldItem m (amount own) i → IsLeft left i
  unfolding amount
  held-left h zero x = absurd (omega (arith, x.0.0))
  held-left h (suc y) x = λ z. omega (arith, z, h.held y (omega (arith, x.0.1, lm)) (λ e. omega (arith, e, x.1)))

  pub left-held : HeldLeft own left → (i : ℕ) → Item m i → IsLeft left i → HeldItem m (amount own) i
  unfolding amount
  left-held h zero x o = absurd (omega (arith, x.0))
  left-held h (suc y) x o = (x, go (ℕ_discrete (get_or own y 0) 0))
    where
      go : Dec (get_or own y 0 ≡ 0) → 0 < get_or own y 0
      go (yes e) = absurd (o (h.free y (omega (arith, x.1, lm)) e))
      go (no ne) = omega (arith, ne)
