-- Prices after a round, item by item. Assumes nothing.
use Prim.Native.Nat.{ℕ, zero, suc, ◌+◌, ◌-◌, ◌^◌, ◌≤◌, ◌<◌}
use mathlib.Core.Path.{◌≡◌, refl, ap, ◌∙◌}
use mathlib.Core.Bool.{Bool, true, false}
use mathlib.Core.List.{List}
use mathlib.Core.Logic.{◌⊎◌, inl, inr}
use native.Mathlib.Omega.{arith}
use lib.ListN.{length}
use Rattle.sets.specs.Count.{to_nat}
use Rattle.sets.specs.Bit.{has}
use Rattle.sets.proofs.Counting.{least, Least}
use Rattle.sets.proofs.Members.{has-zero, none-zero}
use Rattle.rule.specs.Sheet.{amount}
use Rattle.rule.specs.Round.{raise, lower}
use Rattle.sets.proofs.Lists.{tabulate-length, tabulate-at}

pub raise-length : (m : ℕ) (p : List ℕ) (s : ℕ) → length (raise m p s) ≡ m
unfolding raise
raise-length m p s = tabulate-length m _ 1

pub lower-length : (m : ℕ) (p : List ℕ) (s : ℕ) → length (lower m p s) ≡ m
unfolding lower
lower-length m p s = tabulate-length m _ 1

pub raise-at : (m : ℕ) (p : List ℕ) (s i : ℕ) → i < suc m → amount (raise m p s) i ≡ amount p i + to_nat (has s i)
unfolding raise amount
raise-at m p s zero l = omega (arith, ap to_nat (has-zero s))
raise-at m p s (suc k) l =
    let e : 1 + k ≡ suc k = omega arith in
    tabulate-at m (λ i. amount p i + to_nat (has s i)) 1 k 0 (omega arith) ∙ ap (λ (i : ℕ). amount p i + to_nat (has s i)) e

pub lower-at : (m : ℕ) (p : List ℕ) (s i : ℕ) → i < suc m → amount (lower m p s) i ≡ amount p i - to_nat (has s i)
unfolding lower amount
lower-at m p s zero l = omega (arith, ap to_nat (has-zero s))
lower-at m p s (suc k) l =
    let e : 1 + k ≡ suc k = omega arith in
    tabulate-at m (λ i. amount p i - to_nat (has s i)) 1 k 0 (omega arith) ∙ ap (λ (i : ℕ). amount p i - to_nat (has s i)) e

module _ (m : ℕ) (p : List ℕ) (s i : ℕ) (l : i < suc m) where
  pub raised-in : has s i ≡ true → amount (raise m p s) i ≡ amount p i + 1
  raised-in e = raise-at m p s i l ∙ ap (λ (b : Bool). amount p i + to_nat b) e

  pub raised-out : has s i ≡ false → amount (raise m p s) i ≡ amount p i
  raised-out e = omega (arith, raise-at m p s i l, ap to_nat e)

  pub raised-le : amount p i ≤ amount (raise m p s) i
  raised-le = omega (arith, raise-at m p s i l)

  pub le-raised : amount (raise m p s) i ≤ amount p i + 1
  le-raised = go (has s i) refl
    where
      go : (b : Bool) → has s i ≡ b → amount (raise m p s) i ≤ amount p i + 1
      go true e = omega (arith, raise-at m p s i l, ap to_nat e)
      go false e = omega (arith, raise-at m p s i l, ap to_nat e)

  pub lowered-in : has s i ≡ true → 0 < amount p i → amount (lower m p s) i + 1 ≡ amount p i
  lowered-in e h = omega (arith, lower-at m p s i l, ap to_nat e)

  pub lowered-out : has s i ≡ false → amount (lower m p s) i ≡ amount p i
  lowered-out e = omega (arith, lower-at m p s i l, ap to_nat e)

  pub lowered-le : amount (lower m p s) i ≤ amount p i
  lowered-le = omega (arith, lower-at m p s i l)

  pub le-lowered : amount p i ≤ amount (lower m p s) i + 1
  le-lowered = go (has s i) refl
    where
      go : (b : Bool) → has s i ≡ b → amount p i ≤ amount (lower m p s) i + 1
      go true e = omega (arith, lower-at m p s i l, ap to_nat e)
      go false e = omega (arith, lower-at m p s i l, ap to_nat e)

-- a set that is not empty has an item
pub some_item : (m s : ℕ) → s < 2 ^ m → (s ≡ 0 → ⊥) → (i : ℕ) × (i < suc m) × (has s i ≡ true)
some_item m s l ne = go (least (suc m) (has s))
  where
    go : Least (suc m) (has s) ⊎ ((i : ℕ) → i < suc m → has s i ≡ false) → (i : ℕ) × (i < suc m) × (has s i ≡ true)
    go (inl w) = (w.at, w.small, w.here)
    go (inr none) = absurd (ne (none-zero m s l none))
