-- The highest surplus of a bidder at prices: no option has more, some option has it, and the options that have it are the best. Assumes nothing.
use Prim.Native.Nat.{ℕ, zero, suc, ◌+◌, ◌-◌, ◌≤◌, ◌<◌}
use mathlib.Core.Path.{◌≡◌}
use mathlib.Core.Bool.{true}
use mathlib.Core.List.{List}
use mathlib.Core.Logic.{◌⊎◌, inl, inr}
use native.Mathlib.Omega.{arith}
use native.Mathlib.Decide.{ℕ_discrete}
use Rattle.rule.specs.Sheet.{amount}
use Rattle.rule.specs.Demand.{best, surplus}
use Rattle.rule.proofs.Greatest.{greatest-ge, greatest-some}
use Rattle.rule.proofs.Limits.{amount-null}
use Rattle.rule.proofs.Zeros.{best-use, best-make}

module _ (m : ℕ) (p r : List ℕ) where
  abbrev top : ℕ
  top = surplus m p r

  -- no option has more
  pub surplus-most : (i : ℕ) → i < suc m → amount r i ≤ top + amount p i
  unfolding surplus
  surplus-most zero l = omega (arith, amount-null r)
  surplus-most (suc k) l = omega (arith, greatest-ge m (λ i. amount r i - amount p i) (suc k) (omega arith) l)

  -- and some option, null perhaps, has that
  pub surplus-some : (i : ℕ) × (i < suc m) × (amount r i ≡ top + amount p i)
  surplus-some = go (ℕ_discrete top 0) (unfold surplus in greatest-some m (λ i. amount r i - amount p i))
    where
      go : Dec (top ≡ 0) → (top ≡ 0) ⊎ ((i : ℕ) × (0 < i) × (i < suc m) × (amount r i - amount p i ≡ top)) → (i : ℕ) × (i < suc m) × (amount r i ≡ top + amount p i)
      go (yes z) w = (0, omega arith, omega (arith, z, amount-null r, amount-null p))
      go (no nz) (inl z) = absurd (nz z)
      go (no nz) (inr w) = (w.0, w.2, omega (arith, w.3))

  -- who has the highest surplus is best, and the best has it
  pub surplus-best : (i : ℕ) → amount r i ≡ amount p i + top → best m p r i ≡ true
  surplus-best i h = best-make m p r i (λ j l. omega (arith, h, surplus-most j l))

  pub best-surplus : (i : ℕ) → i < suc m → best m p r i ≡ true → amount r i ≡ amount p i + top
  best-surplus i l h = let w = surplus-some in omega (arith, surplus-most i l, best-use m p r i h w.0 w.1, w.2)
