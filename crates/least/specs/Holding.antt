-- Who holds what. Options are 0 to m, null being 0; bidders are counted from 0; `on` says which of them take part. Everything here may be read the other way
-- round too, with the items for the bidders: `balance` in src/lib.rt does. Assumes nothing: these are definitions.
use Rattle.std.specs.Prelude.{ℕ, suc, ◌+◌, ◌≤◌, ◌<◌, ◌≡◌, Bool, true, ◌⊎◌}

-- bidder b demands option i at the prices p: no option has a higher surplus, by sums. Here that goes for an item with bid 0 too, which the rule's demand leaves out:
-- least prices are the same with it and without (docs/THEORY.md 1.9)
abbrev pub Demands : ℕ → (ℕ → ℕ → ℕ) → (ℕ → ℕ) → ℕ → ℕ → Type 0
Demands m bid p b i = (j : ℕ) → j < suc m → bid b j + p i ≤ bid b i + p j

-- own i is the holder of item i, counted from 1, and 0 where it is free: bidder b holds one
abbrev pub Holds : (m : ℕ) (own : ℕ → ℕ) → ℕ → Type 0
Holds m own b = (i : ℕ) × (i < suc m) × (own i ≡ suc b)

-- each bidder who takes part holds an item that they demand at p, or demands null; nobody else holds one, and nobody holds two
pub record Held (m : ℕ) (bid : ℕ → ℕ → ℕ) (on : ℕ → Bool) (p own : ℕ → ℕ) : Type 0 where
  pub null : own 0 ≡ 0
  pub known : (i b : ℕ) → i < suc m → own i ≡ suc b → (on b ≡ true) × Demands m bid p b i
  pub placed : (b : ℕ) → on b ≡ true → Demands m bid p b 0 ⊎ Holds m own b
  pub once : (i j b : ℕ) → i < suc m → j < suc m → own i ≡ suc b → own j ≡ suc b → i ≡ j

-- bidder k takes part as well
pub record Joins (k : ℕ) (before on : ℕ → Bool) : Type 0 where
  pub joined : on k ≡ true
  pub stays : (b : ℕ) → before b ≡ true → (on b ≡ true) × (b ≡ k → ⊥)
  pub was : (b : ℕ) → on b ≡ true → (b ≡ k → ⊥) → before b ≡ true
