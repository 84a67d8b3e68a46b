-- The way back of a search: along the items from which each was reached, each item goes to who reached it, and bidder k is placed. Assumes nothing: these are
-- definitions.
use Rattle.std.specs.Prelude.{ℕ, zero, suc, ◌≤◌, ◌<◌, ◌≡◌, Bool, true, ◌⊎◌}
use Rattle.least.specs.Holding.{Demands}
use Rattle.least.specs.Searching.{who, Source, Item}

-- bidder b holds an option other than x
abbrev pub HoldsBut : (m : ℕ) (own : ℕ → ℕ) → ℕ → ℕ → Type 0
HoldsBut m own x b = (i : ℕ) × (i < suc m) × (i ≡ x → ⊥) × (own i ≡ suc b)

-- item x is a hole (0: there is none), and bidder k is still to be placed where there is one; `on` counts k in
pub record Hole (m : ℕ) (bid : ℕ → ℕ → ℕ) (on : ℕ → Bool) (k : ℕ) (p own : ℕ → ℕ) (x : ℕ) : Type 0 where
  pub null : own 0 ≡ 0
  pub known : (i b : ℕ) → i < suc m → (i ≡ x → ⊥) → own i ≡ suc b → (on b ≡ true) × Demands m bid p b i × (0 < x → b ≡ k → ⊥)
  pub placed : (b : ℕ) → on b ≡ true → Demands m bid p b 0 ⊎ HoldsBut m own x b ⊎ ((b ≡ k) × (0 < x))
  pub once : (i j b : ℕ) → i < suc m → j < suc m → (i ≡ x → ⊥) → (j ≡ x → ⊥) → own i ≡ suc b → own j ≡ suc b → i ≡ j

-- y is where b comes from: 0 for bidder k, who holds nothing, and the item that b holds
abbrev pub From : (k : ℕ) (own : ℕ → ℕ) → ℕ → ℕ → Type 0
From k own y b = ((y ≡ 0) × (b ≡ k)) ⊎ ((0 < y) × (own y ≡ suc b))

-- item `first` is to be filled, or none if it is 0, and each item on the way is demanded by who reached it
pub record Chain (m : ℕ) (bid : ℕ → ℕ → ℕ) (on : ℕ → Bool) (k : ℕ) (p own mask via : ℕ → ℕ) (first : ℕ) : Type 0 where
  pub small : first < suc m
  pub joined : on k ≡ true
  pub bounded : (x : ℕ) → x < suc m → mask x ≤ 65
  pub source : (x : ℕ) → Item m x → (via x < suc m) × Source mask (via x)
  pub order : (x : ℕ) → Item m x → 0 < mask x → mask (via x) < mask x
  pub holder : (y : ℕ) → y < suc m → Source mask y → From k own y (who k own y)
  pub wants : (x : ℕ) → Item m x → (x ≡ first) ⊎ (0 < mask x) → Demands m bid p (who k own (via x)) x
  pub hole : Hole m bid on k p own first

-- how many steps it is from x back to the start, as far as f
unfoldable pub steps : ℕ → (via : ℕ → ℕ) → ℕ → ℕ
steps zero via x = 0
steps (suc f) via zero = 0
steps (suc f) via (suc x) = suc (steps f via (via (suc x)))
