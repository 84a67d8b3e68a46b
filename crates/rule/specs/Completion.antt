-- A completion: what the bidders after ys may have, given what those of ys have. Assumes nothing: these are definitions.
use Rattle.std.specs.Prelude.{ℕ, suc, ◌≤◌, ◌<◌, ◌≡◌, Bool, true, List, ◌⊎◌, length}
use Rattle.rule.specs.Assignment.{option}

module _ (m n : ℕ) (d : ℕ → ℕ → Bool) (above : ℕ → Bool) (ys : List ℕ) where
  -- the bidders so far have something of their demand, and no item goes to two of them
  pub record Begun : Type 0 where
    pub small : (b : ℕ) → b < length ys → option ys b < suc m
    pub wanted : (b : ℕ) → b < length ys → d b (option ys b) ≡ true
    pub once : (b c : ℕ) → b < length ys → c < length ys → 0 < option ys b → option ys b ≡ option ys c → b ≡ c

  -- so have the others, of the items that are left, and every item of `above` goes to somebody
  pub record Rest (to : ℕ → ℕ) : Type 0 where
    pub small : (b : ℕ) → length ys ≤ b → b < n → to b < suc m
    pub wanted : (b : ℕ) → length ys ≤ b → b < n → d b (to b) ≡ true
    pub once : (b c : ℕ) → length ys ≤ b → b < n → length ys ≤ c → c < n → 0 < to b → to b ≡ to c → b ≡ c
    pub left : (b c : ℕ) → length ys ≤ b → b < n → c < length ys → 0 < to b → option ys c ≡ to b → ⊥
    pub covers : (i : ℕ) → i < suc m → above i ≡ true
        → ((c : ℕ) × (c < length ys) × (option ys c ≡ i)) ⊎ ((b : ℕ) × (length ys ≤ b) × (b < n) × (to b ≡ i))
