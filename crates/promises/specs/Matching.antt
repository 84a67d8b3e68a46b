-- "The matching of rakers to pans stands below the letting and knows nothing of rents. The letting relies only on what that lower part promises": this. The functions in
-- `src` say it of the two calls. Of 32 pans and 64 rakers; `ds` has for each raker the set of pans that they want. Place k of a list and bit k of a set stand for number
-- k + 1. Assumes nothing: these are definitions.
use Rattle.std.specs.Prelude.{ℕ, ◌+◌, ◌-◌, ◌≤◌, ◌<◌, Bool, true, false, List, ◌⊎◌, ◌≡◌, get_or}
use Rattle.sets.specs.Bit.{is_set}

-- `holder` gives each pan the number of the raker who holds it, or 0. It is a match that covers these rakers and pans: nobody holds a pan that they do not want, nor two
-- pans, each of the rakers holds one, and each of the pans is held
pub record Covers (ds : List ℕ) (bidders items : ℕ) (holder : ℕ → ℕ) : Type 0 where
  pub wanted : (i : ℕ) → i < 32 → (holder i ≡ 0) ⊎ ((holder i ≤ 64) × (is_set (get_or ds (holder i - 1) 0) i ≡ true))
  pub once : (i k : ℕ) → i < 32 → k < 32 → (holder i ≡ 0 → ⊥) → holder i ≡ holder k → i ≡ k
  pub placed : (b : ℕ) → b < 64 → is_set bidders b ≡ true → (i : ℕ) × (i < 32) × (holder i ≡ b + 1)
  pub held : (i : ℕ) → i < 32 → is_set items i ≡ true → holder i ≡ 0 → ⊥

-- "a covering match or none". FREE is which one it is where there are several; whether one is found is not
pub record MatchOrNone (ds : List ℕ) (bidders items : ℕ) (found : Bool) (holder : ℕ → ℕ) : Type 0 where
  pub one : found ≡ true → Covers ds bidders items holder
  pub none : found ≡ false → (other : ℕ → ℕ) → Covers ds bidders items other → ⊥
