-- What the matching of bidders to items speaks of: demand sets, sets in excess demand, matches and covering matches. It knows nothing of prices, and
-- of null only that a bidder's set leaves it out. Place k of a list and bit k of a set stand for number k + 1. Assumes nothing: these are definitions.
use Rattle.std.specs.Prelude.{ℕ, ◌+◌, ◌-◌, ◌^◌, ◌≤◌, ◌<◌, ◌≡◌, Bool, true, false, ◌&&◌, ◌⊎◌, List, ltb, get_or}
use Rattle.sets.specs.Bit.{is_set, size}
use Rattle.sets.specs.Count.{◌⇒◌, all_below, any_below, count}
use Rattle.sets.specs.Largest.{largest}

-- ---- excess demand, among m items and n bidders; ds has one item set for each bidder, and the empty set wants nothing

-- each item of a is in b
unfoldable pub part : ℕ → ℕ → ℕ → Bool
part m a b = all_below m λ i. is_set a i ⇒ is_set b i

-- some item is in both
unfoldable pub meets : ℕ → ℕ → ℕ → Bool
meets m a b = any_below m λ i. is_set a i && is_set b i

-- the set s is in excess demand: for each non-empty part t of s, more bidders than t has items both want something in t and want
-- nothing outside s
unfoldable pub excess : ℕ → ℕ → List ℕ → ℕ → Bool
excess m n ds s =
    all_below (2 ^ m) λ t.
    any_below m (is_set t) && part m t s
    ⇒ ltb (size m t) (count n λ b. part m (get_or ds b 0) s && meets m (get_or ds b 0) t)

-- the largest set in excess demand
unfoldable pub largest_excess : ℕ → ℕ → List ℕ → ℕ
largest_excess m n ds = largest m (excess m n ds)

-- ---- matches: h i is the number of the bidder that holds the item at place i, or 0 if nobody does

-- the item at place i is free, or held by a bidder whose set has it
unfoldable pub Fair : ℕ → List ℕ → ℕ → ℕ → Type 0
Fair n ds i h = (h ≡ 0) ⊎ ((h ≤ n) × (is_set (get_or ds (h - 1) 0) i ≡ true))

-- h matches: each item is free or held by a bidder whose set has it, and nobody holds two
pub record Matching (m n : ℕ) (ds : List ℕ) (h : ℕ → ℕ) : Type 0 where
  pub fair : (i : ℕ) → i < m → Fair n ds i (h i)
  pub once : (i k : ℕ) → i < m → k < m → (h i ≡ 0 → ⊥) → h i ≡ h k → i ≡ k

-- h covers: each of the bidders holds an item, and each of the items is held
pub record Covering (m n : ℕ) (ds : List ℕ) (bidders items : ℕ) (h : ℕ → ℕ) : Type 0 where
  pub placed : (b : ℕ) → b < n → is_set bidders b ≡ true → (i : ℕ) × (i < m) × (h i ≡ b + 1)
  pub held : (i : ℕ) → i < m → is_set items i ≡ true → h i ≡ 0 → ⊥

-- A covering match or none. FREE is which covering match h is, where there are several: document 01 asks for one, and this says what holds
-- of it, that it matches and covers. Whether one is found is not free: it is, unless there is none.
pub record Covered (m n : ℕ) (ds : List ℕ) (bidders items : ℕ) (found : Bool) (h : ℕ → ℕ) : Type 0 where
  pub matching : found ≡ true → Matching m n ds h
  pub covering : found ≡ true → Covering m n ds bidders items h
  pub none : found ≡ false → (g : ℕ → ℕ) → Matching m n ds g → Covering m n ds bidders items g → ⊥
