-- Down to the least prices: what keeps a price up from outside, and the search among the items that are held. Assumes nothing: these are definitions.
use Rattle.std.specs.Prelude.{ℕ, suc, ◌≤◌, ◌<◌, ◌≡◌, true, false, List, ◌⊎◌, length, get_or}
use Rattle.sets.specs.Bit.{has}
use Rattle.rule.specs.Sheet.{amount}
use Rattle.bids.specs.Lent.{rows_of}
use Rattle.least.specs.Least.{LeastFrom}
use Rattle.least.specs.Searching.{line_at, Item, Search}
use Rattle.least.specs.Putting.{bid_at, everyone, Standing}

-- b holds nothing
abbrev pub Idle : (m : ℕ) (own : ℕ → ℕ) → ℕ → Type 0
Idle m own b = (i : ℕ) → i < suc m → own i ≡ suc b → ⊥

-- item x is held
abbrev pub HeldItem : (m : ℕ) (own : ℕ → ℕ) → ℕ → Type 0
HeldItem m own x = Item m x × (0 < own x)

-- s is the set of the bidders who hold an item of the first n places
pub record Seated (n : ℕ) (own : List ℕ) (s : ℕ) : Type 0 where
  pub holds : (b : ℕ) → has s (suc b) ≡ true → (x : ℕ) × (x < n) × (get_or own x 0 ≡ suc b)
  pub seated : (x b : ℕ) → x < n → b < 64 → get_or own x 0 ≡ suc b → has s (suc b) ≡ true

-- the highest that the base and the first k bidders, as far as they are not seated, offer for each item
pub record Offered (m : ℕ) (bids : List ℕ) (seats k : ℕ) (base best : List ℕ) : Type 0 where
  pub long : length best ≡ 64
  pub from_base : (i : ℕ) → Item m i → amount base i ≤ amount best i
  pub from_bid : (b i : ℕ) → b < k → has seats (suc b) ≡ false → Item m i → bid_at m bids b i ≤ amount best i
  pub is : (i : ℕ) → Item m i → (amount best i ≡ amount base i) ⊎ ((b : ℕ) × (b < k) × (has seats (suc b) ≡ false) × (bid_at m bids b i ≡ amount best i))

-- what the search among the items that are held asks: everybody holds what they demand, or demands null, and no offer is above its item's price
pub record Descends (m : ℕ) (bids prices own best : List ℕ) : Type 0 where
  pub bidders : ℕ
  pub standing : Standing m bidders bids (everyone bidders) prices own
  pub long : length best ≡ m
  pub below : (i : ℕ) → Item m i → amount best i ≤ amount prices i

-- it has entered every one of them; a free item whose highest offer is its price is at distance 0
pub record Descended (m : ℕ) (bids prices own best dist via : List ℕ) : Type 0 where
  pub mask : ℕ → ℕ
  pub search : Search m (HeldItem m (amount own)) 0 (line_at (bid_at m bids) (amount own) (amount best)) (amount prices) (amount dist) mask (amount via)
  pub entered : (i : ℕ) → HeldItem m (amount own) i → 0 < mask i
  pub flat : (i : ℕ) → Item m i → amount own i ≡ 0 → amount best i ≡ amount prices i → amount dist i ≡ 0

-- the least prices from the base up, and who holds what at them
pub record Lowered (m n : ℕ) (bids base prices own : List ℕ) : Type 0 where
  pub standing : Standing m n bids (everyone n) prices own
  pub least : LeastFrom m (rows_of m n bids) base prices
  pub past : (x : ℕ) → m ≤ x → get_or prices x 0 ≡ get_or base x 0
