-- The transposed table of bids: its lines are the items', and have a place for each bidder. Assumes nothing: these are definitions.
use Rattle.std.specs.Prelude.{ℕ, suc, ◌+◌, ◌*◌, ◌≤◌, ◌<◌, ◌≡◌, List, ◌⊎◌, length, get_or}
use Rattle.rule.specs.Sheet.{amount}
use Rattle.bids.specs.Fit.{Small, Fit}
use Rattle.least.specs.Searching.{Item}
use Rattle.least.specs.Putting.{bid_at, everyone, Standing}

-- the first b places of line i are filled
pub record TransposedTo (m n : ℕ) (bids : List ℕ) (i b : ℕ) (before table : List ℕ) : Type 0 where
  pub long : length table ≡ 2048
  pub small : Small table
  pub done : (c : ℕ) → c < b → get_or table (i * n + c) 0 ≡ get_or bids (c * m + i) 0
  pub rest : (p : ℕ) → p < i * n → get_or table p 0 ≡ get_or before p 0

-- the first i lines are filled
unfoldable pub Transposed : (m n : ℕ) (bids : List ℕ) (i : ℕ) (table : List ℕ) → Type 0
Transposed m n bids i table = (j c : ℕ) → j < i → c < n → get_or table (j * n + c) 0 ≡ get_or bids (c * m + j) 0

-- the bidders' surpluses and options, that no item is among twice
pub record Options (m n : ℕ) (bids surplus option : List ℕ) : Type 0 where
  pub fit : Fit m n bids
  pub small : (b : ℕ) → b < n → get_or option b 0 ≤ m
  pub pays : (b x : ℕ) → b < n → get_or option b 0 ≡ suc x → get_or surplus b 0 ≤ bid_at m bids b (suc x)
  pub once : (b c : ℕ) → b < n → c < n → 0 < get_or option b 0 → get_or option b 0 ≡ get_or option c 0 → b ≡ c

-- place x is free and at price 0, or the option of one of the first k bidders
abbrev pub FreeOrTaken : (option : List ℕ) (k : ℕ) (prices own : List ℕ) → ℕ → Type 0
FreeOrTaken option k prices own x = ((get_or own x 0 ≡ 0) × (get_or prices x 0 ≡ 0)) ⊎ ((b : ℕ) × (b < k) × (get_or option b 0 ≡ suc x))

-- the first k bidders have taken their options: prices and holders of the items
pub record Given (m : ℕ) (bids surplus option : List ℕ) (k : ℕ) (prices own : List ℕ) : Type 0 where
  pub long : length prices ≡ 64
  pub long_own : length own ≡ 64
  pub given : (b x : ℕ) → b < k → get_or option b 0 ≡ suc x → (get_or own x 0 ≡ suc b) × (get_or prices x 0 + get_or surplus b 0 ≡ bid_at m bids b (suc x))
  pub only : (x : ℕ) → FreeOrTaken option k prices own x

-- prices from the base up that balance: everybody holds what they demand, or demands null, and a free item stands at the base
pub record Balanced (m n : ℕ) (bids base prices own : List ℕ) : Type 0 where
  pub standing : Standing m n bids (everyone n) prices own
  pub above : (i : ℕ) → Item m i → amount base i ≤ amount prices i
  pub free : (i : ℕ) → Item m i → amount own i ≡ 0 → amount prices i ≡ amount base i
  pub past : (x : ℕ) → m ≤ x → get_or prices x 0 ≡ get_or base x 0
