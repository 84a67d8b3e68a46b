-- Prices lifted to the start, where that is higher; who holds such an item gives it up, and waits. Assumes nothing: these are definitions.
use Rattle.std.specs.Prelude.{ℕ, suc, ◌≤◌, ◌<◌, ◌≡◌, true, List, length, get_or}
use Rattle.sets.specs.Bit.{has}
use Rattle.bids.specs.Lent.{rows_of}
use Rattle.bids.specs.Fit.{Small}
use Rattle.least.specs.Least.{LeastFrom}
use Rattle.least.specs.Putting.{everyone, Standing}

-- in the first n places each price is lifted to the start, where that is higher: then nobody holds the item any more, and `waiting` has who did
pub record Lifted (n : ℕ) (start prices own next holders : List ℕ) (waiting : ℕ) : Type 0 where
  pub long : length next ≡ 64
  pub long_own : length holders ≡ 64
  pub kept : (x : ℕ) → x < n → get_or start x 0 ≤ get_or prices x 0 → (get_or next x 0 ≡ get_or prices x 0) × (get_or holders x 0 ≡ get_or own x 0)
  pub lifted : (x : ℕ) → x < n → get_or prices x 0 < get_or start x 0 → (get_or next x 0 ≡ get_or start x 0) × (get_or holders x 0 ≡ 0)
  pub rest : (x : ℕ) → n ≤ x → (get_or next x 0 ≡ get_or prices x 0) × (get_or holders x 0 ≡ get_or own x 0)
  pub waits : (b : ℕ) → has waiting (suc b) ≡ true → (x : ℕ) × (x < n) × (get_or prices x 0 < get_or start x 0) × (get_or own x 0 ≡ suc b)
  pub released : (x b : ℕ) → x < n → b < 64 → get_or prices x 0 < get_or start x 0 → get_or own x 0 ≡ suc b → has waiting (suc b) ≡ true

-- where a rise starts: small amounts in 32 places, and zeros past the m items
pub record Starts (m : ℕ) (start : List ℕ) : Type 0 where
  pub small : Small start
  pub long : length start ≡ 32
  pub past : (x : ℕ) → m ≤ x → get_or start x 0 ≡ 0

-- the least prices from the base up, and who holds what at them
pub record From (m n : ℕ) (bids base prices own : List ℕ) : Type 0 where
  pub max_items : m ≤ 32
  pub standing : Standing m n bids (everyone n) prices own
  pub least : LeastFrom m (rows_of m n bids) base prices
  pub past : (x : ℕ) → 32 ≤ x → get_or prices x 0 ≡ 0
