-- What steps ask of the lent bids of a sheet that no number turns down. Assumes nothing: these are definitions.
use Rattle.std.specs.Prelude.{ℕ, ◌*◌, ◌≤◌, ◌≡◌, List, length, get_or}

-- no amount is above 4,095
unfoldable pub Small : List ℕ → Type 0
Small xs = (k : ℕ) → get_or xs k 0 ≤ 4095

-- counts in order, and small bids, one for each of the n bidders and m items
pub record Fit (m n : ℕ) (bids : List ℕ) : Type 0 where
  pub some_item : 1 ≤ m
  pub max_items : m ≤ 32
  pub max_bidders : n ≤ 64
  pub long : length bids ≡ n * m
  pub small : Small bids
