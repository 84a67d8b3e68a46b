-- What a close leaves to each bidder: document 02, #106; and all that is promised of it, which `proofs/Gains` gives wherever the names fit. Assumes nothing: these
-- are definitions.
use Rattle.std.specs.Prelude.{ℕ, suc, ◌+◌, ◌-◌, ◌≤◌, ◌<◌, List, ◌≡◌, length, get_or}
use Rattle.sets.specs.Lists.{tabulate}
use Rattle.rule.specs.Sheet.{amount, row, Sheet}
use Rattle.rule.specs.Demand.{surpluses}
use Rattle.rule.specs.Assignment.{option}
use Rattle.rule.specs.Closing.{assignment_at}

-- bidder b's gain from the option that a list of options has for them, b from 0: bid less price of the item; of null 0
unfoldable pub gain : List (List ℕ) → (prices xs : List ℕ) → ℕ → ℕ
gain bids prices xs b = amount (row bids b) (option xs b) - amount prices (option xs b)

-- every bidder's gain from the names at prices
unfoldable pub gains_at : Sheet → List ℕ → List ℕ
gains_at s p = tabulate (length s.bids) (gain s.bids p (assignment_at s p)) 0

pub record Gains (s : Sheet) (p : List ℕ) : Type 0 where
  -- they are the highest surpluses, which are found with the demands
  pub found : gains_at s p ≡ surpluses s.items s.bids p
  -- nobody pays more than they bid: price and gain make up the bid
  pub exact : (b : ℕ) → b < length s.bids
      → amount p (option (assignment_at s p) b) + get_or (gains_at s p) b 0 ≡ amount (row s.bids b) (option (assignment_at s p) b)
  -- and no option would leave more: no bid is above price and gain
  pub most : (b i : ℕ) → b < length s.bids → i < suc s.items → amount (row s.bids b) i ≤ amount p i + get_or (gains_at s p) b 0
