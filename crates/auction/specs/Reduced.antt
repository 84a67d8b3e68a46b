-- The table of reduced bids, line after line, as the code fills it; what they are is in the rule (`Reduced`). Assumes nothing: these are definitions.
use Rattle.std.specs.Prelude.{ℕ, ◌+◌, ◌-◌, ◌*◌, ◌<◌, ◌≡◌, List, length, get_or}
use Rattle.rule.specs.Demand.{surplus}
use Rattle.bids.specs.Lent.{line_of}

-- from place `at` on, the first k places of the line are filled: its bids less the surplus
pub record ReducedTo (line : List ℕ) (surplus at k : ℕ) (before table : List ℕ) : Type 0 where
  pub long : length table ≡ 2048
  pub done : (c : ℕ) → c < k → get_or table (at + c) 0 ≡ get_or line c 0 - surplus
  pub rest : (p : ℕ) → p < at → get_or table p 0 ≡ get_or before p 0

-- the lines of the first b bidders are filled
unfoldable pub ReducedLines : (m : ℕ) (prices bids : List ℕ) (b : ℕ) (table : List ℕ) → Type 0
ReducedLines m prices bids b table = (j c : ℕ) → j < b → c < m → get_or table (j * m + c) 0 ≡ get_or (line_of m bids j) c 0 - surplus m prices (line_of m bids j)
