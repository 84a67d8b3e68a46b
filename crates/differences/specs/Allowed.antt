-- Bids that explain a report, and the narrowed table: document 02, #107. Assumes nothing: these are definitions.
use Rattle.std.specs.Prelude.{ℕ, Bool, ◌&&◌, not, List, ℤ}
use Rattle.rule.specs.Demand.{Demand, demand}
use Rattle.reports.specs.Report.{same_demand}
use Rattle.differences.specs.Table.{some_bids, meets, largest_table}

-- the report is exactly the demand of these bids at these prices
unfoldable pub explains : ℕ → List ℕ → Demand → List ℕ → Bool
explains m prices d bids = same_demand d (demand m prices bids)

-- the bids meet the table and explain the report
unfoldable pub allows : ℕ → List (List ℤ) → List ℕ → Demand → List ℕ → Bool
allows m t prices d bids = meets m t bids && explains m prices d bids

-- the table narrowed to those bids
unfoldable pub narrowed : ℕ → List (List ℤ) → List ℕ → Demand → List (List ℤ)
narrowed m t prices d = largest_table m (allows m t prices d)

-- 19: there are no such bids
unfoldable pub unexplained : ℕ → List (List ℤ) → List ℕ → Demand → Bool
unexplained m t prices d = not (some_bids m (allows m t prices d))
