-- Reduced bids: each less the bidder's highest surplus at the starting prices. No promise speaks of them; the sealed auction takes the turn of falling first from
-- them, as `proofs/Reduced` shows. Assumes nothing: these are definitions.
use Rattle.std.specs.Prelude.{ℕ, ◌-◌, List, map}
use Rattle.sets.specs.Lists.{tabulate}
use Rattle.rule.specs.Sheet.{amount, Sheet}
use Rattle.rule.specs.Demand.{surplus}

-- a bidder's bids less that surplus, and 0 where it is more: the price up to which an item is no worse than what the prices leave to the bidder
unfoldable pub reduced_line : ℕ → (prices bids : List ℕ) → List ℕ
reduced_line m prices bids = tabulate m (λ i. amount bids i - surplus m prices bids) 1

unfoldable pub reduced_bids : ℕ → (prices : List ℕ) → List (List ℕ) → List (List ℕ)
reduced_bids m prices bids = map (reduced_line m prices) bids

-- the sheet with bids reduced at its starting prices
abbrev pub reduced : Sheet → Sheet
reduced s = record { items = s.items; start = s.start; floors = s.floors; bids = reduced_bids s.items s.start s.bids }
