-- The reports of a round as the code holds them. Assumes nothing: these are definitions.
use Rattle.std.specs.Prelude.{ℕ, suc, ◌^◌, ◌≤◌, ◌<◌, ◌≡◌, List, get_or}
use Rattle.sets.specs.Bit.{has}
use Rattle.sets.specs.Lists.{tabulate}
use Rattle.rule.specs.Demand.{Demand}

-- the reports of bidders 1 to n: an item set for each, and the set of the bidders who say null
unfoldable pub reports : ℕ → List ℕ → ℕ → List Demand
reports n sets nulls = tabulate n (λ b. record { null = has nulls (suc b); items = get_or sets b 0 }) 0

-- the item sets are of m items and n bidders: past the last item and the last bidder they have nothing
pub record Reported (m n : ℕ) (sets : List ℕ) : Type 0 where
  pub max_items : m ≤ 32
  pub max_bidders : n ≤ 64
  pub small : (b : ℕ) → b < n → get_or sets b 0 < 2 ^ m
  pub idle : (b : ℕ) → n ≤ b → get_or sets b 0 ≡ 0
