-- The least prices, from given ones up, at which the rising set is empty: the turn and the close without their rounds, as `auction/proofs/LeastPrices` shows.
-- Assumes nothing: these are definitions.
use Rattle.std.specs.Prelude.{ℕ, List, ◌≡◌, length}
use Rattle.rule.specs.Demand.{demands}
use Rattle.rule.specs.Excess.{excess_demand}
use Rattle.rule.specs.Equilibrium.{Below}

-- of all prices from base up at which the rising set is empty, these are the least
pub record LeastFrom (m : ℕ) (bids : List (List ℕ)) (base prices : List ℕ) : Type 0 where
  pub above : Below base prices
  pub empty : excess_demand m (demands m bids prices) ≡ 0
  pub least : (q : List ℕ) → Below base q → excess_demand m (demands m bids q) ≡ 0 → Below prices q

-- and they stand in 32 places: there is one list of this kind, as `proofs/Narrowing` shows (`one-least`)
pub record Least (m : ℕ) (bids : List (List ℕ)) (base prices : List ℕ) : Type 0 where
  pub least : LeastFrom m bids base prices
  pub long : length prices ≡ 32
