-- Request #104: falling first, and what stays as it is. Every field is a sentence by itself. Assumes nothing: these are statements, which `proofs/FallingFirst` proves.
use Rattle.std.specs.Prelude.{ℕ, suc, ◌+◌, ◌-◌, ◌≤◌, ◌<◌, true, List, ◌≡◌}
use Rattle.sets.specs.Count.{to_nat}
use Rattle.sets.specs.Bit.{has}
use Rattle.rule.specs.Sheet.{Sheet, amount, greatest, within_limits}
use Rattle.rule.specs.Round.{raised, lowered, closed, close}
use Rattle.rule.specs.Closing.{excess_demand_at, excess_supply_at, assignment_at}
use Rattle.rule.specs.FallingFirst.{falling_path, falling_round_of, falling_close}
use Rattle.promises.specs.Demand3Sealed.{NotAbove}

-- of a sheet whose path falling first has d rounds lowered and u raised, is at prices t at the turn and closes at prices p
pub record Falls (s : Sheet) (d u : ℕ) (t p : List ℕ) : Type 0 where
  -- "lower until the falling set is empty"; "The turn here is when the falling set is first empty"
  pub from_start : (falling_path s 0).prices ≡ s.start
  pub falls : (k : ℕ) → k < d → falling_round_of s k ≡ lowered (excess_supply_at s (falling_path s k).prices)
  pub down_by_one : (k : ℕ) → k < d → (i : ℕ) → i < suc s.items
      → amount (falling_path s (suc k)).prices i ≡ amount (falling_path s k).prices i - to_nat (has (excess_supply_at s (falling_path s k).prices) i)
  pub before_turn : (k : ℕ) → k < d → excess_supply_at s (falling_path s k).prices ≡ 0 → ⊥
  pub from_turn : (k : ℕ) → excess_supply_at s (falling_path s (d + k)).prices ≡ 0
  -- "then raise until the rising set is"
  pub rises : (k : ℕ) → k < u → falling_round_of s (d + k) ≡ raised (excess_demand_at s (falling_path s (d + k)).prices)
  pub up_by_one : (k : ℕ) → k < u → (i : ℕ) → i < suc s.items
      → amount (falling_path s (suc (d + k))).prices i ≡ amount (falling_path s (d + k)).prices i + to_nat (has (excess_demand_at s (falling_path s (d + k)).prices) i)
  -- it closes if and only if both are empty, after these rounds and not before
  pub closes_if : (k : ℕ) → excess_demand_at s (falling_path s k).prices ≡ 0 → excess_supply_at s (falling_path s k).prices ≡ 0 → falling_round_of s k ≡ closed
  pub closes_only_if : (k : ℕ) → falling_round_of s k ≡ closed → (excess_demand_at s (falling_path s k).prices ≡ 0) × (excess_supply_at s (falling_path s k).prices ≡ 0)
  pub closes : falling_round_of s (d + u) ≡ closed
  pub not_before : (k : ℕ) → k < d + u → falling_round_of s k ≡ closed → ⊥
  pub stays : (k : ℕ) → falling_path s (d + u + k) ≡ falling_path s (d + u)
  pub at_close : falling_path s (d + u) ≡ falling_close s
  pub no_excess : excess_demand_at s p ≡ 0
  pub no_supply : excess_supply_at s p ≡ 0
  -- "it ends in the same rents and names as rising first": all that `Demand3Sealed` and `Gains` say of those holds of it
  pub same-prices : p ≡ (close s).prices
  pub same_names : assignment_at s p ≡ assignment_at s (close s).prices
  -- "the rounds lowered are the largest fall up to it, those raised the largest rise after it"
  pub largest-fall : d ≡ greatest s.items λ i. amount s.start i - amount t i
  pub largest-rise : u ≡ greatest s.items λ i. amount p i - amount t i
  pub few_lowered : d ≤ 4095
  pub few_raised : u ≤ 4095
  -- the turn is the greatest vector from the start down at which no pan falls, and the close is nowhere below it
  pub turn_below : NotAbove t s.start
  pub turn_greatest : (q : List ℕ) → NotAbove q s.start → excess_supply_at s q ≡ 0 → NotAbove q t
  pub close_above : NotAbove t p
  -- no rent on the way is above 4,095 or below its floor, and none at 4,095 goes up
  pub range : (k i : ℕ) → amount (falling_path s k).prices i ≤ 4095
  pub above_floor : (k i : ℕ) → amount s.floors i ≤ amount (falling_path s k).prices i
  pub raisable : (k i : ℕ) → has (excess_demand_at s (falling_path s k).prices) i ≡ true → amount (falling_path s k).prices i < 4095

pub record Request104 : Type 0 where
  pub falling-first : (s : Sheet) → within_limits s ≡ true
      → Falls s (falling_close s).downs (falling_close s).ups (falling_path s (falling_close s).downs).prices (falling_close s).prices
