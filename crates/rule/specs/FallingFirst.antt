-- Falling first: document 02, #104; the S*E* path of the paper. The falling set goes down until it is empty, then the rising set goes up until it is; and all that
-- is promised of it, which `proofs/FallingClosing` gives for every sheet within the limits. Assumes nothing: these are definitions.
use Rattle.std.specs.Prelude.{ℕ, zero, suc, ◌+◌, ◌-◌, ◌≤◌, ◌<◌, true, List, ◌≡◌}
use Rattle.sets.specs.Bit.{has}
use Rattle.rule.specs.Sheet.{amount, Sheet, greatest}
use Rattle.rule.specs.Demand.{Demand}
use Rattle.rule.specs.Excess.{excess_demand, excess_supply, above_floors}
use Rattle.rule.specs.Round.{Phase, rising, falling, Round, raised, lowered, closed, State, move, most_rounds}
use Rattle.rule.specs.Equilibrium.{Below}
use Rattle.rule.specs.Closing.{demands_at, excess_demand_at, excess_supply_at, Closing}

-- from the turn on the rising set goes up until it is empty
unfoldable pub round_rising : ℕ → List Demand → Round
round_rising m ds = elim (excess_demand m ds) [ suc k ↦ raised (suc k) | zero ↦ closed ]

-- falling first: while the falling set is not empty it goes down. The turn is when it is first empty, and needs no round of its own. The auction closes when both
-- sets are empty. `above` are the items of price above the floor
unfoldable pub falling_round : ℕ → ℕ → List Demand → Phase → Round
falling_round m above ds falling = elim (excess_supply m above ds) [ suc k ↦ lowered (suc k) | zero ↦ round_rising m ds ]
falling_round m above ds rising = round_rising m ds

-- the round that the bidders' demands at a state's prices give
unfoldable pub falling_round_at : Sheet → State → Round
falling_round_at s t = falling_round s.items (above_floors s.items s.floors t.prices) (demands_at s t.prices) t.phase

-- a sheet's path falling first, from its starting prices: falling until a round raises, and rising from then on; once closed, the state stays
unfoldable pub falling_path : Sheet → ℕ → State
falling_path s zero = record { phase = falling; prices = s.start; ups = 0; downs = 0 }
falling_path s (suc k) = let t : State = falling_path s k in move s.items t (falling_round_at s t)

-- its close
unfoldable pub falling_close : Sheet → State
falling_close s = falling_path s most_rounds

-- its round number k + 1, and the phase once so many rounds were raised
abbrev pub falling_round_of : Sheet → ℕ → Round
falling_round_of s k = falling_round_at s (falling_path s k)

abbrev pub rising_after : ℕ → Phase
rising_after zero = falling
rising_after (suc k) = rising

pub record FallingClosing (s : Sheet) : Type 0 where
  -- rounds lowered, rounds raised, the prices at the turn, the closing prices
  pub downs : ℕ
  pub ups : ℕ
  pub turn : List ℕ
  pub prices : List ℕ
  -- up to the turn each round lowers the falling set, which is first empty at the turn
  pub falls : (k : ℕ) → k < downs → falling_round_of s k ≡ lowered (excess_supply_at s (falling_path s k).prices)
  pub before_turn : (k : ℕ) → k < downs → excess_supply_at s (falling_path s k).prices ≡ 0 → ⊥
  pub at_turn : falling_path s downs ≡ record { phase = falling; prices = turn; ups = 0; downs = downs }
  -- from the turn on the falling set stays empty, and up to the close each round raises the rising set
  pub full : (k : ℕ) → excess_supply_at s (falling_path s (downs + k)).prices ≡ 0
  pub rises : (k : ℕ) → k < ups → falling_round_of s (downs + k) ≡ raised (excess_demand_at s (falling_path s (downs + k)).prices)
  pub at_close : falling_path s (downs + ups) ≡ record { phase = rising_after ups; prices = prices; ups = ups; downs = downs }
  -- it closes there and not before, with both sets empty, and the path stays there
  pub closes : falling_round_of s (downs + ups) ≡ closed
  pub before_close : (k : ℕ) → k < downs + ups → falling_round_of s k ≡ closed → ⊥
  -- a round closes if and only if both sets are empty at its prices
  pub closes_only : (k : ℕ) → falling_round_of s k ≡ closed → (excess_demand_at s (falling_path s k).prices ≡ 0) × (excess_supply_at s (falling_path s k).prices ≡ 0)
  pub closes_where : (k : ℕ) → excess_demand_at s (falling_path s k).prices ≡ 0 → excess_supply_at s (falling_path s k).prices ≡ 0 → falling_round_of s k ≡ closed
  pub no_excess : excess_demand_at s prices ≡ 0
  pub no_supply : excess_supply_at s prices ≡ 0
  pub stays : (k : ℕ) → falling_path s (downs + ups + k) ≡ falling_path s (downs + ups)
  pub close_is : falling_close s ≡ record { phase = rising_after ups; prices = prices; ups = ups; downs = downs }
  -- every price along the path is within its floor to 4,095, and an item of a rising set is below 4,095
  pub above_floor : (k i : ℕ) → amount s.floors i ≤ amount (falling_path s k).prices i
  pub range : (k i : ℕ) → amount (falling_path s k).prices i ≤ 4095
  pub raisable : (k i : ℕ) → has (excess_demand_at s (falling_path s k).prices) i ≡ true → amount (falling_path s k).prices i < 4095
  -- the turn is the greatest vector from the start down whose falling set is empty; the close is nowhere below it
  pub turn_below : Below turn s.start
  pub turn_greatest : (q : List ℕ) → Below q s.start → excess_supply_at s q ≡ 0 → Below q turn
  pub close_above : Below turn prices
  -- rounds lowered are the largest fall up to the turn, rounds raised the largest rise after it, so neither are more than 4,095
  pub largest-fall : downs ≡ greatest s.items λ i. amount s.start i - amount turn i
  pub largest-rise : ups ≡ greatest s.items λ i. amount prices i - amount turn i
  pub downs_max : downs ≤ 4095
  pub ups_max : ups ≤ 4095
  -- it ends in the prices of rising first, and so in its names, which are a function of the prices. `Closing` says the rest of them: they balance, are the least that
  -- do, and no assignment has a higher total than the names
  pub rising_first : Closing s
  pub same-prices : prices ≡ rising_first.prices
