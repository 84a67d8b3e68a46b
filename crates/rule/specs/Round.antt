-- A round and the path: document 01, "The rule of a round", from "Rising first" on; algorithm 1 of the paper. Assumes nothing: these are definitions.
use Rattle.std.specs.Prelude.{ℕ, zero, suc, ◌+◌, ◌-◌, List}
use Rattle.sets.specs.Count.{to_nat}
use Rattle.sets.specs.Bit.{has}
use Rattle.sets.specs.Lists.{tabulate}
use Rattle.rule.specs.Sheet.{amount, Sheet}
use Rattle.rule.specs.Demand.{Demand, demands}
use Rattle.rule.specs.Excess.{excess_demand, excess_supply, above_floors}

-- the prices (rents) of the items of s go up by 1
unfoldable pub raise : ℕ → List ℕ → ℕ → List ℕ
raise m prices s = tabulate m (λ i. amount prices i + to_nat (has s i)) 1

-- the prices of the items of s go down by 1
unfoldable pub lower : ℕ → List ℕ → ℕ → List ℕ
lower m prices s = tabulate m (λ i. amount prices i - to_nat (has s i)) 1

-- rising until a round lowers, and falling from then on
pub data Phase : Type 0 where
  rising falling : Phase

-- what a round does: it raises the items of a set, or lowers them, or the auction (letting) closes
pub data Round : Type 0 where
  raised lowered : ℕ → Round
  closed : Round

-- from the turn on the falling set goes down until it is empty. Step 4 of algorithm 1
unfoldable pub round_falling : ℕ → ℕ → List Demand → Round
round_falling m above ds = elim (excess_supply m above ds) [ suc k ↦ lowered (suc k) | zero ↦ closed ]

-- rising first: while the rising set is not empty it goes up. Step 3 of algorithm 1. The turn is when it is first empty, and needs no round of its own.
-- The auction closes when both sets are empty. `above` are the items of price above the floor
unfoldable pub round : ℕ → ℕ → List Demand → Phase → Round
round m above ds rising = elim (excess_demand m ds) [ suc k ↦ raised (suc k) | zero ↦ round_falling m above ds ]
round m above ds falling = round_falling m above ds

-- where a path stands: the phase, the prices, and how many rounds were raised and how many lowered
pub record State : Type 0 where
  pub phase : Phase
  pub prices : List ℕ
  pub ups : ℕ
  pub downs : ℕ

-- the state after a round
unfoldable pub move : ℕ → State → Round → State
move m s (raised p) = record { phase = rising; prices = raise m s.prices p; ups = s.ups + 1; downs = s.downs }
move m s (lowered p) = record { phase = falling; prices = lower m s.prices p; ups = s.ups; downs = s.downs + 1 }
move m s closed = s

-- the round that the bidders' demands at a state's prices give
unfoldable pub round_at : ℕ → (floors : List ℕ) → List (List ℕ) → State → Round
round_at m floors bids s = round m (above_floors m floors s.prices) (demands m bids s.prices) s.phase

-- one round
abbrev pub step : ℕ → (floors : List ℕ) → List (List ℕ) → State → State
step m floors bids s = move m s (round_at m floors bids s)

-- k rounds; once closed, the state stays
unfoldable pub after : ℕ → (floors : List ℕ) → List (List ℕ) → State → ℕ → State
after m floors bids s zero = s
after m floors bids s (suc k) = let t : State = after m floors bids s k in step m floors bids t

-- the start
unfoldable pub opening : List ℕ → State
opening start = record { phase = rising; prices = start; ups = 0; downs = 0 }

-- a sheet's path: what the rule of a round gives from its starting prices
unfoldable pub path : Sheet → ℕ → State
path s k = after s.items s.floors s.bids (opening s.start) k

-- the most rounds that a path takes: 4,095 raised and 4,095 lowered (`Closing.ups-max`, `Closing.downs-max`)
unfoldable pub most_rounds : ℕ
most_rounds = 8190

-- a sheet's close
unfoldable pub close : Sheet → State
close s = path s most_rounds
