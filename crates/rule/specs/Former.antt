-- The rule of a round without #102 of document 02: a bid of 0 is a bid like any other, as in the paper. Beside it what `proofs/Unchanged` shows of every sheet:
-- prices, rounds, reasons and the prices that balance are the same with #102 and without. Assumes nothing: these are definitions.
use Rattle.std.specs.Prelude.{ℕ, zero, suc, true, List, map, ◌≡◌}
use Rattle.sets.specs.Bit.{set_of}
use Rattle.rule.specs.Sheet.{Sheet}
use Rattle.rule.specs.Demand.{best, Demand}
use Rattle.rule.specs.Excess.{above_floors}
use Rattle.rule.specs.Round.{Round, round, State, move, opening, path, most_rounds, close}
use Rattle.rule.specs.Assignment.{fits}
use Rattle.rule.specs.Equilibrium.{Below, Equilibrium}
use Rattle.rule.specs.Closing.{round_of}
use Rattle.rule.specs.Reasons.{Reason, reason_of, reason_at}

-- a bidder's demand: every option, null included, of the highest surplus. The paper's D_b(p)
unfoldable pub former_demand : ℕ → List ℕ → List ℕ → Demand
former_demand m prices bids = record { null = best m prices bids 0; items = set_of m (best m prices bids) }

-- every bidder's demand
unfoldable pub former_demands : ℕ → List (List ℕ) → List ℕ → List Demand
former_demands m bids prices = map (former_demand m prices) bids

-- ---- by these demands: a round, k rounds, a sheet's path, what its round k + 1 does, its close

unfoldable pub former_round_at : ℕ → (floors : List ℕ) → List (List ℕ) → State → Round
former_round_at m floors bids s = round m (above_floors m floors s.prices) (former_demands m bids s.prices) s.phase

unfoldable pub former_after : ℕ → (floors : List ℕ) → List (List ℕ) → State → ℕ → State
former_after m floors bids s zero = s
former_after m floors bids s (suc k) = let t : State = former_after m floors bids s k in move m t (former_round_at m floors bids t)

unfoldable pub former_path : Sheet → ℕ → State
former_path s k = former_after s.items s.floors s.bids (opening s.start) k

abbrev pub former_round_of : Sheet → ℕ → Round
former_round_of s k = former_round_at s.items s.floors s.bids (former_path s k)

unfoldable pub former_close : Sheet → State
former_close s = former_path s most_rounds

-- ---- the reason of round k + 1, and prices that balance

unfoldable pub former_reason_at : Sheet → ℕ → Reason
former_reason_at s k = reason_of s.items (former_demands s.items s.bids (former_path s k).prices) (former_round_of s k)

pub record FormerEquilibrium (m : ℕ) (floors : List ℕ) (bids : List (List ℕ)) (prices : List ℕ) : Type 0 where
  pub from-floors : Below floors prices
  pub assigned : List ℕ
  pub balances : fits m (above_floors m floors prices) (former_demands m bids prices) assigned ≡ true

-- ---- what #102 leaves as it was, of a sheet

pub record Unchanged (s : Sheet) : Type 0 where
  -- after each round: the prices, the phase, the rounds raised and lowered so far; so the close
  pub states : (k : ℕ) → path s k ≡ former_path s k
  pub closes : close s ≡ former_close s
  -- each round: its kind and its items; and the bidders for whose demands it moves them
  pub rounds : (k : ℕ) → round_of s k ≡ former_round_of s k
  pub reasons : (k : ℕ) → reason_at s k ≡ former_reason_at s k
  -- prices balance with it if and only if they do without
  pub balance : (q : List ℕ) → Equilibrium s.items s.floors s.bids q → FormerEquilibrium s.items s.floors s.bids q
  pub balance_back : (q : List ℕ) → FormerEquilibrium s.items s.floors s.bids q → Equilibrium s.items s.floors s.bids q
