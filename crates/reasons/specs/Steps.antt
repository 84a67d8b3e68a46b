-- What the steps of the sheet of reasons answer. Assumes nothing: these are definitions.
use Rattle.std.specs.Prelude.{ℕ, Bool, true, false, List, ◌≡◌}
use Rattle.sets.specs.Lists.{places}
use Rattle.rule.specs.Demand.{Demand}
use Rattle.rule.specs.Excess.{excess_demand, excess_supply, something_in, nothing_outside}
use Rattle.rule.specs.Round.{Round, raised, lowered, lower}
use Rattle.rule.specs.Reasons.{reason_of}
use Rattle.prices.specs.Prices.{raise_places}
use Rattle.reasons.specs.declared.Reason.{Reason}
use Rattle.reasons.specs.declared.Move.{Move}
use Rattle.reasons.specs.declared.Move.TheVariants.{Rise, Fall}

-- how a round moves its set, by whether it comes after the turn
abbrev pub move_of : Bool → Move
move_of true = Fall
move_of false = Rise

-- a demand counts: for a fall one that holds something in the set, for a rise one that holds nothing outside it
abbrev pub counts_for : Move → (m s : ℕ) → Demand → Bool
counts_for Rise m s d = nothing_outside m s d
counts_for Fall m s d = something_in m s d

-- the set that moves
abbrev pub moving_set : Move → (m above : ℕ) → List Demand → ℕ
moving_set Rise m above ds = excess_demand m ds
moving_set Fall m above ds = excess_supply m above ds

-- the kind's number: 1 raised, 2 lowered
abbrev pub kind_of : Move → ℕ
kind_of Rise = 1
kind_of Fall = 2

-- the round that moves it
abbrev pub move_by : Move → ℕ → Round
move_by Rise s = raised s
move_by Fall s = lowered s

-- the reason, as the code holds it, is that of this round, and beside it are the highest surpluses xs in 64 places
pub record ReasonIs (m above : ℕ) (ds : List Demand) (xs : List ℕ) (step : Move) (r : Reason) : Type 0 where
  pub kind : r.kind ≡ (reason_of m ds (move_by step (moving_set step m above ds))).kind
  pub items : r.items ≡ (reason_of m ds (move_by step (moving_set step m above ds))).items
  pub bidders : r.bidders ≡ (reason_of m ds (move_by step (moving_set step m above ds))).bidders
  pub surpluses : r.surpluses ≡ places 64 xs

-- the prices in 32 places after the round
abbrev pub prices_after : Move → (prices : List ℕ) → ℕ → List ℕ
prices_after Rise prices s = raise_places prices s
prices_after Fall prices s = lower 32 prices s
