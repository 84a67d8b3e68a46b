-- The definitions applied to the smallest cases that tell a wrong one from them, by computation. The checker takes modules by name, and this one comes first.
-- Assumes nothing.
use mathlib.Core.Path.{◌≡◌, refl}
use mathlib.Core.Bool.{true, false}
use mathlib.Core.List.{List, [], ◌∷◌, ◌++◌}
use lib.ListN.{take, replicate}
use Rattle.sets.specs.Count.{all_below}
use Rattle.sets.specs.Bit.{set_of, each}
use Rattle.sets.specs.Lists.{tabulate, places}
use Rattle.rule.specs.Sheet.{amount, greatest}
use Rattle.rule.specs.Demand.{surplus_at_least, best, surplus, Demand, demand, demands, surpluses, nth}
use Rattle.bids.specs.Lent.{line_of, rows_of}
use Rattle.demands.specs.Demands.{surplus_of, complete, demands_of, surpluses_of, held}

-- the definitions that the cases compute with
computing : Unit {0}
unfolding all_below set_of each tabulate places amount surplus_at_least best demand demands surpluses nth line_of rows_of greatest surplus surplus_of complete demands_of surpluses_of held
computing = tt

-- the most items and bidders, and one more of each
pub most : complete 32 64 2048 ≡ true
unfolding computing
most = refl

pub items-past : complete 33 1 33 ≡ false
unfolding computing
items-past = refl

pub bidders-past : complete 1 65 65 ≡ false
unfolding computing
bidders-past = refl

-- a bid too few, and one too many
pub bid-missing : complete 2 2 3 ≡ false
unfolding computing
bid-missing = refl

pub bid-left-over : complete 2 2 5 ≡ false
unfolding computing
bid-left-over = refl

-- one item at 1 and a bidder who bids 2; without the bid there is nobody
pub somebody : (demands_of 1 1 (1 ∷ []) (2 ∷ []) ≡ record { null = false; items = 1 } ∷ []) × (surpluses_of 1 1 (1 ∷ []) (2 ∷ []) ≡ 1 ∷ [])
unfolding computing
somebody = (refl, refl)

pub nobody : demands_of 1 1 (1 ∷ []) [] ≡ []
unfolding computing
nobody = refl

pub no-surplus : surpluses_of 1 1 (1 ∷ []) [] ≡ []
unfolding computing
no-surplus = refl

-- bidder 1 demands item 1, bidder 2 item 2 and null
abbrev two : List Demand
two = record { null = false; items = 1 } ∷ record { null = true; items = 2 } ∷ []

pub sets-held : take 3 (held two []).sets ≡ 1 ∷ 2 ∷ 0 ∷ []
unfolding computing
sets-held = refl

pub null-held : (held two []).nulls ≡ 2
unfolding computing
null-held = refl

pub surpluses-held : take 3 (held two (5 ∷ 0 ∷ [])).surpluses ≡ 5 ∷ 0 ∷ 0 ∷ []
unfolding computing
surpluses-held = refl

-- bids of 3 and 4 at prices of 1 and 3: the first gives more; of 32 bids the last counts, and 33 are too many
pub first_more : surplus_of (1 ∷ 3 ∷ []) (3 ∷ 4 ∷ []) ≡ 2
unfolding computing
first_more = refl

pub most-bids : (surplus_of [] (replicate 31 0 ++ (5 ∷ [])) ≡ 5) × (surplus_of [] (replicate 33 5) ≡ 0)
unfolding computing
most-bids = (refl, refl)
