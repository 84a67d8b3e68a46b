-- The outcomes of the sealed auction applied to the smallest cases that tell a wrong definition, by computation. The checker takes modules by name, and this one
-- comes first. Assumes nothing.
use Prim.Native.Nat.{ℕ}
use mathlib.Core.Path.{◌≡◌, refl, ap, ◌∙◌}
use mathlib.Core.List.{List, [], ◌∷◌}
use lib.ListN.{replicate}
use Rattle.sets.specs.Count.{all_below, any_below, count}
use Rattle.sets.specs.Bit.{bit, is_set, has, set_of, each, any, size, lowest}
use Rattle.sets.specs.Largest.{largest_below, largest}
use Rattle.sets.specs.Lists.{tabulate, places}
use Rattle.rule.specs.Sheet.{amount, row, Sheet}
use Rattle.rule.specs.Demand.{surplus_at_least, best, demand, demands, wants, nth}
use Rattle.rule.specs.Excess.{bidders, crowded, in_excess, in_positive_excess, excess_demand, positive_excess_demand, excess_supply, above_floors}
use Rattle.rule.specs.Round.{raise, lower, closed, round_falling, round, State, move, round_at, after, opening, path, most_rounds, close}
use Rattle.rule.specs.Assignment.{option, holders, is_assignment, fits, some_list, choose, assignment}
use Rattle.rule.specs.Closing.{round_of}
use Rattle.rule.specs.Gains.{gain, gains_at}
use Rattle.rule.specs.FallingFirst.{round_rising, falling_round, falling_round_at, falling_path, falling_close, falling_round_of}
use Rattle.rule.specs.Refusal.{first, bad_items, bad_bidders, bad_length, any_over, any_under, bad_floors}
use Rattle.rule.proofs.Path.{after-add, after-closed}
use Rattle.rule.proofs.FallingPath.{stays_at}
use Rattle.bids.specs.Lent.{line_of, rows_of, sheet_above, sheet_of}
use Rattle.bids.specs.Refusal.{sealed_above_refusal, sealed_refusal}
use Rattle.auction.specs.Sealed.{refused, named_at, falling_closed, outcome, sealed_above_of, sealed_of, falling_first_of}
use Rattle.auction.specs.Sealed as outcomes
use Rattle.auction.specs.declared.Closing.{Closing}

-- the definitions that the cases compute with
computing : Unit {0}
unfolding all_below any_below count bit is_set has set_of each any size lowest largest_below largest tabulate places amount row surplus_at_least best demand demands wants nth bidders crowded in_excess in_positive_excess excess_demand positive_excess_demand excess_supply above_floors raise lower round_falling round move round_at after opening path round_rising falling_round falling_round_at falling_path option holders is_assignment fits some_list choose assignment gain gains_at
computing = tt

-- and those by which lent numbers are a sheet, or are turned down
asking : Unit {0}
unfolding first bad_items bad_bidders bad_length any_over any_under bad_floors line_of rows_of sheet_above sheet_of sealed_above_refusal sealed_refusal any_below tabulate refused outcome sealed_above_of sealed_of falling_first_of falling_closed
asking = tt

-- example 6 from (4, 4), with a floor of 1 for item 1
abbrev start : List ℕ
start = 4 ∷ 4 ∷ []

abbrev floors : List ℕ
floors = 1 ∷ 0 ∷ []

abbrev bids : List ℕ
bids = 2 ∷ 6 ∷ 3 ∷ 7 ∷ 6 ∷ 7 ∷ []

abbrev six : Sheet
six = record { items = 2; start = start; floors = floors; bids = (2 ∷ 6 ∷ []) ∷ (3 ∷ 7 ∷ []) ∷ (6 ∷ 7 ∷ []) ∷ [] }

-- an outcome at (2, 6), with the names 0, 2 and 1 and the gains 0, 1 and 4
abbrev lets : (raised lowered : ℕ) → Closing
lets raised lowered = record { refusal = 0; raised = raised; lowered = lowered; prices = 2 ∷ 6 ∷ replicate 30 0; assignment = 0 ∷ 2 ∷ 1 ∷ replicate 61 0; gains = 0 ∷ 1 ∷ 4 ∷ replicate 61 0 }

abbrev at : State → Closing
at t = named_at six t.ups t.downs t.prices

-- ---- falling first: 3 falls to the floor of item 1, and 2 rises

falls-close : falling_round_of six 5 ≡ closed
unfolding computing
falls-close = refl

-- from then on its path stays: 5 rounds are computed and not 8,190
falls-stay : falling_close six ≡ falling_path six 5
unfolding falling_close most_rounds
falls-stay = stays_at six 5 falls-close 8185

falls-to : at (falling_path six 5) ≡ lets 2 3
unfolding computing
falls-to = refl

pub falling-six : falling_first_of 2 3 start floors bids ≡ lets 2 3
unfolding asking
falling-six = ap at falls-stay ∙ falls-to

-- ---- rising first: 2 rises, and 2 falls; a floor of 1 makes no difference

rises-close : round_of six 4 ≡ closed
unfolding computing
rises-close = refl

rises-stay : close six ≡ path six 4
unfolding close path most_rounds
rises-stay = after-add 2 floors six.bids (opening start) 4 8186 ∙ after-closed 2 floors six.bids (path six 4) rises-close 8186

rises-to : at (path six 4) ≡ lets 2 2
unfolding computing
rises-to = refl

pub rising-six : sealed_above_of 2 3 start floors bids ≡ lets 2 2
unfolding asking outcomes.closed
rising-six = ap at rises-stay ∙ rises-to

-- ---- beside a number there are zeros only: a starting price too high, one below its floor, a bid too high, a bid missing

abbrev turned_down : ℕ → Closing
turned_down why = record { refusal = why; raised = 0; lowered = 0; prices = replicate 32 0; assignment = replicate 64 0; gains = replicate 64 0 }

pub falling-refused : (falling_first_of 2 3 (4096 ∷ 4 ∷ []) floors bids ≡ turned_down 4) × (falling_first_of 2 3 (0 ∷ 4 ∷ []) floors (4096 ∷ 6 ∷ 3 ∷ 7 ∷ 6 ∷ 7 ∷ []) ≡ turned_down 18)
    × (falling_first_of 2 3 start floors (4096 ∷ 6 ∷ 3 ∷ 7 ∷ 6 ∷ 7 ∷ []) ≡ turned_down 5) × (falling_first_of 2 3 start floors (2 ∷ 6 ∷ 3 ∷ 7 ∷ 6 ∷ []) ≡ turned_down 3)
unfolding asking
falling-refused = (refl, refl, refl, refl)

pub rising-refused : (sealed_above_of 2 3 (0 ∷ 4 ∷ []) floors bids ≡ turned_down 18) × (sealed_of 2 3 (4096 ∷ 4 ∷ []) bids ≡ turned_down 4)
unfolding asking
rising-refused = (refl, refl)
