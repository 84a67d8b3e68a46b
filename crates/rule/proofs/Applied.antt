-- The definitions applied to the smallest cases that tell a wrong one from them, by computation; the whole of document 01's table is in `cases`. The checker takes
-- modules by name, and this one comes first: the first error that a wrong definition meets stands here. Assumes nothing.
use Prim.Native.Nat.{ℕ, zero, suc, ◌+◌, ◌-◌}
use mathlib.Core.Path.{◌≡◌, refl}
use mathlib.Core.Bool.{Bool, true, false, cond}
use mathlib.Core.List.{List, [], ◌∷◌}
use native.Mathlib.Omega.{arith}
use Rattle.sets.specs.Count.{all_below, any_below, count}
use Rattle.sets.specs.Bit.{bit, is_set, has, set_of, each, any, size, lowest}
use Rattle.sets.specs.Largest.{largest_below, largest}
use Rattle.sets.specs.Lists.{tabulate}
use Rattle.sets.specs.Sum.{sum}
use Rattle.rule.specs.Sheet.{amount, row, each4095, Sheet, within_limits, greatest}
use Rattle.rule.specs.Demand.{surplus_at_least, best, surplus, Demand, demand, demands, surpluses, wants, nth}
use Rattle.rule.specs.Excess.{bidders, overdemanded, weakly_underdemanded, crowded, in_excess, in_positive_excess, excess_demand, positive_excess_demand, excess_supply, above_floors}
use Rattle.rule.specs.Round.{raise, lower, Phase, rising, falling, raised, lowered, closed, State, round_falling, round, move, round_at, after, opening, path, most_rounds}
use Rattle.rule.specs.Assignment.{option, holders, is_assignment, fits, Ahead, over_null, floor_total, some_list, choose, assignment}
use Rattle.rule.specs.Equilibrium.{Below, Equilibrium}
use Rattle.rule.specs.Closing.{excess_demand_at, excess_supply_at, FitsAt, round_of, largest_rise}
use Rattle.rule.specs.FallingFirst.{round_rising, falling_round, falling_round_at, falling_path, falling_round_of}
use Rattle.rule.specs.Gains.{gain, gains_at}
use Rattle.rule.specs.Reduced.{reduced_line}
use Rattle.rule.specs.Reasons.{bidders_with, reason_of, reason_at, Justified}
use Rattle.rule.specs.Refusal.{bad_bidders, bad_live_bidders, any_over, any_under, bad_floors}
use Rattle.rule.specs.Former.{former_demand, former_demands, former_round_at, former_after, former_path, FormerEquilibrium}

-- the definitions that the cases compute with
computing : Unit {0}
unfolding all_below any_below count bit is_set has set_of each any size largest_below largest tabulate amount row each4095 within_limits surplus_at_least best demand demands wants nth bidders overdemanded weakly_underdemanded crowded in_excess in_positive_excess excess_demand positive_excess_demand excess_supply above_floors raise lower round_falling round move round_at after opening path most_rounds option holders is_assignment fits greatest bidders_with reason_of reason_at former_demand former_demands former_round_at former_after former_path sum floor_total bad_bidders bad_live_bidders any_over any_under bad_floors round_rising falling_round falling_round_at falling_path surplus surpluses gain gains_at some_list choose assignment lowest reduced_line
computing = tt

-- a demand of these items alone, and one of null beside them
abbrev pub only : ℕ → Demand
only s = record { null = false; items = s }

abbrev pub or_null : ℕ → Demand
or_null s = record { null = true; items = s }

-- ---- demand

-- at price 0 a bid of 0 is no bid, for either of two items, and null stays
pub zero-left-out : (demand 2 (0 ∷ 0 ∷ []) (0 ∷ 0 ∷ [])).items ≡ 0
unfolding computing
zero-left-out = refl

pub null-stays : (demand 2 (0 ∷ 0 ∷ []) (0 ∷ 0 ∷ [])).null ≡ true
unfolding computing
null-stays = refl

-- a 0 for item 1 says nothing of item 2
pub others-stay : (demand 2 (0 ∷ 0 ∷ []) (0 ∷ 1 ∷ [])).items ≡ 2
unfolding computing
others-stay = refl

-- at price 0 a bid of 1 is one; at price 1 it is one beside null
pub at-no-price : (demand 1 (0 ∷ []) (1 ∷ [])).items ≡ 1
unfolding computing
at-no-price = refl

pub at-its-bid : demand 1 (1 ∷ []) (1 ∷ []) ≡ or_null 1
unfolding computing
at-its-bid = refl

-- ---- the sets

-- an item that stands at its floor is not above it, whether the floor is 0 or not: no falling set has it
pub not-above : above_floors 2 (0 ∷ 3 ∷ []) (0 ∷ 3 ∷ []) ≡ 0
unfolding computing
not-above = refl

-- one above its own floor is, whatever the other's floor
pub above-own : above_floors 2 (3 ∷ 0 ∷ []) (4 ∷ 1 ∷ []) ≡ 3
unfolding computing
above-own = refl

-- K4 at (3, 3): two bidders, who demand both of two items, are no more than the items, and both fall
pub both-fall : excess_supply 2 3 (only 3 ∷ only 3 ∷ []) ≡ 3
unfolding computing
both-fall = refl

-- K6 at its close: two bidders who demand the one item, and null as well, do not make it rise
pub null_outside : excess_demand 1 (or_null 1 ∷ or_null 1 ∷ []) ≡ 0
unfolding computing
null_outside = refl

-- K3: two bidders demand items 1 and 2 and one demands item 1, and both rise, though neither would alone
pub both-rise : excess_demand 2 (only 3 ∷ only 3 ∷ only 1 ∷ []) ≡ 3
unfolding computing
both-rise = refl

-- the sets below n that pass the test, the last first
abbrev passing : ℕ → (ℕ → Bool) → List ℕ
passing zero f = []
passing (suc n) f = let rest : List ℕ = passing n f in cond (f n) (n ∷ rest) rest

-- ---- overdemanded and weakly underdemanded sets

-- K4 at (3, 3): two bidders, who demand both of two items, are no more than the items; but they are more than either of them
pub both_under : passing 4 (weakly_underdemanded 2 3 (only 3 ∷ only 3 ∷ [])) ≡ 3 ∷ []
unfolding computing
both_under = refl

-- K6 at its close: two bidders who demand the one item, and null as well, do not overdemand it
pub null-not-over : passing 2 (overdemanded 1 (or_null 1 ∷ or_null 1 ∷ [])) ≡ []
unfolding computing
null-not-over = refl

-- who demanded nothing, as no bidder does at prices and no report may, would overdemand the empty set
pub nothing-over : passing 2 (overdemanded 1 (only 0 ∷ [])) ≡ 0 ∷ []
unfolding computing
nothing-over = refl

-- nobody demands anything in the empty set, which is no more than it has items: it is not meant
pub empty-not-under : weakly_underdemanded 1 1 (only 1 ∷ []) 0 ≡ false
unfolding computing
empty-not-under = refl

-- who demands null alone demands nothing in an item, which is then weakly underdemanded
pub null-under : passing 2 (weakly_underdemanded 1 1 (or_null 0 ∷ or_null 0 ∷ [])) ≡ 1 ∷ []
unfolding computing
null-under = refl

-- K2, which is example 1 of the paper: four items, above their floors the first and the last, and demands of {1}, {1}, {1}, {2}, {2}, {4}
abbrev example-1 : List Demand
example-1 = only 1 ∷ only 1 ∷ only 1 ∷ only 2 ∷ only 2 ∷ only 8 ∷ []

-- overdemanded are {1, 2, 3, 4}, {1, 3, 4}, {1, 2, 4}, {2, 4}, {1, 4}, {1, 2, 3}, {1, 3}, {1, 2}, {2} and {1}, as the paper has them
pub overdemanded-are : passing 16 (overdemanded 4 example-1) ≡ 15 ∷ 13 ∷ 11 ∷ 10 ∷ 9 ∷ 7 ∷ 5 ∷ 3 ∷ 2 ∷ 1 ∷ []
unfolding computing
overdemanded-are = refl

-- weakly underdemanded is {4} alone: nobody demands item 3, but its price is 0
pub underdemanded-are : passing 16 (weakly_underdemanded 4 9 example-1) ≡ 8 ∷ []
unfolding computing
underdemanded-are = refl

-- ---- rounds

-- a raise is by 1
pub one_up : raise 1 (0 ∷ []) 1 ≡ 1 ∷ []
unfolding computing
one_up = refl

-- K9's first round raises item 1 and leaves item 2, which is in the falling set
pub one_set : (path (record { items = 2; start = 5 ∷ 5 ∷ []; floors = 0 ∷ 0 ∷ []; bids = (9 ∷ 2 ∷ []) ∷ (9 ∷ 2 ∷ []) ∷ (9 ∷ 2 ∷ []) ∷ [] }) 1).prices ≡ 6 ∷ 5 ∷ []
unfolding computing
one_set = refl

-- K5: both sets are empty, and it closes
pub closes-at-once : round_of (record { items = 1; start = 0 ∷ []; floors = 0 ∷ []; bids = (0 ∷ []) ∷ [] }) 0 ≡ closed
unfolding computing
closes-at-once = refl

-- 4,095 raised and 4,095 lowered: from (0, 4,095), with two bidders who bid (4,095, 0), a path takes them all (the tests play it)
pub most : most_rounds ≡ 4095 + 4095
unfolding computing
most = refl

-- ---- names

-- no item goes to two
pub one-each : is_assignment 1 2 (1 ∷ 1 ∷ []) ≡ false
unfolding computing
one-each = refl

-- an item above its floor is let, though its one bidder likes null as well
pub must-be-let : fits 1 1 (or_null 1 ∷ []) (0 ∷ []) ≡ false
unfolding computing
must-be-let = refl

-- null ranks behind an item
pub null-last : Ahead 1 0
null-last = over_null

-- ---- prices

-- nowhere above
pub below : Below (0 ∷ []) (1 ∷ [])
unfolding Below amount
below zero = omega arith
below (suc zero) = omega arith
below (suc (suc k)) = omega arith

-- one item with floor 5 and one bid of 3, which closes at 5. At 4 both sets are empty too, and that nobody has the item fits: so that the close is the only one, and
-- the least, is true from the floors up alone (`Closing.unique`, `least`)
abbrev pub low : Sheet
low = record { items = 1; start = 5 ∷ []; floors = 5 ∷ []; bids = (3 ∷ []) ∷ [] }

pub calm-below : (within_limits low ≡ true) × (round_of low 0 ≡ closed) × (excess_demand_at low (4 ∷ []) ≡ 0) × (excess_supply_at low (4 ∷ []) ≡ 0) × FitsAt low (4 ∷ []) (0 ∷ [])
unfolding computing
calm-below = (refl, refl, refl, refl, refl)

-- prices below the floors do not balance
pub not-below : Equilibrium low.items low.floors low.bids (4 ∷ []) → ⊥
unfolding Below amount
not-below e = omega (arith, e.from-floors 1)

-- the floors of a bidder who has item 2, and of one who has null
pub floor-total : floor_total (1 ∷ 5 ∷ []) (2 ∷ 0 ∷ []) ≡ 5
unfolding computing
floor-total = refl

-- one item at 1, two bidders who bid 2: its one round raised is the rise from 1 to 2
abbrev pub two : Sheet
two = record { items = 1; start = 1 ∷ []; floors = 0 ∷ []; bids = (2 ∷ []) ∷ (2 ∷ []) ∷ [] }

pub rise : (path two 1).ups ≡ largest_rise two (path two 1).prices
unfolding computing
rise = refl

-- ---- reasons

-- example 6, round 2: bidders 1 and 2 demand item 2 alone, for whose sake it is raised; bidder 3 demands item 1 as well
pub rise-for : reason_of 2 (only 2 ∷ only 2 ∷ only 3 ∷ []) (raised 2) ≡ record { kind = 1; items = 2; bidders = 3 }
unfolding computing
rise-for = refl

-- who demands null as well demands something outside the set
pub rise-not-null : reason_of 1 (only 1 ∷ or_null 1 ∷ only 1 ∷ []) (raised 1) ≡ record { kind = 1; items = 1; bidders = 5 }
unfolding computing
rise-not-null = refl

-- for a fall all count who demand something in the set, whatever else they demand
pub fall-for : reason_of 2 (only 2 ∷ only 3 ∷ or_null 1 ∷ []) (lowered 1) ≡ record { kind = 2; items = 1; bidders = 6 }
unfolding computing
fall-for = refl

-- a close moves nothing, whatever is demanded
pub close-for-nobody : reason_of 1 (only 1 ∷ []) closed ≡ record { kind = 0; items = 0; bidders = 0 }
unfolding computing
close-for-nobody = refl

-- one item at 0 and bids of 1 and 2: both demand it alone before the round that raises it, and after that only who bid 2
pub before-the-round : reason_at (record { items = 1; start = 0 ∷ []; floors = 0 ∷ []; bids = (1 ∷ []) ∷ (2 ∷ []) ∷ [] }) 0 ≡ record { kind = 1; items = 1; bidders = 3 }
unfolding computing
before-the-round = refl

-- K6: two bidders for one item are enough for a rise
pub two-for-one : Justified 1 2 (record { kind = 1; items = 1; bidders = 3 })
unfolding computing
two-for-one = record { raised_more = λ e. omega arith; lowered_no_more = λ e. absurd (omega (arith, e)) }

-- K4 at (3, 3): two bidders for two items are not too many for a fall
pub two-for-two : Justified 2 2 (record { kind = 2; items = 3; bidders = 3 })
unfolding computing
two-for-two = record { raised_more = λ e. absurd (omega (arith, e)); lowered_no_more = λ e. omega arith }

-- ---- 2

-- 64 bidders are not too many, and 65 are
pub too_many : (bad_bidders 64 ≡ false) × (bad_bidders 65 ≡ true)
unfolding computing
too_many = (refl, refl)

-- of a live auction 40 are not, and 41 are
pub too-many-live : (bad_live_bidders 40 ≡ false) × (bad_live_bidders 41 ≡ true)
unfolding computing
too-many-live = (refl, refl)

-- ---- 18

-- a floor above 4,095 is as bad as one above its starting price; one at its starting price is not
pub too-high : (bad_floors (4096 ∷ []) (4096 ∷ []) ≡ true) × (bad_floors (1 ∷ []) (2 ∷ []) ≡ true) × (bad_floors (2 ∷ []) (2 ∷ []) ≡ false)
unfolding computing
too-high = (refl, refl, refl)

-- ---- falling first

-- example 6 from (4, 4): the falling set is {1} and the rising set {2}
abbrev six : Sheet
six = record { items = 2; start = 4 ∷ 4 ∷ []; floors = 0 ∷ 0 ∷ []; bids = (2 ∷ 6 ∷ []) ∷ (3 ∷ 7 ∷ []) ∷ (6 ∷ 7 ∷ []) ∷ [] }

abbrev at : Phase → List ℕ → State
at ph p = record { phase = ph; prices = p; ups = 0; downs = 0 }

pub falls-first : (falling_path six 0 ≡ at falling (4 ∷ 4 ∷ [])) × (falling_round_of six 0 ≡ lowered 1)
unfolding computing
falls-first = (refl, refl)

-- at (0, 4) the falling set is empty, though item 2 is above its floor, and the rising set is not: there is the turn, and no close
pub then-rises : falling_round_at six (at falling (0 ∷ 4 ∷ [])) ≡ raised 3
unfolding computing
then-rises = refl

-- at (2, 6) both are empty
pub closes-there : (falling_round_at six (at falling (2 ∷ 6 ∷ [])) ≡ closed) × (falling_round_at six (at rising (2 ∷ 6 ∷ [])) ≡ closed)
unfolding computing
closes-there = (refl, refl)

-- once it rises it does not fall again
pub no-fall-after : falling_round_at six (at rising (4 ∷ 4 ∷ [])) ≡ raised 2
unfolding computing
no-fall-after = refl

-- the largest fall from (4, 4) is 4 to the turn at (0, 4), and only 2 to the close at (2, 6)
pub to-the-turn : (greatest 2 (λ i. amount (4 ∷ 4 ∷ []) i - amount (0 ∷ 4 ∷ []) i) ≡ 4) × (greatest 2 (λ i. amount (4 ∷ 4 ∷ []) i - amount (2 ∷ 6 ∷ []) i) ≡ 2)
unfolding computing
to-the-turn = (refl, refl)

-- at the close the falling set is empty too, and it is above the turn: among all prices the turn is not the greatest, only from the start down
pub full-above : excess_supply_at six (2 ∷ 6 ∷ []) ≡ 0
unfolding computing
full-above = refl

-- bidder 3 has a surplus of 3 at (4, 4), bidder 1 one of 2; at (9, 9) nobody has any
pub reduced-line : (reduced_line 2 (4 ∷ 4 ∷ []) (6 ∷ 7 ∷ []) ≡ 3 ∷ 4 ∷ []) × (reduced_line 2 (4 ∷ 4 ∷ []) (2 ∷ 6 ∷ []) ≡ 0 ∷ 4 ∷ []) × (reduced_line 2 (9 ∷ 9 ∷ []) (6 ∷ 7 ∷ []) ≡ 6 ∷ 7 ∷ [])
unfolding computing
reduced-line = (refl, refl, refl)

-- ---- the highest surplus, and gains

-- at (4, 4) bidder 1 has most from item 2, which leaves 2; at (9, 9) nothing is worth its price, and nobody has less than 0
pub highest-of-all : (surpluses 2 six.bids (4 ∷ 4 ∷ []) ≡ 2 ∷ 3 ∷ 3 ∷ []) × (surpluses 2 six.bids (9 ∷ 9 ∷ []) ≡ 0 ∷ 0 ∷ 0 ∷ [])
unfolding computing
highest-of-all = (refl, refl)

-- at (2, 6) with the names 0, 2 and 1: nobody has item 1 but bidder 3, and bidder 1, who has none, gains nothing
pub gains-of-six : tabulate 3 (gain six.bids (2 ∷ 6 ∷ []) (0 ∷ 2 ∷ 1 ∷ [])) 0 ≡ 0 ∷ 1 ∷ 4 ∷ []
unfolding computing
gains-of-six = refl

-- one item that starts at 5, with a floor of 2, and bids of 9 and 7: at its close, 7, bidder 1 has it and gains 2. From the start it would be 4, from the floor 7
abbrev bought : Sheet
bought = record { items = 1; start = 5 ∷ []; floors = 2 ∷ []; bids = (9 ∷ []) ∷ (7 ∷ []) ∷ [] }

pub gains-at-close : gains_at bought (7 ∷ []) ≡ 2 ∷ 0 ∷ []
unfolding computing
gains-at-close = refl

-- ---- without #102

-- a bid of 0 is a bid like any other, for each item, beside null
pub former-zero : former_demand 2 (0 ∷ 0 ∷ []) (0 ∷ 0 ∷ []) ≡ or_null 3
unfolding computing
former-zero = refl

-- the path starts where the sheet does
pub former_start : (former_path two 0).prices ≡ 1 ∷ []
unfolding computing
former_start = refl

-- K5 balanced with the item named
pub former-named : FormerEquilibrium 1 (0 ∷ []) ((0 ∷ []) ∷ []) (0 ∷ [])
unfolding computing Below
former-named = record { from-floors = λ i. omega arith; assigned = 1 ∷ []; balances = refl }

-- two bidders who bid 0 for the one item at price 0: if it were an item of price above 0, S~ would have it without #102, and not with it. So that both sets are the
-- same (`Zeros.same-positive`) is true only where the items of `above` have prices above 0
pub only_above : positive_excess_demand 1 1 (former_demands 1 ((0 ∷ []) ∷ (0 ∷ []) ∷ []) (0 ∷ [])) ≡ 1
unfolding computing
only_above = refl

pub only-above-zero : positive_excess_demand 1 1 (demands 1 ((0 ∷ []) ∷ (0 ∷ []) ∷ []) (0 ∷ [])) ≡ 0
unfolding computing
only-above-zero = refl
