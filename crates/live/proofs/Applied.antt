-- Number 11 applied, clause by clause, then openings, the lent tables and reading a close, by computation from the definitions alone. Each case of 11 is two records that differ in one
-- number: the first, at the limit of the clause, is well formed, and the second is not. So a clause that is dropped or made weaker makes a case false, and so does
-- one that is made stronger. Three clauses never turn a record down alone, and two of them have cases by themselves: a floor above 4,095 and an unused floor that is
-- not zero are always also above their price, or the price breaks its own clause. The third has none: a bit of an item set past the items is always also in a
-- report that 8 refuses, in one that is not empty, or in an unused place.
-- The checker takes modules by name, and this one comes first: the first error that a wrong definition meets stands here. Assumes nothing.
use Prim.Native.Nat.{ℕ}
use mathlib.Core.Path.{◌≡◌, refl}
use mathlib.Core.Bool.{Bool, true, false}
use mathlib.Core.List.{List, [], ◌∷◌}
use lib.ListN.{replicate, set}
use lib.IntN.{ℤ, pos}
use Rattle.sets.specs.Count.{all_below, any_below, count}
use Rattle.sets.specs.Bit.{bit, is_set, has, set_of, each, any, size, lowest}
use Rattle.sets.specs.Largest.{largest_below, largest}
use Rattle.sets.specs.Lists.{tabulate, places}
use Rattle.sets.specs.Sum.{sum}
use Rattle.rule.specs.Sheet.{amount, price_sum}
use Rattle.rule.specs.Demand.{Demand, wants, nth}
use Rattle.rule.specs.Round.{raised, lowered, closed}
use Rattle.rule.specs.Excess.{bidders, crowded, in_excess, in_positive_excess, excess_demand, positive_excess_demand, excess_supply, above_floors}
use Rattle.rule.specs.Assignment.{option, holders, is_assignment, fits, some_list, choose, assignment}
use Rattle.rule.specs.Refusal.{first, bad_items, bad_live_bidders, bad_length, any_over, any_under, bad_floors}
use Rattle.lines.specs.Lines.{joined, amounts_line, closing_sheet, closing_length, written_to}
use Rattle.round.specs.Reports.{reports}
use Rattle.reports.specs.Report.{is_empty, beyond, unfit}
use Rattle.live.specs.Auction.{place, has_reported, missing, reports_of, items_above, rising_set, falling_set, counts_fit, prices_fit, unused_prices, floors_fit, from_floors, unused_floors, unused_places, unused_bits, reported_fit, others_empty, rounds_fit, close_fits, well_formed}
use Rattle.live.specs.Tables.{bad_tables, open_tables, narrowed_tables}
use Rattle.live.specs.Calls.{open_number, open_above_number, zeros, opened, unopened, opened_by, open_auction, open_above, filled_by, report_number, report, clear_number, end_number, refused, end_answer, end_next, narrowed_by, end_tables}
use Rattle.live.specs.Reading.{read_number, names_of, sheet_of, read_bytes}
use Rattle.live.specs.declared.Auction.{Auction}
use Rattle.live.specs.declared.Phase.{Phase}
use Rattle.live.specs.declared.Phase.TheVariants.{Rising, Falling, Closed}

-- the definitions that the cases compute with
computing : Unit {0}
unfolding amount wants nth bidders crowded in_excess in_positive_excess excess_demand positive_excess_demand excess_supply above_floors all_below any_below count bit is_set has set_of each any size largest_below largest sum price_sum first bad_items bad_live_bidders bad_length any_over any_under bad_floors tabulate places reports place has_reported missing is_empty beyond unfit reports_of items_above rising_set falling_set counts_fit prices_fit unused_prices floors_fit from_floors unused_floors unused_places unused_bits reported_fit others_empty rounds_fit close_fits well_formed bad_tables open_number open_above_number zeros opened unopened opened_by open_auction open_above filled_by report_number report clear_number end_number end_answer end_next narrowed_by end_tables lowest option holders is_assignment fits some_list choose assignment joined amounts_line closing_sheet closing_length written_to read_number names_of sheet_of read_bytes
computing = tt

-- number 11 lets the first record pass, and turns the second down
pub record Tells (sound damaged : Auction) : Type 0 where
  pub passes : well_formed sound ≡ true
  pub refuses : well_formed damaged ≡ false

-- one clause of it does
pub record TellsBy (clause : Auction → Bool) (sound damaged : Auction) : Type 0 where
  pub passes : clause sound ≡ true
  pub refuses : clause damaged ≡ false

-- ---- the records: two items at 5 and 0, floors of 0 and three bidders, unless a case says otherwise

-- items, bidders, prices, floors, the reports' item sets, who says null, who has reported, phase, rounds raised and lowered
abbrev pub holds : ℕ → ℕ → List ℕ → List ℕ → List ℕ → ℕ → ℕ → Phase → ℕ → ℕ → Auction
holds m n p floors sets nulls reported ph ups downs =
    record {
      items = m;
      bidders = n;
      prices = places 32 p;
      floors = places 32 floors;
      sets = places 64 sets;
      nulls = nulls;
      reported = reported;
      phase = ph;
      raised = ups;
      lowered = downs;
    }

-- in the first round, with so many items and bidders
abbrev pub counting : ℕ → ℕ → Auction
counting m n = holds m n [] [] [] 0 0 Rising 0 0

-- with these prices
abbrev pub priced : List ℕ → Auction
priced p = holds 2 3 p [] [] 0 0 Rising 0 0

-- with these prices and floors
abbrev pub floored : List ℕ → List ℕ → Auction
floored p floors = holds 2 3 p floors [] 0 0 Rising 0 0

-- with these reports
abbrev pub saying : List ℕ → ℕ → ℕ → Auction
saying sets nulls reported = holds 2 3 (5 ∷ []) [] sets nulls reported Rising 0 0

-- with these rounds
abbrev pub rounds : Phase → ℕ → ℕ → Auction
rounds ph ups downs = holds 2 3 (5 ∷ []) [] [] 0 0 ph ups downs

-- rising, at 5 and 1 over these floors, with so many rounds raised
abbrev pub raised-over : List ℕ → ℕ → Auction
raised-over floors ups = holds 2 3 (5 ∷ 1 ∷ []) floors [] 0 0 Rising ups 0

-- closed, one item at this price and two bidders with these reports, after these rounds
abbrev pub closing : List ℕ → List ℕ → ℕ → ℕ → ℕ → ℕ → Auction
closing p sets nulls reported ups downs = holds 1 2 p [] sets nulls reported Closed ups downs

-- ---- a count is outside 1 or 2

pub items-low : Tells (counting 1 1) (counting 0 1)
unfolding computing
items-low = record { passes = refl; refuses = refl }

pub items-high : Tells (counting 32 40) (counting 33 40)
unfolding computing
items-high = record { passes = refl; refuses = refl }

pub bidders-low : Tells (counting 32 1) (counting 32 0)
unfolding computing
bidders-low = record { passes = refl; refuses = refl }

pub bidders-high : Tells (counting 1 40) (counting 1 41)
unfolding computing
bidders-high = record { passes = refl; refuses = refl }

-- ---- a price exceeds 4,095

pub price-above : Tells (priced (0 ∷ 4095 ∷ [])) (priced (0 ∷ 4096 ∷ []))
unfolding computing
price-above = record { passes = refl; refuses = refl }

-- ---- a floor exceeds 4,095

pub floor-above : Tells (floored (0 ∷ 4095 ∷ []) (0 ∷ 4095 ∷ [])) (floored (0 ∷ 4095 ∷ []) (0 ∷ 4096 ∷ []))
unfolding computing
floor-above = record { passes = refl; refuses = refl }

pub floor-limit : TellsBy floors_fit (floored (0 ∷ 4095 ∷ []) (0 ∷ 4095 ∷ [])) (floored (0 ∷ 4095 ∷ []) (0 ∷ 4096 ∷ []))
unfolding computing
floor-limit = record { passes = refl; refuses = refl }

-- ---- a price is below its floor: each item's price is held against its own

pub below_floor : Tells (floored (5 ∷ 3 ∷ []) (1 ∷ 3 ∷ [])) (floored (5 ∷ 2 ∷ []) (1 ∷ 3 ∷ []))
unfolding computing
below_floor = record { passes = refl; refuses = refl }

-- item 32 stands at 1 over a floor of 1, or at 0 below it
pub below-last-floor : Tells (holds 32 3 (replicate 32 1) (set (replicate 32 0) 31 1) [] 0 0 Rising 0 0) (holds 32 3 (replicate 31 1) (set (replicate 32 0) 31 1) [] 0 0 Rising 0 0)
unfolding computing
below-last-floor = record { passes = refl; refuses = refl }

-- ---- an unused place or bit is not zero: the first and the last of the unused prices and floors, of the unused places, of those who say null and of those who
-- reported

pub price-past : Tells (priced (5 ∷ 1 ∷ [])) (priced (5 ∷ 1 ∷ 1 ∷ []))
unfolding computing
price-past = record { passes = refl; refuses = refl }

pub price-last : Tells (holds 32 3 (replicate 32 1) [] [] 0 0 Rising 0 0) (holds 31 3 (replicate 32 1) [] [] 0 0 Rising 0 0)
unfolding computing
price-last = record { passes = refl; refuses = refl }

pub floor-past : Tells (floored (5 ∷ 1 ∷ []) (5 ∷ 1 ∷ [])) (floored (5 ∷ 1 ∷ []) (5 ∷ 1 ∷ 1 ∷ []))
unfolding computing
floor-past = record { passes = refl; refuses = refl }

pub floor-first : TellsBy unused_floors (floored (5 ∷ 1 ∷ []) (5 ∷ 1 ∷ [])) (floored (5 ∷ 1 ∷ []) (5 ∷ 1 ∷ 1 ∷ []))
unfolding computing
floor-first = record { passes = refl; refuses = refl }

pub floor-last : TellsBy unused_floors (holds 32 3 [] (replicate 32 1) [] 0 0 Rising 0 0) (holds 31 3 [] (replicate 32 1) [] 0 0 Rising 0 0)
unfolding computing
floor-last = record { passes = refl; refuses = refl }

pub set_past : Tells (saying (0 ∷ 0 ∷ 2 ∷ []) 0 4) (saying (0 ∷ 0 ∷ 2 ∷ 2 ∷ []) 0 4)
unfolding computing
set_past = record { passes = refl; refuses = refl }

pub null-past : Tells (saying [] 4 4) (saying [] 12 4)
unfolding computing
null-past = record { passes = refl; refuses = refl }

pub reported-past : Tells (saying [] 4 4) (saying [] 4 12)
unfolding computing
reported-past = record { passes = refl; refuses = refl }

-- bidder 40's report of item 32 beside null: place 40 and its bits are used by 40 bidders, and unused by 39
pub last-used : Tells (holds 32 40 [] [] (set (replicate 64 0) 39 2147483648) 549755813888 549755813888 Rising 0 0) (holds 32 39 [] [] (set (replicate 64 0) 39 2147483648) 549755813888 549755813888 Rising 0 0)
unfolding computing
last-used = record { passes = refl; refuses = refl }

-- places 41 to 64 are unused by the most bidders too: an item in the first of them and in the last, and the last bit of who says null and of who has reported
pub set-41 : Tells (counting 32 40) (holds 32 40 [] [] (set (replicate 64 0) 40 1) 0 0 Rising 0 0)
unfolding computing
set-41 = record { passes = refl; refuses = refl }

pub set-64 : Tells (counting 32 40) (holds 32 40 [] [] (set (replicate 64 0) 63 1) 0 0 Rising 0 0)
unfolding computing
set-64 = record { passes = refl; refuses = refl }

pub null-64 : Tells (counting 32 40) (holds 32 40 [] [] [] 9223372036854775808 0 Rising 0 0)
unfolding computing
null-64 = record { passes = refl; refuses = refl }

pub reported-64 : Tells (counting 32 40) (holds 32 40 [] [] [] 0 9223372036854775808 Rising 0 0)
unfolding computing
reported-64 = record { passes = refl; refuses = refl }

-- ---- the report of a bidder who has reported is one that 8 refuses: empty, or with an item beyond the count

pub reported-empty : Tells (saying (1 ∷ []) 0 1) (saying (0 ∷ []) 0 1)
unfolding computing
reported-empty = record { passes = refl; refuses = refl }

pub reported-beyond : Tells (saying (3 ∷ []) 0 1) (saying (7 ∷ []) 0 1)
unfolding computing
reported-beyond = record { passes = refl; refuses = refl }

-- ---- that of one who has not is not empty

pub unreported-set : Tells (saying (1 ∷ []) 0 1) (saying (1 ∷ []) 0 0)
unfolding computing
unreported-set = record { passes = refl; refuses = refl }

pub unreported-null : Tells (saying [] 1 1) (saying [] 1 0)
unfolding computing
unreported-null = record { passes = refl; refuses = refl }

-- ---- while rising, any round was lowered, or the rounds raised exceed the sum of prices less floors

pub rising-lowered : Tells (rounds Rising 0 0) (rounds Rising 0 1)
unfolding computing
rising-lowered = record { passes = refl; refuses = refl }

pub rising-raised : Tells (rounds Rising 5 0) (rounds Rising 6 0)
unfolding computing
rising-raised = record { passes = refl; refuses = refl }

pub rising-floors : Tells (raised-over (2 ∷ 1 ∷ []) 3) (raised-over (2 ∷ 1 ∷ []) 4)
unfolding computing
rising-floors = record { passes = refl; refuses = refl }

-- on the floors no round was raised
pub rising-on-floors : Tells (raised-over (5 ∷ 1 ∷ []) 0) (raised-over (5 ∷ 1 ∷ []) 1)
unfolding computing
rising-on-floors = record { passes = refl; refuses = refl }

-- the largest count that the record can hold: with the sum of floors it is more than 32 bits hold
pub rising-most : Tells (raised-over (2 ∷ 1 ∷ []) 3) (raised-over (2 ∷ 1 ∷ []) 4294967295)
unfolding computing
rising-most = record { passes = refl; refuses = refl }

-- ---- while falling or closed, rounds raised, or the sum of prices plus rounds lowered, exceed 4,095 × items

pub falling-raised : Tells (rounds Falling 8190 0) (rounds Falling 8191 0)
unfolding computing
falling-raised = record { passes = refl; refuses = refl }

pub falling-lowered : Tells (rounds Falling 0 8185) (rounds Falling 0 8186)
unfolding computing
falling-lowered = record { passes = refl; refuses = refl }

-- the largest count that the record can hold: with the sum of prices it is more than 32 bits hold
pub falling-most : Tells (rounds Falling 8190 8185) (rounds Falling 8190 4294967295)
unfolding computing
falling-most = record { passes = refl; refuses = refl }

-- closed, both like the item, at 5, and null equally
pub closed-raised : Tells (closing (5 ∷ []) (1 ∷ 1 ∷ []) 3 3 4095 0) (closing (5 ∷ []) (1 ∷ 1 ∷ []) 3 3 4096 0)
unfolding computing
closed-raised = record { passes = refl; refuses = refl }

pub closed-lowered : Tells (closing (5 ∷ []) (1 ∷ 1 ∷ []) 3 3 0 4090) (closing (5 ∷ []) (1 ∷ 1 ∷ []) 3 3 0 4091)
unfolding computing
closed-lowered = record { passes = refl; refuses = refl }

-- ---- if closed, a report is missing or a set is not empty

-- bidder 2 has not reported; while falling that is no fault
pub closed-missing : Tells (holds 1 2 [] [] (1 ∷ []) 0 1 Falling 0 0) (holds 1 2 [] [] (1 ∷ []) 0 1 Closed 0 0)
unfolding computing
closed-missing = record { passes = refl; refuses = refl }

-- both want the item alone, which stands at 0: it would rise, and does not where one of them likes null as well
pub closed-rising : Tells (closing [] (1 ∷ 1 ∷ []) 2 3 0 0) (closing [] (1 ∷ 1 ∷ []) 0 3 0 0)
unfolding computing
closed-rising = record { passes = refl; refuses = refl }

-- nobody wants the item: at 1 it would fall, at 0 it does not
pub closed-falling : Tells (closing [] [] 3 3 0 0) (closing (1 ∷ []) [] 3 3 0 0)
unfolding computing
closed-falling = record { passes = refl; refuses = refl }

-- at 1 over a floor of 1 it does not fall either, and over a floor of 0 it would
pub closed-on-floor : Tells (holds 1 2 (1 ∷ []) (1 ∷ []) [] 3 3 Closed 0 0) (holds 1 2 (1 ∷ []) [] [] 3 3 Closed 0 0)
unfolding computing
closed-on-floor = record { passes = refl; refuses = refl }

-- ---- openings with floors: 1, 2, 3 (starting prices, floors, tables), 4, 18

-- so many numbers of tables
abbrev pub lent : ℕ → List ℤ
lent n = replicate n (pos 0)

-- two items and a bidder with these starting prices and floors
abbrev pub opening : List ℕ → List ℕ → ℕ
opening start floors = open_above_number 2 1 start floors (lent 1089)

-- a starting price on its floor, and one below it; a floor above 4,095
pub on-floor : opening (5 ∷ 4 ∷ []) (3 ∷ 4 ∷ []) ≡ 0
unfolding computing
on-floor = refl

pub start-below-floor : opening (5 ∷ 3 ∷ []) (3 ∷ 4 ∷ []) ≡ 18
unfolding computing
start-below-floor = refl

pub highest-floor : opening (5 ∷ 4095 ∷ []) (3 ∷ 4095 ∷ []) ≡ 0
unfolding computing
highest-floor = refl

pub floor-too-high : opening (5 ∷ 4095 ∷ []) (3 ∷ 4096 ∷ []) ≡ 18
unfolding computing
floor-too-high = refl

-- 4 comes before 18
pub four-first : opening (5 ∷ 4096 ∷ []) (3 ∷ 4097 ∷ []) ≡ 4
unfolding computing
four-first = refl

-- a floor or a starting price is missing, or there is one too many: 3, and 3 comes before 4 and 18
pub floors-short : opening (5 ∷ 4096 ∷ []) (6 ∷ []) ≡ 3
unfolding computing
floors-short = refl

pub floors-long : opening (5 ∷ 4096 ∷ []) (6 ∷ 0 ∷ 0 ∷ []) ≡ 3
unfolding computing
floors-long = refl

pub start-short : opening (4096 ∷ []) (4097 ∷ 0 ∷ []) ≡ 3
unfolding computing
start-short = refl

-- before that 1, and then 2, where nothing fits
pub counts-first : (open_above_number 0 0 (1 ∷ []) [] (lent 1) ≡ 1) × (open_above_number 33 41 [] [] [] ≡ 1) × (open_above_number 1 0 [] [] (lent 1) ≡ 2) × (open_above_number 32 41 [] [] [] ≡ 2)
unfolding computing
counts-first = (refl, refl, refl, refl)

-- 40 bidders are not turned down by 2, with floors and without, and 41 are
pub forty : (open_above_number 32 40 [] [] [] ≡ 3) × (open_number 32 40 [] [] ≡ 3) × (open_number 32 41 [] [] ≡ 2)
unfolding computing
forty = (refl, refl, refl)

-- the record holds the starting prices and the floors
pub opens-above : open_above 2 1 (5 ∷ 4 ∷ []) (3 ∷ 4 ∷ []) (lent 1089) ≡ record { number = 0; next = holds 2 1 (5 ∷ 4 ∷ []) (3 ∷ 4 ∷ []) [] 0 0 Rising 0 0 }
unfolding computing
opens-above = refl

-- beside a number the record is of zeros
pub opens_not : open_above 2 1 (5 ∷ 3 ∷ []) (3 ∷ 4 ∷ []) (lent 1089) ≡ record { number = 18; next = holds 0 0 [] [] [] 0 0 Rising 0 0 }
unfolding computing
opens_not = refl

-- ---- openings without floors: 1, 2, 3 (starting prices, tables), 4

pub without_floors : (open_number 33 0 [] [] ≡ 1) × (open_number 2 41 [] [] ≡ 2) × (open_number 2 1 (4096 ∷ []) (lent 1089) ≡ 3) × (open_number 2 1 (5 ∷ 4096 ∷ []) (lent 1089) ≡ 4) × (open_number 2 1 (5 ∷ 4095 ∷ []) (lent 1089) ≡ 0)
unfolding computing
without_floors = (refl, refl, refl, refl, refl)

-- one number of the tables is missing: 3, and before 4
pub tables-without-floors : (open_number 2 2 (5 ∷ 4 ∷ []) (lent 2177) ≡ 3) × (open_number 2 2 (5 ∷ 4096 ∷ []) (lent 2177) ≡ 3)
unfolding computing
tables-without-floors = (refl, refl)

-- then the floors of the record are 0
pub opens-without : open_auction 2 1 (5 ∷ 4 ∷ []) (lent 1089) ≡ record { number = 0; next = holds 2 1 (5 ∷ 4 ∷ []) [] [] 0 0 Rising 0 0 }
unfolding computing
opens-without = refl

-- ---- the lent tables: 1,089 numbers for each bidder, else 3

-- example 6, closed: the bidders report items 1 and 2 and null, items 1 and 2, and item 1
abbrev pub closed_six : Auction
closed_six = holds 2 3 (2 ∷ 6 ∷ []) [] (3 ∷ 3 ∷ 1 ∷ []) 1 7 Closed 2 2

abbrev pub item_one : Demand
item_one = record { null = false; items = 1 }

pub tables-exact : open_above_number 2 2 (5 ∷ 4 ∷ []) (3 ∷ 4 ∷ []) (lent 2178) ≡ 0
unfolding computing
tables-exact = refl

-- one number too few, those of one bidder alone, none
pub tables-short : (open_above_number 2 2 (5 ∷ 4 ∷ []) (3 ∷ 4 ∷ []) (lent 2177) ≡ 3) × (open_above_number 2 2 (5 ∷ 4 ∷ []) (3 ∷ 4 ∷ []) (lent 1089) ≡ 3) × (open_above_number 2 2 (5 ∷ 4 ∷ []) (3 ∷ 4 ∷ []) [] ≡ 3)
unfolding computing
tables-short = (refl, refl, refl)

-- one too many
pub tables_long : (open_above_number 2 2 (5 ∷ 4 ∷ []) (3 ∷ 4 ∷ []) (lent 2179) ≡ 3) × (report_number (priced (5 ∷ 1 ∷ [])) (lent 3268) 4 item_one ≡ 3) × (end_number (priced (5 ∷ 1 ∷ [])) (lent 3268) ≡ 3)
unfolding computing
tables_long = (refl, refl, refl)

-- this 3 comes after 1 and 2 (counts-first), and before 4 and 18
pub tables-before-four : (open_above_number 2 1 (5 ∷ 4096 ∷ []) (3 ∷ 4097 ∷ []) (lent 1088) ≡ 3) × (open_above_number 2 1 (5 ∷ 3 ∷ []) (3 ∷ 4 ∷ []) (lent 1088) ≡ 3)
unfolding computing
tables-before-four = (refl, refl)

-- an opening fills the tables, and one that is turned down leaves them as they came
pub fills : filled_by 0 2 1 (lent 1089) ≡ open_tables 2 1
unfolding computing
fills = refl

pub fills-not : filled_by 3 2 1 (lent 7) ≡ lent 7
unfolding computing
fills-not = refl

-- a record that is not well formed is 11, whatever the tables' length: here a price stands past the items
pub eleven-first : (report_number (priced (5 ∷ 1 ∷ 1 ∷ [])) [] 4 item_one ≡ 11) × (end_number (priced (5 ∷ 1 ∷ 1 ∷ [])) [] ≡ 11)
unfolding computing
eleven-first = (refl, refl)

-- else 3 where that is wrong, on a closed record too
pub three-before-twelve : (report_number closed_six (lent 3266) 4 item_one ≡ 3) × (end_number closed_six (lent 3266) ≡ 3)
unfolding computing
three-before-twelve = (refl, refl)

-- a clear takes no tables: 11, 12
pub clears : (clear_number (priced (5 ∷ 1 ∷ 1 ∷ [])) ≡ 11) × (clear_number closed_six ≡ 12) × (clear_number (priced (5 ∷ 1 ∷ [])) ≡ 0)
unfolding computing
clears = (refl, refl, refl)

-- a call that is turned down hands back record and tables as they came
pub report-kept : report closed_six (lent 1) 1 item_one ≡ record { number = 3; next = closed_six }
unfolding computing
report-kept = refl

pub end_kept : (end_answer (priced (5 ∷ 1 ∷ [])) (lent 1) ≡ refused 3) × (end_next (priced (5 ∷ 1 ∷ [])) (lent 1) ≡ priced (5 ∷ 1 ∷ [])) × (end_tables (priced (5 ∷ 1 ∷ [])) (lent 1) ≡ lent 1)
unfolding computing
end_kept = (refl, refl, refl)

-- a move narrows the tables, up or down
pub moves-narrow : (narrowed_by closed_six (lent 3267) (raised 1) ≡ narrowed_tables closed_six (lent 3267)) × (narrowed_by closed_six (lent 3267) (lowered 1) ≡ narrowed_tables closed_six (lent 3267))
unfolding computing
moves-narrow = (refl, refl)

-- a close does not
pub close-keeps : narrowed_by closed_six (lent 3267) closed ≡ lent 3267
unfolding computing
close-keeps = refl

-- ---- reading a close: example 6

-- three lines are 29 bytes: into so many it is read, and into one fewer it is not. A sealed closing sheet, which has the gains too, would be 42
pub read-exactly : (read_number closed_six (replicate 29 7) ≡ 0) × (read_number closed_six (replicate 28 7) ≡ 3)
unfolding computing
read-exactly = (refl, refl)

-- rounds, prices and names are read, and there is no fourth line: bytes past the third stay as they came
pub read-lines : read_bytes closed_six (replicate 42 7) ≡ written_to (replicate 42 7) (closing_sheet 2 3 2 2 (2 ∷ 6 ∷ []) (0 ∷ 2 ∷ 1 ∷ []))
unfolding computing
read-lines = refl

-- and where it is turned down, all do
pub read-not : read_bytes closed_six (replicate 28 7) ≡ replicate 28 7
unfolding computing
read-not = refl
