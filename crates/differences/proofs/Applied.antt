-- The definitions at given numbers. Assumes nothing.
use Prim.Native.Nat.{ℕ, ◌+◌, ◌-◌, ◌*◌}
use mathlib.Core.Path.{◌≡◌, refl}
use mathlib.Core.Bool.{true, false}
use mathlib.Core.List.{List, [], ◌∷◌}
use lib.Dec.{leb}
use lib.IntN.{ℤ, pos, negsuc}
use Rattle.sets.specs.Lists.{tabulate}
use Rattle.sets.specs.Bit.{set_of, each}
use Rattle.sets.specs.Count.{all_below}
use Rattle.rule.specs.Sheet.{amount}
use Rattle.rule.specs.Demand.{surplus_at_least, best, demand}
use Rattle.reports.specs.Report.{saying, same_bool, same_demand}
use Rattle.differences.specs.Table.{entry, meets, greatest_below, is_beyond, is_zero, is_difference, zero_beyond, in_range}
use Rattle.differences.specs.Allowed.{explains}
use Rattle.differences.specs.Lent.{flat, rows_of, part, table_at, flat_all}
use Rattle.differences.specs.Constraint.{upper, lower}

-- ---- a report's constraints: an option of price 5 or 0, a pivot of price 7 or null

-- with null: at most 5 in the report, at most 4 outside, and at most 0 outside at price 0
pub null-upper : (◌≡◌ {A = ℕ} (upper true true 5 0) 4101) × (◌≡◌ {A = ℕ} (upper true false 5 0) 4100) × (◌≡◌ {A = ℕ} (upper true false 0 0) 4096)
unfolding upper
null-upper = (refl, refl, refl)

-- at least 5 in the report, and at least 1 at price 0
pub null-lower : (◌≡◌ {A = ℕ} (lower true true 5 0) 4091) × (◌≡◌ {A = ℕ} (lower true true 0 0) 4095) × (◌≡◌ {A = ℕ} (lower true false 5 0) 8191)
unfolding lower
null-lower = (refl, refl, refl)

-- without null: 2 below the pivot in the report, at least 3 below it outside, and null at least 8 below it
pub item-upper : (◌≡◌ {A = ℕ} (upper false true 5 7) 4094) × (◌≡◌ {A = ℕ} (upper false false 5 7) 4093) × (◌≡◌ {A = ℕ} (upper false false 0 7) 4088)
unfolding upper
item-upper = (refl, refl, refl)

pub item-lower : (◌≡◌ {A = ℕ} (lower false true 5 7) 4098) × (◌≡◌ {A = ℕ} (lower false false 5 7) 8191)
unfolding lower
item-lower = (refl, refl)

-- ---- tables

-- item 1 from 3 to 5
abbrev table : List (List ℤ)
table = (pos 0 ∷ negsuc 2 ∷ []) ∷ (pos 5 ∷ pos 0 ∷ []) ∷ []

pub met : (meets 1 table (2 ∷ []) ≡ false) × (meets 1 table (3 ∷ []) ≡ true) × (meets 1 table (5 ∷ []) ≡ true) × (meets 1 table (6 ∷ []) ≡ false)
unfolding meets entry amount each all_below
met = (refl, refl, refl, refl)

pub greatest : (◌≡◌ {A = ℕ} (greatest_below 6 (λ k. leb k 3)) 3) × (◌≡◌ {A = ℕ} (greatest_below 6 (λ k. false)) 0)
unfolding greatest_below
greatest = (refl, refl)

pub differences : (is_difference (negsuc 4095) ≡ false) × (is_difference (negsuc 4094) ≡ true) × (is_difference (pos 4095) ≡ true) × (is_difference (pos 4096) ≡ false)
unfolding is_difference
differences = (refl, refl, refl, refl)

pub beyond : (is_beyond 2 2 2 ≡ false) × (is_beyond 2 3 0 ≡ true) × (is_beyond 2 0 3 ≡ true)
unfolding is_beyond
beyond = (refl, refl, refl)

pub zeros : (is_zero (pos 0) ≡ true) × (is_zero (pos 1) ≡ false) × (is_zero (negsuc 0) ≡ false)
unfolding is_zero
zeros = (refl, refl, refl)

-- a number other than 0 in the last place: it is beyond 31 items, and of 32 it is one of theirs
abbrev last : List (List ℤ)
last = tabulate 33 (λ i. tabulate 33 (λ j. pos (i * 33 + j - 1087)) 0) 0

pub beyond-last : (zero_beyond 31 last ≡ false) × (zero_beyond 32 last ≡ true)
unfolding zero_beyond is_beyond is_zero entry all_below tabulate
beyond-last = (refl, refl)

-- 4,096 in row 1, column 2: of two items, and not of one
abbrev high : List (List ℤ)
high = [] ∷ (pos 0 ∷ pos 0 ∷ pos 4096 ∷ []) ∷ []

pub ranged : (in_range 1 high ≡ true) × (in_range 2 high ≡ false)
unfolding in_range is_difference entry each all_below
ranged = (refl, refl)

-- ---- a report: null, and two items at their bids of 0 and 3

pub explained : (explains 2 (0 ∷ 3 ∷ []) (saying true 2) (0 ∷ 3 ∷ []) ≡ true) × (explains 2 (0 ∷ 3 ∷ []) (saying true 3) (0 ∷ 3 ∷ []) ≡ false) × (explains 2 (0 ∷ 3 ∷ []) (saying false 2) (0 ∷ 4 ∷ []) ≡ true)
unfolding explains same_demand same_bool demand saying set_of best surplus_at_least each all_below amount
explained = (refl, refl, refl)

-- ---- lent tables

pub joined : flat ((pos 1 ∷ pos 2 ∷ []) ∷ (pos 3 ∷ []) ∷ []) ≡ pos 1 ∷ pos 2 ∷ pos 3 ∷ []
unfolding flat
joined = refl

pub row-place : (entry (rows_of (tabulate 1089 pos 0)) 0 32 ≡ pos 32) × (entry (rows_of (tabulate 1089 pos 0)) 1 0 ≡ pos 33) × (entry (rows_of (tabulate 1089 pos 0)) 2 5 ≡ pos 71)
unfolding entry rows_of tabulate
row-place = (refl, refl, refl)

-- the second bidder's table begins behind 1,089 numbers
pub table-place : (entry (table_at (tabulate 2178 pos 0) 0) 32 32 ≡ pos 1088) × (entry (table_at (tabulate 2178 pos 0) 1) 0 0 ≡ pos 1089)
unfolding table_at part entry rows_of tabulate
table-place = (refl, refl)

pub one-after-other : flat_all 2 (λ k. (pos k ∷ []) ∷ (pos 5 ∷ []) ∷ []) ≡ pos 0 ∷ pos 5 ∷ pos 1 ∷ pos 5 ∷ []
unfolding flat_all flat
one-after-other = refl
