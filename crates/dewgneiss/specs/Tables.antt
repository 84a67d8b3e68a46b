-- One bidder's table in a lent part of 1,089 numbers (document 02, #107), by the arguments that Rust or C may give. Assumes nothing: these are definitions.
use Rattle.std.specs.Prelude.{ℕ, Bool, ◌&&◌, not, cond, List, leb, eqb, length, ℤ}
use Rattle.sets.specs.Count.{to_nat}
use Rattle.sets.specs.Lists.{places}
use Rattle.rule.specs.Demand.{Demand}
use Rattle.rule.specs.Refusal.{bad_items, bad_length}
use Rattle.reports.specs.Report.{saying}
use Rattle.differences.specs.Lent.{filled, part_fits, part_explains, part_narrowed}

-- a part for 1 to 32 items: no auction has 0 of them
unfoldable pub is_lent : (m : ℕ) (xs : List ℤ) → Bool
is_lent m xs = not (bad_items m) && eqb (length xs) 1089

-- filled for all bids of 0 to 4,095: 1 where it is, and the part afterwards
unfoldable pub fill_answer : (m : ℕ) (xs : List ℤ) → ℕ
fill_answer m xs = to_nat (is_lent m xs)

unfoldable pub fill_part : (m : ℕ) (xs : List ℤ) → List ℤ
fill_part m xs = cond (is_lent m xs) (filled m xs) xs

-- 1 where 11 does not apply to the table
unfoldable pub fits_answer : (m : ℕ) (xs : List ℤ) → ℕ
fits_answer m xs = to_nat (not (bad_items m) && part_fits m xs)

-- what is asked of a table can be: 1 to 32 items, a price for each, and 0 or 1 for null
unfoldable pub is_call : (m : ℕ) (prices : List ℕ) (null : ℕ) → Bool
is_call m prices null = not (bad_items m) && not (bad_length prices m) && leb null 1

-- the report: 1 says null
unfoldable pub said_by : (null set : ℕ) → Demand
said_by null set = saying (eqb null 1) set

-- 1 where 19 does not apply; prices that no record holds, a report that 8 refuses and a table that 11 turns down give 0
unfoldable pub explains_answer : (m : ℕ) (xs : List ℤ) (prices : List ℕ) (null set : ℕ) → ℕ
explains_answer m xs prices null set = to_nat (is_call m prices null && part_explains m xs (places 32 prices) (said_by null set))

-- the part narrowed where the answer is 1, and as it came where it is 0
unfoldable pub narrow_part : (m : ℕ) (xs : List ℤ) (prices : List ℕ) (null set : ℕ) → List ℤ
narrow_part m xs prices null set = cond (is_call m prices null) (part_narrowed m xs (places 32 prices) (said_by null set)) xs
