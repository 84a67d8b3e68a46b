-- The numbers that turn a call down, each under its condition, and the first of them in order: document 01, "Turned down by the input" and "Order"; document 02.
-- Assumes nothing: these are definitions.
use Rattle.std.specs.Prelude.{ℕ, Bool, true, false, ◌||◌, not, List, [], ◌∷◌, ltb, eqb, length, get_or}
use Rattle.sets.specs.Count.{any_below}
use Rattle.sets.specs.Bit.{outside}

-- a number, and the condition under which it is given
pub data Refusal : Type 0 where
  on : (number : ℕ) (applies : Bool) → Refusal

-- the first number whose condition holds, and 0 if none does
unfoldable pub first : List Refusal → ℕ
first [] = 0
first (on n applies ∷ rest) = elim applies [ true ↦ n | false ↦ first rest ]

-- 1: items outside 1 to 32
unfoldable pub bad_items : ℕ → Bool
bad_items m = outside 32 m

-- 2: bidders outside 1 to 64
unfoldable pub bad_bidders : ℕ → Bool
bad_bidders n = outside 64 n

-- the most bidders of a live auction: document 02, #108
abbrev pub most_live_bidders : ℕ
most_live_bidders = 40

-- 2 of an opening, and under 11 of a record: bidders outside 1 to those
unfoldable pub bad_live_bidders : ℕ → Bool
bad_live_bidders n = outside most_live_bidders n

-- 3: a lent length that is not exact for the counts
unfoldable pub bad_length : List ℕ → ℕ → Bool
bad_length xs n = not (eqb (length xs) n)

-- 4, of the starting prices, 5, of the bids, and 18, of the floors: one is above 4,095
unfoldable pub any_over : List ℕ → Bool
any_over xs = any_below (length xs) λ k. ltb 4095 (get_or xs k 0)

-- 18: a starting price is below its floor
unfoldable pub any_under : (prices floors : List ℕ) → Bool
any_under prices floors = any_below (length floors) λ k. ltb (get_or prices k 0) (get_or floors k 0)

-- 18, both halves: a starting price is below its floor, or a floor is above 4,095
unfoldable pub bad_floors : (start floors : List ℕ) → Bool
bad_floors start floors = any_under start floors || any_over floors

-- 7: a bidder's number b outside 1 to the count n
unfoldable pub bad_bidder : ℕ → ℕ → Bool
bad_bidder n b = outside n b
