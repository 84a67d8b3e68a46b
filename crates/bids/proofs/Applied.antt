-- A bidder's line applied to a sheet of two items and three bidders, and the numbers to smaller ones, by computation. The checker takes modules by name, and this one comes first: the first error
-- that a wrong definition meets stands here. Assumes nothing.
use Prim.Native.Nat.{ℕ}
use mathlib.Core.Path.{◌≡◌, refl}
use mathlib.Core.List.{List, [], ◌∷◌}
use lib.ListN.{replicate}
use Rattle.sets.specs.Count.{any_below}
use Rattle.rule.specs.Refusal.{first, bad_items, bad_bidders, bad_length, any_over, any_under, bad_floors, bad_bidder}
use Rattle.bids.specs.Lent.{line_of}
use Rattle.bids.specs.Refusal.{sealed_above_refusal, sealed_refusal}
use Rattle.bids.specs.Line.{has_row, row_shown, row_start, line_refusal, shown, line_shown, line_start}

-- the definitions that the cases compute with
computing : Unit {0}
unfolding any_below first bad_items bad_bidders bad_length any_over any_under bad_floors bad_bidder sealed_above_refusal sealed_refusal line_of has_row row_shown row_start line_refusal shown line_shown line_start
computing = tt

-- the bids of bidders 1, 2 and 3
abbrev six : List ℕ
six = 11 ∷ 12 ∷ 21 ∷ 22 ∷ 31 ∷ 32 ∷ []

-- bidder 2's line, and where it starts
pub second : (line_shown 2 3 2 six ≡ 21 ∷ 22 ∷ []) × (line_start 2 3 2 six ≡ 2)
unfolding computing
second = (refl, refl)

-- there is no bidder 4: a part of length 0, at the front
pub fourth : (line_refusal 2 3 4 six ≡ 7) × (line_shown 2 3 4 six ≡ []) × (line_start 2 3 4 six ≡ 0)
unfolding computing
fourth = (refl, refl, refl)

-- row 2, counted from 0, is the last; there is no row 3
pub last_row : (row_shown 2 2 six ≡ 31 ∷ 32 ∷ []) × (row_start 2 2 six ≡ 4) × (row_shown 2 3 six ≡ []) × (row_start 2 3 six ≡ 0)
unfolding computing
last_row = (refl, refl, refl, refl)

-- ---- what turns a sheet of one item and one bidder down

abbrev refused_by : (start floors bids : List ℕ) → ℕ
refused_by start floors bids = sealed_above_refusal 1 1 start floors bids

-- a starting price of 4,096 with a floor of 4,097 and a bid of 4,096 is 4; a floor of 4,096, and a starting price below its floor, are 18 before a bid is 5
pub four-first : (refused_by (4096 ∷ []) (4097 ∷ []) (4096 ∷ []) ≡ 4) × (refused_by (4095 ∷ []) (4096 ∷ []) (4096 ∷ []) ≡ 18) × (refused_by (1 ∷ []) (2 ∷ []) (4096 ∷ []) ≡ 18)
unfolding computing
four-first = (refl, refl, refl)

-- a starting price, a floor or a bid too many is 3 before that, and a floor at the starting price turns nothing down
pub exact-lengths : (refused_by (4096 ∷ 0 ∷ []) (4097 ∷ []) (4096 ∷ []) ≡ 3) × (refused_by (4096 ∷ []) (0 ∷ 0 ∷ []) (4096 ∷ []) ≡ 3) × (refused_by (4096 ∷ []) (4097 ∷ []) (4096 ∷ 0 ∷ []) ≡ 3)
    × (refused_by (4095 ∷ []) (4095 ∷ []) (1 ∷ []) ≡ 0)
unfolding computing
exact-lengths = (refl, refl, refl, refl)

-- 64 bidders are not turned down by 2, nor is the line of the last of them: 40 is the limit of live auctions alone
pub sixty-four : (sealed_above_refusal 32 64 [] [] [] ≡ 3) × (sealed_refusal 32 64 [] [] ≡ 3)
unfolding computing
sixty-four = (refl, refl)

pub line-64 : (line_refusal 1 64 64 (replicate 64 9) ≡ 0) × (line_refusal 1 65 65 (replicate 65 9) ≡ 2)
unfolding computing
line-64 = (refl, refl)

-- before that 1, and then 2, where nothing fits
pub counts-first : (sealed_above_refusal 0 0 (1 ∷ []) [] [] ≡ 1) × (sealed_above_refusal 33 65 [] [] [] ≡ 1) × (sealed_above_refusal 1 0 [] [] [] ≡ 2) × (sealed_above_refusal 32 65 [] [] [] ≡ 2)
unfolding computing
counts-first = (refl, refl, refl, refl)
