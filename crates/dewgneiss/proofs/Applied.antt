-- The numbers of the calls into lent lists, by computation. The checker takes modules by name, and this one comes first: the first error
-- that a wrong definition meets stands here. Assumes nothing.
use Prim.Native.Nat.{ℕ}
use mathlib.Core.Path.{◌≡◌, refl}
use mathlib.Core.Bool.{true, false}
use mathlib.Core.List.{List, [], ◌∷◌}
use lib.IntN.{ℤ}
use Rattle.sets.specs.Count.{to_nat, any_below}
use Rattle.sets.specs.Lists.{places}
use Rattle.rule.specs.Refusal.{first, bad_items, bad_bidders, bad_length, any_over, any_under, bad_floors}
use Rattle.reports.specs.Report.{saying}
use Rattle.differences.specs.Lent.{part_fits, part_explains, part_narrowed}
use Rattle.dewgneiss.specs.Lent.{unfit, lent_refusal, lent_above_refusal}
use Rattle.dewgneiss.specs.Tables.{is_lent, fill_answer, fill_part, fits_answer, is_call, said_by, explains_answer, narrow_part}

-- the definitions that the cases compute with
computing : Unit {0}
unfolding any_below first bad_items bad_bidders bad_length any_over any_under bad_floors unfit lent_refusal lent_above_refusal
computing = tt

-- one number, and two
abbrev one : ℕ → List ℕ
one x = x ∷ []

abbrev two : List ℕ
two = 0 ∷ 0 ∷ []

-- one item and one bidder, with this starting price and bid, into lists that fit: without floors, and with a floor
abbrev pub plain : (start bid : ℕ) → ℕ
plain start bid = lent_refusal 1 1 (one start) (one bid) two (one 0) (one 0) (one 0)

abbrev pub above : (start floor bid : ℕ) → ℕ
above start floor bid = lent_above_refusal 1 1 (one start) (one floor) (one bid) two (one 0) (one 0) (one 0)

-- 4, 18, 5, each before those behind it, and none
pub in-turn : (above 4096 4097 4096 ≡ 4) × (above 1 2 4096 ≡ 18) × (above 2 2 4096 ≡ 5) × (above 2 2 4095 ≡ 0)
unfolding computing
in-turn = (refl, refl, refl, refl)

pub in-turn-plain : (plain 4096 4096 ≡ 4) × (plain 4095 4096 ≡ 5) × (plain 4095 4095 ≡ 0)
unfolding computing
in-turn-plain = (refl, refl, refl)

-- before them 3: starting prices, floors, bids, rounds, prices, options or gains of another length, for one item and two bidders
abbrev pub lengths : (start floors bids rounds prices options gains : List ℕ) → ℕ
lengths = lent_above_refusal 1 2

pub each-length : (lengths (one 4096) (one 4097) two two (one 0) two two ≡ 4) × (lengths two (one 4097) two two (one 0) two two ≡ 3) × (lengths (one 4096) two two two (one 0) two two ≡ 3)
    × (lengths (one 4096) (one 4097) (one 0) two (one 0) two two ≡ 3) × (lengths (one 4096) (one 4097) two (one 0) (one 0) two two ≡ 3)
    × (lengths (one 4096) (one 4097) two two two two two ≡ 3) × (lengths (one 4096) (one 4097) two two (one 0) (one 0) two ≡ 3)
    × (lengths (one 4096) (one 4097) two two (one 0) two (one 0) ≡ 3)
unfolding computing
each-length = (refl, refl, refl, refl, refl, refl, refl, refl)

pub each-length-plain : (lent_refusal 1 2 (one 4096) two two (one 0) two two ≡ 4) × (lent_refusal 1 2 two two two (one 0) two two ≡ 3)
    × (lent_refusal 1 2 (one 4096) (one 0) two (one 0) two two ≡ 3) × (lent_refusal 1 2 (one 4096) two (one 0) (one 0) two two ≡ 3)
    × (lent_refusal 1 2 (one 4096) two two (one 0) two (one 0) ≡ 3)
unfolding computing
each-length-plain = (refl, refl, refl, refl, refl)

-- and before these 1 and 2, where nothing fits
pub counts : (lent_above_refusal 0 0 (one 0) [] [] [] [] [] [] ≡ 1) × (lent_above_refusal 1 0 [] [] (one 0) [] [] [] [] ≡ 2)
    × (lent_refusal 33 65 [] [] [] [] [] [] ≡ 1) × (lent_refusal 32 65 [] [] [] [] [] [] ≡ 2)
unfolding computing
counts = (refl, refl, refl, refl)

-- 64 bidders are not too many
pub sixty-four : (lent_above_refusal 32 64 [] [] [] [] [] [] [] ≡ 3) × (lent_refusal 32 64 [] [] [] [] [] [] ≡ 3)
unfolding computing
sixty-four = (refl, refl)

-- ---- tables: the arguments beside a part, which may hold anything; what is asked of it stays shut

asking : Unit {0}
unfolding bad_items bad_length is_lent fill_answer fill_part fits_answer is_call said_by explains_answer narrow_part
asking = tt

-- 0 items and 33 are turned down
pub items-outside : (xs : List ℤ) → (fill_answer 0 xs ≡ 0) × (fill_part 0 xs ≡ xs) × (fill_answer 33 xs ≡ 0) × (fill_part 33 xs ≡ xs) × (fits_answer 0 xs ≡ 0) × (fits_answer 33 xs ≡ 0)
    × (explains_answer 0 xs [] 1 0 ≡ 0) × (narrow_part 0 xs [] 1 0 ≡ xs)
unfolding asking
items-outside xs = (refl, refl, refl, refl, refl, refl, refl, refl)

-- so is a part of another length, in which nothing is filled
pub no_part : (fill_answer 1 [] ≡ 0) × (fill_part 1 [] ≡ [])
unfolding asking
no_part = (refl, refl)

-- so are prices for fewer items and for more
pub prices-apart : (xs : List ℤ) → (explains_answer 2 xs (one 5) 0 1 ≡ 0) × (narrow_part 2 xs (one 5) 0 1 ≡ xs) × (explains_answer 1 xs two 0 1 ≡ 0) × (narrow_part 1 xs two 0 1 ≡ xs)
unfolding asking
prices-apart xs = (refl, refl, refl, refl)

-- so is 2 for null
pub null-apart : (xs : List ℤ) → (explains_answer 1 xs (one 5) 2 1 ≡ 0) × (narrow_part 1 xs (one 5) 2 1 ≡ xs)
unfolding asking
null-apart xs = (refl, refl)

-- 1 says null, and 0 does not
pub null_said : (xs : List ℤ) → (explains_answer 1 xs (one 5) 1 0 ≡ to_nat (part_explains 1 xs (places 32 (one 5)) (saying true 0))) × (narrow_part 1 xs (one 5) 1 0 ≡ part_narrowed 1 xs (places 32 (one 5)) (saying true 0))
    × (explains_answer 1 xs (one 5) 0 1 ≡ to_nat (part_explains 1 xs (places 32 (one 5)) (saying false 1))) × (narrow_part 1 xs (one 5) 0 1 ≡ part_narrowed 1 xs (places 32 (one 5)) (saying false 1))
    × (fits_answer 1 xs ≡ to_nat (part_fits 1 xs))
unfolding asking
null_said xs = (refl, refl, refl, refl, refl)
