-- The closing sheet applied to example 6, by computation from the definitions alone: a wrong definition of a line makes a case false. The checker takes modules by
-- name, and this one comes first: the first error that a wrong definition meets stands here. Assumes nothing.
use Prim.Native.Nat.{ℕ}
use mathlib.Core.Path.{◌≡◌, refl}
use mathlib.Core.Bool.{true, false}
use mathlib.Core.List.{List, [], ◌∷◌, ◌++◌}
use lib.ListN.{length, replicate}
use Rattle.digits.specs.Digits.{digit, hex}
use Rattle.lines.specs.Lines.{newline, joined, amounts_line, closing_sheet, sealed_sheet, closing_length, sealed_length, few_enough, bytes_of, written_to, writes, after_writing}

-- the definitions that the cases compute with
computing : Unit {0}
unfolding digit hex newline joined amounts_line closing_sheet sealed_sheet closing_length sealed_length few_enough bytes_of written_to writes after_writing
computing = tt

-- two rounds raised and two lowered, prices 2 and 6, options 0, 2 and 1: the lines 000002000002, 00020006 and 000201
abbrev three : List ℕ
three =
    48 ∷ 48 ∷ 48 ∷ 48 ∷ 48 ∷ 50 ∷ 48 ∷ 48 ∷ 48 ∷ 48 ∷ 48 ∷ 50 ∷ 10 ∷ 48 ∷ 48 ∷ 48 ∷ 50 ∷ 48 ∷ 48 ∷ 48 ∷ 54 ∷ 10 ∷ 48 ∷ 48 ∷ 48 ∷ 50 ∷ 48 ∷ 49 ∷ 10 ∷ []

-- gains 0, 1 and 4: the line 000000010004
abbrev fourth : List ℕ
fourth = 48 ∷ 48 ∷ 48 ∷ 48 ∷ 48 ∷ 48 ∷ 48 ∷ 49 ∷ 48 ∷ 48 ∷ 48 ∷ 52 ∷ 10 ∷ []

pub three-lines : closing_sheet 2 3 2 2 (2 ∷ 6 ∷ []) (0 ∷ 2 ∷ 1 ∷ []) ≡ three
unfolding computing
three-lines = refl

pub four-lines : sealed_sheet 2 3 2 2 (2 ∷ 6 ∷ []) (0 ∷ 2 ∷ 1 ∷ []) (0 ∷ 1 ∷ 4 ∷ []) ≡ three ++ fourth
unfolding computing
four-lines = refl

-- 29 bytes and 42, and at the most 271 and 528
pub lengths : (closing_length 2 3 ≡ length three) × (sealed_length 2 3 ≡ length (three ++ fourth)) × (closing_length 32 64 ≡ 271) × (sealed_length 32 64 ≡ 528)
unfolding computing
lengths = (refl, refl, refl, refl)

-- of more than 32 items or 64 bidders no byte is written
pub bytes-of : (bytes_of 32 64 528 ≡ 528) × (bytes_of 33 64 532 ≡ 0) × (bytes_of 32 65 534 ≡ 0)
unfolding computing
bytes-of = (refl, refl, refl)

-- what just fits is written, and what is one byte longer is not
pub room : (writes 2 3 42 42 ≡ true) × (writes 2 3 42 41 ≡ false) × (writes 33 3 0 42 ≡ false) × (writes 2 65 0 42 ≡ false)
unfolding computing
room = (refl, refl, refl, refl)

-- bytes past the sheet stay as they came, and all do where it is not written
pub afterwards : (after_writing 2 3 (1 ∷ 2 ∷ []) (replicate 3 7) ≡ 1 ∷ 2 ∷ 7 ∷ []) × (after_writing 2 3 (1 ∷ 2 ∷ []) (7 ∷ []) ≡ 7 ∷ [])
    × (after_writing 33 3 (1 ∷ 2 ∷ []) (replicate 3 7) ≡ replicate 3 7)
unfolding computing
afterwards = (refl, refl, refl)
