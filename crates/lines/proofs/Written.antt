-- The lines, written one after the other, are the closing sheet; and where it is not written, nothing changes. Assumes nothing.
use Prim.Native.Nat.{ℕ, ◌+◌, ◌*◌, ◌≤◌}
use mathlib.Core.Path.{◌≡◌, refl, sym, ap, ◌∙◌}
use mathlib.Core.Bool.{Bool, true, false, ◌&&◌, cond}
use mathlib.Core.List.{List, ◌++◌}
use native.Mathlib.Omega.{arith}
use lib.Dec.{leb}
use lib.ListN.{length, get_or, length-append}
use lib.Seq.{sets}
use borrow.Author.Tests.{le-leb, leb-true}
use Rattle.sets.proofs.Counting.{and_left, and_right, and_both}
use Rattle.digits.specs.Digits.{hex}
use Rattle.lines.specs.Lines.{newline, joined, amounts_line, closing_sheet, sealed_sheet, closing_length, sealed_length, few_enough, bytes_of, written_to, writes, after_writing, has_room}
use Rattle.lines.proofs.Stores.{sets_then, sets-front}
use Rattle.lines.proofs.Lengths.{rounds-length, line-length, by_lines, closing-length, sealed-length}

-- ---- the counts and the room

pub record FewEnough (m n : ℕ) : Type 0 where
  pub max_items : m ≤ 32
  pub max_bidders : n ≤ 64

pub few-use : (m n : ℕ) → few_enough m n ≡ true → FewEnough m n
unfolding few_enough
few-use m n e = record { max_items = leb-true m 32 (and_left (leb m 32) (leb n 64) e); max_bidders = leb-true n 64 (and_right (leb m 32) (leb n 64) e) }

pub few-make : (m n : ℕ) → m ≤ 32 → n ≤ 64 → few_enough m n ≡ true
unfolding few_enough
few-make m n l k = and_both (leb m 32) (leb n 64) (le-leb m 32 l) (le-leb n 64 k)

-- by the code's tests
pub bytes-by : (m n long : ℕ) (t : Bool) → few_enough m n ≡ t → bytes_of m n long ≡ cond t long 0
unfolding bytes_of
bytes-by m n long t e = ap (λ (x : Bool). cond x long 0) e

pub writes-by : (m n long room : ℕ) (t : Bool) → few_enough m n ≡ t → writes m n long room ≡ t && leb long room
unfolding writes
writes-by m n long room t e = ap (λ (x : Bool). x && leb long room) e

-- other counts are not written, however long their sheet is said to be
writes_bytes : (m n long room : ℕ) → writes m n (bytes_of m n long) room ≡ writes m n long room
unfolding writes bytes_of
writes_bytes m n long room = go (few_enough m n)
  where
    go : (t : Bool) → t && leb (cond t long 0) room ≡ t && leb long room
    go true = refl
    go false = refl

-- so what was asked of the bytes given is what a sheet of that length asks
pub asked : (m n long room given : ℕ) (t u : Bool) → given ≡ bytes_of m n long → t ≡ writes m n given room → t ≡ u → writes m n long room ≡ u
asked m n long room given t u e w is = sym (writes_bytes m n long room) ∙ ap (λ (k : ℕ). writes m n k room) (sym e) ∙ sym w ∙ is

-- where it is written, the counts are such and there is room
pub record Written (m n long room : ℕ) : Type 0 where
  pub counts : FewEnough m n
  pub fits : long ≤ room

pub is-written : (m n long room : ℕ) → writes m n long room ≡ true → Written m n long room
unfolding writes
is-written m n long room e =
    record { counts = few-use m n (and_left (few_enough m n) (leb long room) e); fits = leb-true long room (and_right (few_enough m n) (leb long room) e) }

pub written_is : (m n long room : ℕ) → m ≤ 32 → n ≤ 64 → long ≤ room → writes m n long room ≡ true
written_is m n long room l k f = writes-by m n long room true (few-make m n l k) ∙ le-leb long room f

-- ---- the lent bytes afterwards

module _ (m n : ℕ) (sheet : List ℕ) (long : ℕ) (is : length sheet ≡ long) (out : List ℕ) where
  pub afterwards : (t : Bool) → writes m n long (length out) ≡ t → cond t (written_to out sheet) out ≡ after_writing m n sheet out
  unfolding after_writing
  afterwards t e = ap (λ (x : Bool). cond x (written_to out sheet) out) (sym e ∙ sym (ap (λ (k : ℕ). writes m n k (length out)) is))

module _ (m n ups downs : ℕ) (prices options out : List ℕ) where
  abbrev three : List ℕ
  three = closing_sheet m n ups downs prices options

  -- out with the first line is a, with the first two b, with all three c
  pub three-lines : (a b c : List ℕ) → writes m n (closing_length m n) (length out) ≡ true
      → a ≡ sets out 0 (hex 6 ups ++ hex 6 downs ++ newline)
      → b ≡ sets a 13 (amounts_line m prices)
      → c ≡ sets b (14 + 4 * m) (joined n (λ x. hex 2 (get_or options x 0)) ++ newline)
      → c ≡ after_writing m n (closing_sheet m n ups downs prices options) out
  unfolding amounts_line
  three-lines a b c w e f g =
      let first : List ℕ = hex 6 ups ++ hex 6 downs ++ newline in
      let second : List ℕ = joined m (λ k. hex 4 (get_or prices k 0)) ++ newline in
      let third : List ℕ = joined n (λ x. hex 2 (get_or options x 0)) ++ newline in
      let i : 0 + length first ≡ 13 = omega (arith, rounds-length ups downs) in
      let j : 0 + length (first ++ second) ≡ 14 + 4 * m =
      omega (arith, length-append first second, rounds-length ups downs, line-length m 4 prices) in
      let room : length three ≤ length out = omega (arith, closing-length m n ups downs prices options, (is-written m n (closing_length m n) (length out) w).fits) in
      let two : b ≡ sets out 0 (first ++ second) = f ∙ ap (λ (r : List ℕ). sets r 13 second) e ∙ sets_then out 0 13 first second i in
      g
      ∙ ap (λ (r : List ℕ). sets r (14 + 4 * m) third) two
      ∙ sets_then out 0 (14 + 4 * m) (first ++ second) third j
      ∙ ap (λ (vs : List ℕ). sets out 0 vs) (sym (by_lines m n ups downs prices options))
      ∙ sets-front out three room
      ∙ afterwards m n three (closing_length m n) (closing-length m n ups downs prices options) out true w

  -- where there is room for four lines there is room for three
  pub room-for-three : writes m n (sealed_length m n) (length out) ≡ true → writes m n (closing_length m n) (length out) ≡ true
  unfolding sealed_length closing_length
  room-for-three w =
      let is = is-written m n (sealed_length m n) (length out) w in
      written_is m n (closing_length m n) (length out) is.counts.max_items is.counts.max_bidders (omega (arith, is.fits))

  -- out with the three lines is a, with the fourth b
  pub four-lines : (gains a b : List ℕ) → writes m n (sealed_length m n) (length out) ≡ true
      → a ≡ after_writing m n (closing_sheet m n ups downs prices options) out
      → b ≡ sets a (15 + 4 * m + 2 * n) (amounts_line n gains)
      → b ≡ after_writing m n (sealed_sheet m n ups downs prices options gains) out
  unfolding sealed_sheet closing_length
  four-lines gains a b w e f =
      let w₃ = room-for-three w in
      let long : length three ≡ closing_length m n = closing-length m n ups downs prices options in
      let j : 0 + length three ≡ 15 + 4 * m + 2 * n = omega (arith, long) in
      let room : length (sealed_sheet m n ups downs prices options gains) ≤ length out =
      omega (arith, sealed-length m n ups downs prices options gains, (is-written m n (sealed_length m n) (length out) w).fits) in
      let front : a ≡ sets out 0 three =
      e ∙ sym (afterwards m n three (closing_length m n) long out true w₃) ∙ sym (sets-front out three (omega (arith, long, (is-written m n (closing_length m n) (length out) w₃).fits))) in
      f
      ∙ ap (λ (r : List ℕ). sets r (15 + 4 * m + 2 * n) (amounts_line n gains)) front
      ∙ sets_then out 0 (15 + 4 * m + 2 * n) three (amounts_line n gains) j
      ∙ sets-front out (sealed_sheet m n ups downs prices options gains) room
      ∙ afterwards m n (sealed_sheet m n ups downs prices options gains) (sealed_length m n) (sealed-length m n ups downs prices options gains) out true w

-- ---- the tests on the room of a line of prices

pub room-priced : (m at room : ℕ) → m ≤ 32 → at + (4 * m + 1) ≤ room → has_room m at room ≡ true
unfolding has_room
room-priced m at room l s = simp (le-leb m 32 l, le-leb (at + (4 * m + 1)) room s)
