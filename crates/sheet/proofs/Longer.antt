-- An input longer than any bid sheet is judged by its first four bytes: what stands behind byte 8,390 changes no answer. Assumes nothing.
use Prim.Native.Nat.{ℕ, zero, suc, ◌+◌, ◌*◌, ◌≤◌, ◌<◌}
use mathlib.Core.Path.{◌≡◌, refl, sym, ap, ap₂, ◌∙◌}
use mathlib.Core.Bool.{Bool, true, false, ◌||◌, cond}
use mathlib.Core.List.{List, []}
use Rattle.std.specs.Prelude.{Option, None, Some, unwrap_or, slice_get}
use native.Mathlib.Omega.{arith}
use native.Mathlib.Nat.{mul-le-mul}
use native.Mathlib.Decide.{dec_le}
use lib.Dec.{ltb}
use lib.ListN.{length, get_or, take}
use lib.Seq.{take_all, length-take-le, get_or-take}
use Rattle.rule.specs.Refusal.{Refusal, first, bad_items, bad_bidders}
use Rattle.rule.proofs.Refusal.{given, in-range}
use Rattle.digits.specs.Reading.{◌>>=◌, digit_value, digit_at, number_at}
use Rattle.digits.proofs.Stands.{there}
use Rattle.lines.specs.Lines.{number_line}
use Rattle.sheet.specs.BidSheet.{BidSheet, items_in, bidders_in, read_sheet}
use Rattle.sheet.specs.Close.{is_none, items_of, bidders_of, bid_sheet_of, sheet_refusal, closing_of, by_number, answer_of}
use Rattle.sheet.proofs.Order.{four, items_are, bidders_are}
use Rattle.sheet.proofs.ReadWritten.{parts_are, written_read, sheet-length}

-- the same digits, the same number
number_same : (xs ys : List ℕ) (at n : ℕ) → ((k : ℕ) → k < n → digit_at xs (at + k) ≡ digit_at ys (at + k)) → number_at n xs at ≡ number_at n ys at
unfolding number_at
number_same xs ys at zero h = refl
number_same xs ys at (suc n) h =
    ap (λ (o : Option ℕ). o >>= λ x. digit_at xs (at + n) >>= λ d. Some (16 * x + d)) (number_same xs ys at n (λ k l. h k (omega arith)))
    ∙ ap (λ (o : Option ℕ). number_at n ys at >>= λ x. o >>= λ d. Some (16 * x + d)) (h n (omega arith))

front-digit : (bytes : List ℕ) (k j : ℕ) → k ≤ length bytes → j < k → digit_at (take k bytes) j ≡ digit_at bytes j
unfolding digit_at
front-digit bytes k j l h =
    let e : slice_get (take k bytes) j ≡ Some (get_or bytes j 0) =
    there (take k bytes) j (omega (arith, length-take-le k bytes l)) ∙ ap {B = Option ℕ} Some (get_or-take k bytes j 0 h) in
    ap (λ (o : Option ℕ). o >>= digit_value) (e ∙ sym (there bytes j (omega arith)))

front-number : (bytes : List ℕ) (k at n : ℕ) → k ≤ length bytes → at + n ≤ k → number_at n (take k bytes) at ≡ number_at n bytes at
front-number bytes k at n l h = number_same (take k bytes) bytes at n (λ j q. front-digit bytes k (at + j) l (omega arith))

-- ---- the number of a long input, less 1

-- by three tests of its first four bytes
judged : (a b c : Bool) → ℕ
judged true b c = 5
judged false true c = 0
judged false false true = 1
judged false false false = 5

by_tests : (a b c d : Bool) (rest : List Refusal) → (b ≡ false → c ≡ false → d ≡ true) → first (four a b c d rest) ≡ suc (judged a b c)
unfolding first judged
by_tests true b c d rest h = refl
by_tests false true c d rest h = refl
by_tests false false true d rest h = refl
by_tests false false false d rest h = given 6 d rest (h refl refl)

-- by its counts
judged_by : Option ℕ → Option ℕ → ℕ
judged_by m n = judged (is_none m || is_none n) (bad_items (unwrap_or m 0)) (bad_bidders (unwrap_or n 0))

pub most-items : (m : ℕ) → bad_items m ≡ false → m ≤ 32
unfolding bad_items
most-items m e = (in-range 32 m e).1

pub most-bidders : (n : ℕ) → bad_bidders n ≡ false → n ≤ 64
unfolding bad_bidders
most-bidders n e = (in-range 64 n e).1

module _ (bytes : List ℕ) (long : 8390 ≤ length bytes) where
  -- what is read has counts of its own, and is not so long
  no-sheet : bad_items (items_of bytes) ≡ false → bad_bidders (bidders_of bytes) ≡ false → is_none (read_sheet bytes) ≡ true
  no-sheet g h = go (read_sheet bytes) refl
    where
      go : (o : Option BidSheet) → read_sheet bytes ≡ o → is_none o ≡ true
      go None e = refl
      go (Some s) e =
          let p = parts_are bytes s e in
          let same-m : items_of bytes ≡ s.items = items_are bytes s.items p.0 in
          let same-n : bidders_of bytes ≡ s.bidders = bidders_are bytes s.items p.0 s.bidders p.1 in
          let size : length bytes ≡ 5 + 4 * s.items + (4 * s.items + 1) * s.bidders = ap length (written_read bytes s e).1 ∙ sheet-length s in
          let l : 4 * s.items + 1 ≤ 129 = omega (arith, most-items (items_of bytes) g) in
          let k : s.bidders ≤ 64 = omega (arith, most-bidders (bidders_of bytes) h) in
          let most : (4 * s.items + 1) * s.bidders ≤ 129 * 64 = mul-le-mul l k in
          absurd (let z : ⊥ = omega arith in z)

  by-four-bytes : (room : ℕ) → sheet_refusal bytes room ≡ suc (judged_by (items_in bytes) (bidders_in bytes))
  unfolding sheet_refusal items_of bidders_of judged_by
  by-four-bytes room = by_tests _ _ _ (is_none (read_sheet bytes)) _ no-sheet

-- cut off behind that, it gets the same number
pub cut_off : (bytes : List ℕ) (k : ℕ) → 8390 ≤ k → k ≤ length bytes → (why : ℕ) × ((room : ℕ) → (sheet_refusal (take k bytes) room ≡ suc why) × (sheet_refusal bytes room ≡ suc why))
unfolding items_in bidders_in
cut_off bytes k h l =
    let same-m : items_in (take k bytes) ≡ items_in bytes = front-number bytes k 0 2 l (omega arith) in
    let same-n : bidders_in (take k bytes) ≡ bidders_in bytes = front-number bytes k 2 2 l (omega arith) in
    let long : 8390 ≤ length (take k bytes) = omega (arith, length-take-le k bytes l) in (
      judged_by (items_in bytes) (bidders_in bytes),
      λ room. (by-four-bytes (take k bytes) long room ∙ ap₂ (λ (m n : Option ℕ). suc (judged_by m n)) same-m same-n, by-four-bytes bytes (omega arith) room),
    )

-- ---- the answer

numbered : (bytes : List ℕ) (room why : ℕ) → sheet_refusal bytes room ≡ suc why → answer_of bytes room ≡ cond (ltb room 3) [] (number_line (suc why))
unfolding answer_of
numbered bytes room why e = ap (λ (k : ℕ). cond (ltb room 3) [] (by_number k (closing_of (bid_sheet_of bytes)) (number_line k))) e

pub same_answer : (bytes : List ℕ) (room k : ℕ) → 8390 ≤ k → answer_of (take k bytes) room ≡ answer_of bytes room
same_answer bytes room k h = go (dec_le (length bytes) k)
  where
    go : Dec (length bytes ≤ k) → answer_of (take k bytes) room ≡ answer_of bytes room
    go (yes l) = ap (λ (b : List ℕ). answer_of b room) (take_all k bytes l)
    go (no l) =
        let c = cut_off bytes k h (omega arith) in
        numbered (take k bytes) room c.0 (c.1 room).0 ∙ sym (numbered bytes room c.0 (c.1 room).1)
