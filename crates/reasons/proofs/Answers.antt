-- What an answer is: the sheet of reasons of accepted bytes, which has 31 bytes for each round, or the line of a number. No answer has more than 253,890
-- bytes, and the first 8,390 bytes of an input decide it. Assumes nothing.
use Prim.Native.Nat.{ℕ, suc, ◌*◌, ◌≤◌}
use mathlib.Core.Path.{◌≡◌, sym, ap, ◌∙◌}
use mathlib.Core.List.{List}
use native.Mathlib.Omega.{arith}
use native.Mathlib.Decide.{ℕ_discrete, dec_le}
use lib.ListN.{length, take}
use lib.Seq.{take_all}
use Rattle.rule.specs.Reasons.{round_count}
use Rattle.rule.proofs.Reasons.{count_most}
use Rattle.lines.specs.Lines.{number_line}
use Rattle.lines.proofs.Numbered.{number-long}
use Rattle.auction.specs.Sealed.{Promised}
use Rattle.sheet.specs.Close.{by_number, sheet_refusal}
use Rattle.sheet.specs.Contents.{bid_sheet_refusal}
use Rattle.sheet.specs.Accepted.{sheet_in, sealed_in}
use Rattle.sheet.proofs.Ends.{by-some}
use Rattle.sheet.proofs.Accepted.{promised}
use Rattle.sheet.proofs.Longer.{cut_off}
use Rattle.sheet.proofs.Reading.{same_number}
use Rattle.reasons.specs.Sheets.{reason_sheet, reasons_in, fitting, answer_of}
use Rattle.reasons.proofs.Lines.{sheet-long}
use Rattle.reasons.proofs.Fitting.{fits_whole}

module _ (bytes : List ℕ) where
  -- ---- by the number

  -- accepted bytes are answered by their sheet of reasons
  pub by-sheet : bid_sheet_refusal bytes ≡ 0 → reasons_in bytes ≡ reason_sheet (sheet_in bytes)
  unfolding reasons_in
  by-sheet z = ap (λ (k : ℕ). by_number k (reason_sheet (sheet_in bytes)) (number_line (bid_sheet_refusal bytes))) z

  -- and others by the line of the number that turns them down
  pub by-line : (bid_sheet_refusal bytes ≡ 0 → ⊥) → reasons_in bytes ≡ number_line (bid_sheet_refusal bytes)
  unfolding reasons_in
  by-line ne = by-some (bid_sheet_refusal bytes) ne _ _

  -- accepted bytes are those that closing accepts with room for every closing sheet, so all that is promised of a close holds of their sheet
  pub accepted-promised : bid_sheet_refusal bytes ≡ 0 → Promised (sheet_in bytes) (sealed_in bytes)
  accepted-promised z = promised bytes 528 (sym (same_number bytes 528 (omega arith)) ∙ z)

  -- ---- how long an answer is

  -- 31 bytes for each round
  pub accepted-lines : bid_sheet_refusal bytes ≡ 0 → length (reasons_in bytes) ≡ 31 * round_count (sheet_in bytes)
  accepted-lines z = ap length (by-sheet z) ∙ sheet-long (sheet_in bytes)

  -- of at most 8,190 rounds; a number's line is shorter
  pub longest : length (reasons_in bytes) ≤ 253890
  longest = go (ℕ_discrete (bid_sheet_refusal bytes) 0)
    where
      go : Dec (bid_sheet_refusal bytes ≡ 0) → length (reasons_in bytes) ≤ 253890
      go (yes z) = omega (arith, accepted-lines z, count_most (sheet_in bytes) (accepted-promised z).closing)
      go (no ne) = omega (arith, ap length (by-line ne), number-long (bid_sheet_refusal bytes))

  -- so that many bytes are room for every answer
  pub whole : (room : ℕ) → 253890 ≤ room → answer_of bytes room ≡ reasons_in bytes
  unfolding answer_of
  whole room l = fits_whole room (reasons_in bytes) (omega (arith, longest))

-- ---- an input that is longer than any bid sheet

-- it is answered by the number that closing gives it
numbered : (bytes : List ℕ) (why : ℕ) → sheet_refusal bytes 528 ≡ suc why → reasons_in bytes ≡ number_line (suc why)
numbered bytes why e =
    let f : bid_sheet_refusal bytes ≡ suc why = same_number bytes 528 (omega arith) ∙ e in
    by-line bytes (λ z. omega (arith, f)) ∙ ap number_line f

-- what stands behind byte 8,390 changes no answer
pub same_answer : (bytes : List ℕ) (room k : ℕ) → 8390 ≤ k → answer_of (take k bytes) room ≡ answer_of bytes room
unfolding answer_of
same_answer bytes room k h = ap (fitting room) (go (dec_le (length bytes) k))
  where
    go : Dec (length bytes ≤ k) → reasons_in (take k bytes) ≡ reasons_in bytes
    go (yes l) = ap reasons_in (take_all k bytes l)
    go (no l) =
        let c = cut_off bytes k h (omega arith) in
        numbered (take k bytes) c.0 (c.1 528).0 ∙ sym (numbered bytes c.0 (c.1 528).1)
