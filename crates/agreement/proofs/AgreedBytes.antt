-- An instance of the agreement with a bid sheet's bytes: those of the sheet `one` of `Agreed`, on which the machine closes. No number turns them down, so that no
-- premise of `reads-sheet` is empty. A read writes the lines that the read there was seen to write, and closing the bytes writes these and the line of gains.
-- Assumes nothing.
use Prim.Native.Nat.{ℕ, ◌≤◌}
use mathlib.Core.Path.{◌≡◌, refl, sym, ap, ap₂, ◌∙◌, subst}
use mathlib.Core.Bool.{false}
use mathlib.Core.List.{List, [], ◌∷◌, ◌++◌}
use lib.Dec.{ltb}
use lib.IntN.{ℤ}
use lib.ListN.{length, replicate}
use Rattle.sets.specs.Count.{any_below}
use Rattle.sets.specs.Lists.{tabulate}
use Rattle.rule.specs.Sheet.{Sheet}
use Rattle.rule.specs.Round.{close}
use Rattle.rule.specs.Gains.{gains_at}
use Rattle.rule.specs.Refusal.{on, first, bad_items, bad_bidders, most_live_bidders, any_over}
use Rattle.digits.specs.Digits.{digit, hex}
use Rattle.digits.specs.Reading.{digit_value, digit_at, number_at}
use Rattle.lines.specs.Lines.{newline, joined, amounts_line, closing_length, sealed_length, written_to}
use Rattle.lines.specs.Reading.{numbers_at, ends_at, line_at}
use Rattle.live.specs.Tables.{bad_tables}
use Rattle.live.specs.Reading.{read_number, read_bytes}
use Rattle.bids.specs.Lent.{line_of, rows_of, sheet_above, sheet_of}
use Rattle.sheet.specs.BidSheet.{items_in, bidders_in, bids_at, read_sheet}
use Rattle.sheet.specs.Close.{items_of, bidders_of, bid_sheet_of, sheet_refusal, by_number, closed_to}
use Rattle.sheet.specs.Accepted.{sheet_in}
use Rattle.agreement.specs.Machine.{begin, three_lines, ran, machine_run}
use Rattle.agreement.specs.Agreement.{live_run}
use Rattle.agreement.specs.Sheets.{gains_line, ReadsSheet}
use Rattle.agreement.proofs.Agreed.{calls_of, answers_of, goes-run, one, one_list, last_one, lines_one, closes, lines-one, gains-one}
use Rattle.agreement.proofs.Sheets.{closes-sheet, reads-sheet}

-- the definitions that the bytes are read by
computing : Unit {0}
unfolding any_below tabulate first bad_items bad_bidders any_over digit_value digit_at number_at digit hex newline joined amounts_line written_to closing_length sealed_length numbers_at ends_at line_at line_of rows_of sheet_of sheet_above items_in bidders_in bids_at read_sheet items_of bidders_of bid_sheet_of sheet_refusal sheet_in
computing = tt

-- the lines 01010001 and 0001
abbrev one_bytes : List ℕ
one_bytes = 48 ∷ 49 ∷ 48 ∷ 49 ∷ 48 ∷ 48 ∷ 48 ∷ 49 ∷ 10 ∷ 48 ∷ 48 ∷ 48 ∷ 49 ∷ 10 ∷ []

pub says : sheet_in one_bytes ≡ one
unfolding computing
says = refl

-- four lines take 26 bytes, and one fewer is too few
pub no_number : sheet_refusal one_bytes 26 ≡ 0
unfolding computing
no_number = refl

pub one_fewer : sheet_refusal one_bytes 25 ≡ 3
unfolding computing
one_fewer = refl

-- the machine answers the list, and has then closed
stays : machine_run (sheet_in one_bytes) (begin (sheet_in one_bytes)) (calls_of one_list) ≡ ran (answers_of one_list) last_one
stays = ap (λ (s : Sheet). machine_run s (begin s) (calls_of one_list)) says ∙ goes-run one (begin one) one_list last_one closes.answered

-- so a read writes the three lines, whatever tables of the right length were lent at the opening; the byte past them stays
module _ (lent : List ℤ) (fit : bad_tables 1 lent ≡ false) where
  -- one bidder
  fits : bad_tables (length (sheet_in one_bytes).bids) lent ≡ false
  fits = ap (λ (s : Sheet). bad_tables (length s.bids) lent) says ∙ fit

  few : length (sheet_in one_bytes).bids ≤ most_live_bidders
  few = subst (λ (s : Sheet). length s.bids ≤ most_live_bidders) (sym says) closes.few

  abbrev whole : ReadsSheet one_bytes lent (calls_of one_list) last_one
  whole = reads-sheet one_bytes 26 no_number few lent fits (calls_of one_list) (answers_of one_list) last_one stays

  read-number : read_number (live_run (sheet_in one_bytes) lent (calls_of one_list)).last.auction (replicate 22 7) ≡ 0
  unfolding computing
  read-number =
      whole.read-number refl (replicate 22 7)
      ∙ ap (λ (s : Sheet). first (on 3 (ltb 22 (closing_length s.items (length s.bids))) ∷ [])) says

  pub reads : read_bytes (live_run (sheet_in one_bytes) lent (calls_of one_list)).last.auction (replicate 22 7) ≡ lines_one ++ 7 ∷ []
  unfolding computing
  reads =
      whole.read-bytes refl (replicate 22 7)
      ∙ ap₂ (λ (why : ℕ) (text : List ℕ). by_number why (written_to (replicate 22 7) text) (replicate 22 7)) read-number (ap three_lines says ∙ lines-one)

-- the line of gains: its bidder gains 1
pub gains-line : gains_line one_bytes ≡ 48 ∷ 48 ∷ 48 ∷ 49 ∷ 10 ∷ []
unfolding computing gains_line
gains-line = ap (λ (s : Sheet). amounts_line (length s.bids) (gains_at s (close s).prices)) says ∙ ap (amounts_line 1) gains-one

-- closing the bytes writes the lines that the read there was seen to write, and behind them that line; the byte past it stays
pub writes : closed_to one_bytes (replicate 27 7) ≡ lines_one ++ 48 ∷ 48 ∷ 48 ∷ 49 ∷ 10 ∷ 7 ∷ []
unfolding computing
writes =
    (closes-sheet one_bytes 26 no_number).close_bytes (replicate 27 7)
    ∙ ap₂ written (ap three_lines says ∙ lines-one) gains-line
  where
    written : List ℕ → List ℕ → List ℕ
    written x y = written_to (replicate 27 7) (x ++ y)

-- with one byte fewer it writes nothing
pub writes-not : closed_to one_bytes (replicate 25 7) ≡ replicate 25 7
unfolding computing
writes-not =
    let whole = closes-sheet one_bytes 26 no_number in
    let three : sheet_refusal one_bytes 25 ≡ 3 =
    whole.close_number (replicate 25 7) ∙ ap (λ (s : Sheet). first (on 3 (ltb 25 (sealed_length s.items (length s.bids))) ∷ [])) says in
    whole.close_bytes (replicate 25 7) ∙ ap (λ (why : ℕ). by_number why (written_to (replicate 25 7) (three_lines (sheet_in one_bytes) ++ gains_line one_bytes)) (replicate 25 7)) three
