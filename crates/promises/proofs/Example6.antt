-- Example 6 as bytes: what they say, by computation, and then what is written, from K1. Assumes nothing.
use Prim.Native.Nat.{ℕ, ◌+◌, ◌≤◌}
use mathlib.Core.Path.{◌≡◌, refl, sym, ap, ◌∙◌}
use mathlib.Core.Bool.{false}
use mathlib.Core.List.{List, [], ◌∷◌}
use borrow.Author.Tests.{le-ltb}
use lib.Dec.{ltb}
use Rattle.sets.specs.Count.{all_below, any_below, count}
use Rattle.sets.specs.Bit.{bit, is_set, has, set_of, each, any, size}
use Rattle.sets.specs.Largest.{largest_below, largest}
use Rattle.sets.specs.Lists.{tabulate}
use Rattle.rule.specs.Sheet.{amount, row, Sheet}
use Rattle.rule.specs.Demand.{surplus_at_least, best, demand, demands, wants, nth}
use Rattle.rule.specs.Excess.{bidders, crowded, in_excess, in_positive_excess, excess_demand, positive_excess_demand, excess_supply, above_floors}
use Rattle.rule.specs.Round.{raise, lower, round_falling, round, move, round_at, after, opening, path, close}
use Rattle.rule.specs.Assignment.{option}
use Rattle.rule.specs.Closing.{assignment_at}
use Rattle.rule.specs.Gains.{gain, gains_at}
use Rattle.rule.specs.Reasons.{bidders_with, reason_of, reason_at, round_count}
use Rattle.rule.specs.Refusal.{first, bad_items, bad_bidders, any_over}
use Rattle.rule.proofs.Refusal.{passed, first-nil}
use Rattle.digits.specs.Digits.{digit, hex}
use Rattle.digits.specs.Reading.{digit_value, digit_at, number_at}
use Rattle.lines.specs.Lines.{newline, joined, amounts_line, closing_sheet, sealed_sheet, sealed_length}
use Rattle.lines.specs.Reading.{numbers_at, ends_at, line_at}
use Rattle.bids.specs.Lent.{line_of, rows_of, sheet_above, sheet_of}
use Rattle.sheet.specs.BidSheet.{items_in, bidders_in, bids_at, read_sheet}
use Rattle.sheet.specs.Close.{items_of, bidders_of, bid_sheet_of, sheet_refusal}
use Rattle.sheet.specs.Contents.{bid_sheet_refusal}
use Rattle.sheet.specs.Accepted.{sheet_in}
use Rattle.sheet.proofs.Accepted.{by-room}
use Rattle.reasons.specs.Sheets.{reason_line, reason_sheet}
use Rattle.reasons.proofs.Answers.{by-sheet}
use Rattle.promises.specs.Demand3Sealed.{closing_sheet_of}
use Rattle.promises.specs.Text.{text}
use Rattle.promises.specs.Cases.{plain, six, sixth, sixth_closed, sixth_reasons, Example6}
use Rattle.promises.proofs.Demand3Sealed.{printed}
use Rattle.promises.proofs.Tried.{tried}

-- the definitions that sheets are read and written by
computing : Unit {0}
unfolding text any_below tabulate first bad_items bad_bidders any_over digit_value digit_at number_at digit hex newline joined amounts_line closing_sheet sealed_sheet sealed_length numbers_at ends_at line_at line_of rows_of sheet_of sheet_above items_in bidders_in bids_at read_sheet items_of bidders_of bid_sheet_of sheet_refusal bid_sheet_refusal sheet_in
computing = tt

-- those of a round and its reason
reasoning : Unit {0}
unfolding all_below count bit is_set has set_of each any size largest_below largest amount row surplus_at_least best demand demands wants nth bidders crowded in_excess in_positive_excess excess_demand positive_excess_demand excess_supply above_floors raise lower round_falling round move round_at after opening path bidders_with reason_of reason_at reason_line
reasoning = tt

abbrev s : Sheet
s = plain (4 ∷ 4 ∷ []) six

says : sheet_in sixth ≡ s
unfolding computing
says = refl

-- 42 bytes of room turn nothing down, and so no more do
accepted : (room : ℕ) → 42 ≤ room → sheet_refusal sixth room ≡ 0
accepted room l = by-room sixth 42 at-42 room ∙ passed 3 (ltb room (sealed_length (bid_sheet_of sixth).items (bid_sheet_of sixth).bidders)) [] (too-few room l) ∙ first-nil
  where
    at-42 : sheet_refusal sixth 42 ≡ 0
    at-42 = unfold computing in refl

    too-few : (room : ℕ) → 42 ≤ room → ltb room (sealed_length (bid_sheet_of sixth).items (bid_sheet_of sixth).bidders) ≡ false
    too-few room l = unfold computing in le-ltb room 42 l

closing_lines : closing_sheet_of s ≡ sixth_closed
unfolding computing amount row option gain gains_at
closing_lines =
    let k = tried.K1 in
    let p : List ℕ = 2 ∷ 6 ∷ [] in
    ap (λ (u : ℕ). sealed_sheet 2 3 u (close s).downs (close s).prices (assignment_at s (close s).prices) (gains_at s (close s).prices)) k.raised
    ∙ ap (λ (d : ℕ). sealed_sheet 2 3 2 d (close s).prices (assignment_at s (close s).prices) (gains_at s (close s).prices)) k.lowered
    ∙ ap (λ (q : List ℕ). sealed_sheet 2 3 2 2 q (assignment_at s q) (gains_at s q)) k.prices
    ∙ ap (λ (xs : List ℕ). sealed_sheet 2 3 2 2 p xs (tabulate 3 (gain six p xs) 0)) (sym (ap (assignment_at s) k.prices) ∙ k.names)

reason-lines : reason_sheet s ≡ sixth_reasons
unfolding computing reasoning round_count reason_sheet
reason-lines =
    let k = tried.K1 in
    ap (λ (u : ℕ). joined (u + (close s).downs) λ j. reason_line (j + 1) (reason_at s j)) k.raised
    ∙ ap (λ (d : ℕ). joined (2 + d) λ j. reason_line (j + 1) (reason_at s j)) k.lowered

pub example6 : Example6
example6 =
    record {
      closing = λ room l. printed sixth room (accepted room l) ∙ ap closing_sheet_of says ∙ closing_lines;
      reasons = by-sheet sixth (unfold computing in refl) ∙ ap reason_sheet says ∙ reason-lines;
    }
