-- The definitions applied to the smallest cases that tell a wrong one from them, by computation; the rule's own are in its `proofs/Applied`. Assumes nothing.
use Prim.Native.Nat.{ℕ}
use mathlib.Core.Path.{◌≡◌, refl, ◌∙◌}
use mathlib.Core.List.{List, [], ◌∷◌, ◌++◌}
use Rattle.sets.specs.Count.{all_below, any_below, count}
use Rattle.sets.specs.Bit.{bit, is_set, has, set_of, each, any, size}
use Rattle.sets.specs.Largest.{largest_below, largest}
use Rattle.sets.specs.Lists.{tabulate}
use Rattle.rule.specs.Sheet.{amount, Sheet}
use Rattle.rule.specs.Demand.{surplus_at_least, best, demand, demands, wants, nth}
use Rattle.rule.specs.Excess.{bidders, crowded, in_excess, in_positive_excess, excess_demand, positive_excess_demand, excess_supply, above_floors}
use Rattle.rule.specs.Round.{raise, lower, closed, round_falling, round, move, round_at, after, opening, path, most_rounds, close}
use Rattle.rule.specs.Closing.{round_of}
use Rattle.rule.specs.Reasons.{bidders_with, reason_of, reason_at, round_count}
use Rattle.rule.specs.Refusal.{first, bad_items, bad_bidders, any_over}
use Rattle.rule.proofs.Path.{after-add, after-closed}
use Rattle.digits.specs.Digits.{digit, hex}
use Rattle.digits.specs.Reading.{digit_value, digit_at, number_at}
use Rattle.lines.specs.Lines.{newline, joined, number_text, number_line}
use Rattle.lines.specs.Reading.{numbers_at, ends_at, line_at}
use Rattle.bids.specs.Lent.{line_of, rows_of, sheet_above, sheet_of}
use Rattle.sheet.specs.BidSheet.{items_in, bidders_in, bids_at, read_sheet}
use Rattle.sheet.specs.Close.{items_of, bidders_of, bid_sheet_of}
use Rattle.sheet.specs.Contents.{bid_sheet_refusal}
use Rattle.sheet.specs.Accepted.{sheet_in}
use Rattle.reasons.specs.Sheets.{reason_line, reason_sheet, reasons_in, fitting, answer_of}

-- the definitions that the cases compute with
computing : Unit {0}
unfolding all_below any_below count bit is_set has set_of each any size largest_below largest tabulate amount surplus_at_least best demand demands wants nth bidders crowded in_excess in_positive_excess excess_demand positive_excess_demand excess_supply above_floors raise lower round_falling round move round_at after opening path bidders_with reason_of reason_at digit hex newline joined number_text number_line reason_line reason_sheet reasons_in fitting answer_of
computing = tt

-- and those by which a bid sheet is read
reading : Unit {0}
unfolding first bad_items bad_bidders any_over digit_value digit_at number_at numbers_at ends_at line_at line_of rows_of sheet_of sheet_above items_in bidders_in bids_at read_sheet items_of bidders_of bid_sheet_of bid_sheet_refusal sheet_in
reading = tt

-- ---- a line

-- the line 0001 01 00000002 0000000000000007, without the blanks: round 1 raised item 2 for bidders 1, 2 and 3
pub line : reason_line 1 (record { kind = 1; items = 2; bidders = 7 })
    ≡ 48 ∷ 48 ∷ 48 ∷ 49
    ∷ 48 ∷ 49
    ∷ 48 ∷ 48 ∷ 48 ∷ 48 ∷ 48 ∷ 48 ∷ 48 ∷ 50
    ∷ 48 ∷ 48 ∷ 48 ∷ 48 ∷ 48 ∷ 48 ∷ 48 ∷ 48 ∷ 48 ∷ 48 ∷ 48 ∷ 48 ∷ 48 ∷ 48 ∷ 48 ∷ 55
    ∷ 10 ∷ []
unfolding computing
line = refl

-- ---- a sheet

-- two items at 0 and 1, and two bidders who bid 1 and 0. Both demand item 1, which rises; then item 2, which nobody demands, falls; and at (1, 0) it closes
abbrev up_and_down : Sheet
up_and_down = record { items = 2; start = 0 ∷ 1 ∷ []; floors = 0 ∷ 0 ∷ []; bids = (1 ∷ 0 ∷ []) ∷ (1 ∷ 0 ∷ []) ∷ [] }

closes : round_of up_and_down 2 ≡ closed
unfolding computing
closes = refl

-- from then on its path stays: 2 rounds are computed and not 8,190
stays : close up_and_down ≡ path up_and_down 2
unfolding close path most_rounds
stays = after-add 2 up_and_down.floors up_and_down.bids (opening up_and_down.start) 2 8188 ∙ after-closed 2 up_and_down.floors up_and_down.bids (path up_and_down 2) closes 8188

-- a line for each round, numbered from 1 and on past the turn
pub numbered : reason_sheet up_and_down ≡ reason_line 1 (record { kind = 1; items = 1; bidders = 3 }) ++ reason_line 2 (record { kind = 2; items = 2; bidders = 0 })
unfolding computing round_count
numbered = rw stays refl

-- ---- an answer

-- the bytes that say this sheet, the lines 020200000001, 00010000 and 00010000, are answered by it: what is proved of accepted bytes is no empty claim
abbrev said : List ℕ
said =
    48 ∷ 50 ∷ 48 ∷ 50 ∷ 48 ∷ 48 ∷ 48 ∷ 48 ∷ 48 ∷ 48 ∷ 48 ∷ 49 ∷ 10
    ∷ 48 ∷ 48 ∷ 48 ∷ 49 ∷ 48 ∷ 48 ∷ 48 ∷ 48 ∷ 10
    ∷ 48 ∷ 48 ∷ 48 ∷ 49 ∷ 48 ∷ 48 ∷ 48 ∷ 48 ∷ 10 ∷ []

pub answered : reasons_in said ≡ reason_sheet up_and_down
unfolding computing reading
answered = refl

-- no bytes at all are turned down by 6, and no items by 1
pub nothing_said : reasons_in [] ≡ 48 ∷ 54 ∷ 10 ∷ []
unfolding computing reading
nothing_said = refl

pub no_items : reasons_in (48 ∷ 48 ∷ 48 ∷ 49 ∷ []) ≡ 48 ∷ 49 ∷ 10 ∷ []
unfolding computing reading
no_items = refl

-- the line of 6 is written where its three bytes fit, and nothing of it where two are lent
pub fits-exactly : answer_of [] 3 ≡ 48 ∷ 54 ∷ 10 ∷ []
unfolding computing reading
fits-exactly = refl

pub fits-with-more : answer_of [] 4 ≡ 48 ∷ 54 ∷ 10 ∷ []
unfolding computing reading
fits-with-more = refl

pub not-in-fewer : answer_of [] 2 ≡ []
unfolding computing reading
not-in-fewer = refl
