-- Demand 3 of sealed letting, from the theorems of `rule` and `sheet`. Assumes nothing.
use Prim.Native.Nat.{ℕ, ◌≤◌, ◌<◌}
use mathlib.Core.Path.{◌≡◌, refl, sym, ap, ◌∙◌, subst}
use mathlib.Core.Bool.{Bool, true, cond}
use mathlib.Core.List.{List, []}
use borrow.Author.Tests.{le-ltb, lt-ltb}
use lib.ListN.{length}
use Rattle.rule.specs.Sheet.{Sheet, each4095, within_limits}
use Rattle.rule.specs.Round.{State, path, close}
use Rattle.rule.specs.Equilibrium.{Below}
use Rattle.rule.specs.Closing.{assignment_at, Closing}
use Rattle.rule.proofs.EmptySets as empty
use Rattle.rule.proofs.Closing.{closing}
use Rattle.rule.specs.Gains.{gains_at}
use Rattle.digits.specs.Digits.{digit, hex}
use Rattle.digits.proofs.Stands.{itself}
use Rattle.digits.proofs.Numbers as numbers
use Rattle.lines.specs.Lines.{newline, number_text, number_line, amounts_line, closing_sheet, sealed_sheet, written_to}
use Rattle.bids.specs.Lent.{line_of, rows_of, sheet_above}
use Rattle.bids.proofs.Limits as limits
use Rattle.least.specs.Least as least
use Rattle.least.proofs.Narrowing as narrowing
use Rattle.auction.specs.Sealed.{closed, falling_closed}
use Rattle.auction.proofs.Sealing as sealing
use Rattle.lines.proofs.ReadBack as back
use Rattle.sheet.specs.BidSheet.{items_in, bidders_in}
use Rattle.sheet.specs.Writing.{bid_line, bid_sheet}
use Rattle.sheet.specs.Contents.{contents, contents_of}
use Rattle.sheet.specs.Close.{items_of, bidders_of, bid_sheet_of, sheet_refusal, by_number, closing_of, answer_of}
use Rattle.sheet.specs.Accepted.{sheet_in, sheet_of_closing}
use Rattle.sheet.proofs.Ends.{by-some}
use Rattle.sheet.proofs.ReadWritten as written
use Rattle.sheet.proofs.Sixes as sixes
use Rattle.sheet.proofs.Longer as longer
use Rattle.sheet.proofs.Room as room
use Rattle.sheet.proofs.Reading as reading
use Rattle.sheet.proofs.Accepted as accepted
use Rattle.promises.specs.Demand3Sealed.{Close, Least, closing_sheet_of, Outcomes, Sheets, Demand3Sealed}
use Rattle.promises.proofs.AtClose.{at_close}

of-closing : (s : Sheet) (c : Closing s) → Close s c.ups c.downs c.turn c.prices
unfolding Below
of-closing s c =
    record {
      balance = (c.balance.from-floors, (c.balance.assigned, c.balance.balances));
      least = λ q e. c.least q (record { from-floors = e.0; assigned = e.1.0; balances = e.1.1 });
      unique = c.unique;
      none-over = (empty.at_close s c).0;
      none-under = (empty.at_close s c).1;
      only_there = empty.only-at-close s c;
      highest = c.highest;
      largest-rise = c.largest-rise;
      largest-fall = c.largest-fall;
      few_raised = c.ups_max;
      few_lowered = c.downs_max;
      turn_above = c.turn_above;
      turn_least = c.turn_least;
      close_below = c.close_below;
      range = c.range;
      above_floor = c.above_floor;
      raisable = c.raisable;
    }

pub closes : (s : Sheet) → within_limits s ≡ true → Close s (close s).ups (close s).downs (path s (close s).ups).prices (close s).prices
closes s e =
    let c = closing s e in
    at_close s c (λ u d p. Close s u d (path s u).prices p)
    (subst (λ (t : List ℕ). Close s c.ups c.downs t c.prices) (sym (ap (λ (t : State). t.prices) c.at_turn)) (of-closing s c))

-- the closing sheet of a closing is that of the sheet's close
closing-sheet : (s : Sheet) (c : Closing s) → sheet_of_closing s c ≡ closing_sheet_of s
unfolding sheet_of_closing
closing-sheet s c =
    ap (λ (t : State). sealed_sheet s.items (length s.bids) t.ups t.downs t.prices (assignment_at s t.prices) (gains_at s t.prices)) (sym c.close_is)

outcomes : Outcomes
unfolding each4095 within_limits closed falling_closed line_of rows_of sheet_above
outcomes =
    record {
      sheet_is = λ m n start floors bids. refl;
      amounts_are = λ m xs. refl;
      limits_are = λ s. refl;
      within = λ m n start floors bids e. (limits.accepted-within m n start floors bids e).1;
      without_floors = λ m n start bids e. sym (sealing.sealed-closed m n start bids e);
      with_floors = λ m n start floors bids e. sym (sealing.above-closed m n start floors bids e);
      falling-first = λ m n start floors bids e. sym (sealing.falling-closed m n start floors bids e);
    }

pub printed : (bytes : List ℕ) (room : ℕ) → sheet_refusal bytes room ≡ 0 → answer_of bytes room ≡ closing_sheet_of (sheet_in bytes)
printed bytes room e = accepted.accepted-answer bytes room e ∙ closing-sheet (sheet_in bytes) (accepted.promised bytes room e).closing

-- under a number its line is printed, where there is room for that
number_printed : (bytes : List ℕ) (room : ℕ) → 3 ≤ room → (sheet_refusal bytes room ≡ 0 → ⊥) → answer_of bytes room ≡ number_line (sheet_refusal bytes room)
unfolding answer_of
number_printed bytes room l ne =
    ap (λ (b : Bool). cond b [] (by_number (sheet_refusal bytes room) (closing_of (bid_sheet_of bytes)) (number_line (sheet_refusal bytes room)))) (le-ltb room 3 l)
    ∙ by-some (sheet_refusal bytes room) ne (closing_of (bid_sheet_of bytes)) (number_line (sheet_refusal bytes room))

no_room : (bytes : List ℕ) (room : ℕ) → room < 3 → answer_of bytes room ≡ []
unfolding answer_of
no_room bytes room l =
    ap (λ (b : Bool). cond b [] (by_number (sheet_refusal bytes room) (closing_of (bid_sheet_of bytes)) (number_line (sheet_refusal bytes room)))) (lt-ltb room 3 l)

sheets : Sheets
unfolding items_in bidders_in items_of bidders_of bid_sheet_of contents contents_of digit hex newline number_text number_line amounts_line closing_sheet bid_line bid_sheet sheet_in written_to
sheets =
    record {
      no_digits = λ x. refl;
      last_digit = λ k x. refl;
      digits_read = λ k x l. numbers.number-at (hex k x) k 0 x l (itself (hex k x));
      bid-sheet = λ b. refl;
      items-in = λ bytes. refl;
      bidders-in = λ bytes. refl;
      items_are = λ bytes. refl;
      bidders_are = λ bytes. refl;
      sheet-in = λ bytes. refl;
      read_written = written.read_written;
      written_read = written.written_read;
      written_no_six = sixes.written_no_six;
      read_no_six = sixes.read_no_six;
      not_six_read = λ bytes room a b c. (sixes.not_six_read bytes room a b c).0;
      says = λ bytes. refl;
      three-lines = λ m n u d p xs. refl;
      number-line = λ x. refl;
      read_back = back.read_back;
      sealed_back = back.sealed_back;
      contents = λ bytes e. ap (λ (x : ℕ). contents x (bid_sheet_of bytes)) e;
      at_front = λ out bytes. refl;
      within = λ bytes room e. (accepted.promised bytes room e).within;
      written = λ bytes out e. let a = accepted.accepted-sheet bytes out e in a.written ∙ ap (written_to out) (closing-sheet (sheet_in bytes) a.promised.closing);
      printed = printed;
      number_printed = number_printed;
      no_room = no_room;
      past = longer.same_answer;
      enough = room.no-three;
      same_number = reading.same_number;
    }

-- the page's least prices are those of `least`
least-as : (m : ℕ) (bids : List (List ℕ)) (base p : List ℕ) → Least m bids base p → least.Least m bids base p
unfolding Below
least-as m bids base p l = record { least = record { above = l.from_base; empty = l.no_excess; least = l.lowest }; long = l.places_32 }

pub demand3 : Demand3Sealed
demand3 =
    record {
      closes = closes;
      outcomes = outcomes;
      sheets = sheets;
      one_least = λ m bids base p q a b. narrowing.one_least m bids base p q (least-as m bids base p a) (least-as m bids base q b);
    }
