-- Demand 1, from the definitions and the theorems of `agreement`. Assumes nothing.
use Prim.Native.Nat.{ℕ, zero, suc, ◌-◌, ◌*◌}
use mathlib.Core.Path.{◌≡◌, refl, ap}
use mathlib.Core.List.{List}
use lib.IntN.{ℤ}
use lib.ListN.{length, replicate}
use Rattle.rule.specs.Refusal.{first, any_over, any_under, bad_items, bad_bidders, bad_live_bidders, bad_length, bad_floors, bad_bidder}
use Rattle.reports.specs.Report.{is_empty, beyond, unfit}
use Rattle.lines.specs.Lines.{written_to}
use Rattle.bids.specs.Lent.{line_of, sheet_of, sheet_above}
use Rattle.bids.specs.Refusal.{sealed_refusal, sealed_above_refusal}
use Rattle.bids.specs.Line.{line_refusal, shown, line_shown, line_start}
use Rattle.bids.proofs.Showing as showing
use Rattle.auction.specs.Sealed.{refused, closed, falling_closed, outcome, sealed_of, sealed_above_of, falling_first_of}
use Rattle.sheet.specs.Close.{sheet_refusal, closed_to, closing_of, bid_sheet_of}
use Rattle.sheet.proofs.Ends.{by-some}
use Rattle.sheet.specs.Contents.{bid_sheet_refusal, contents, contents_of}
use Rattle.dewgneiss.specs.Lent.{unfit as unfitLists, lent_refusal, lent_above_refusal}
use Rattle.live.specs.Auction.{has_reported, missing, counts_fit, prices_fit, floors_fit, from_floors, unused_prices, unused_floors, unused_places, unused_bits, reported_fit, others_empty, rounds_fit, close_fits, well_formed}
use Rattle.live.specs.Tables.{bad_tables, unexplained_at, any_unexplained}
use Rattle.live.specs.Calls.{at_top, open_number, open_above_number, open_auction, open_above, opened_by, unopened, filled_by, zeros, report_number, report, clear_number, clear, end_number}
use Rattle.live.specs.Reading.{read_number}
use Rattle.agreement.specs.Agreement.{number_of}
use Rattle.agreement.proofs.Always as always
use Rattle.promises.specs.Demand1.{Conditions, Order, Refused, Demand1}
use Rattle.promises.proofs.Live.{opened-is}

conditions : Conditions
unfolding any_over any_under is_empty beyond unfit has_reported missing at_top bad_items bad_live_bidders counts_fit prices_fit floors_fit from_floors unused_prices unused_floors unused_places unused_bits reported_fit others_empty rounds_fit close_fits well_formed
conditions =
    record {
      outside_is = λ most x. refl;
      over_is = λ xs. refl;
      under_is = λ start floors. refl;
      eight_is = λ m d. refl;
      empty_is = λ d. refl;
      closed_is = (refl, refl, refl);
      falling_is = (refl, refl, refl);
      rising_is = (refl, refl, refl);
      thirteen_is = λ r b. refl;
      fourteen_is = λ r. refl;
      seventeen_is = λ m prices s. refl;
      eleven_is = λ r. refl;
      eleven_rising = λ r. refl;
      eleven_falling = λ r. refl;
      eleven_closed = λ r. refl;
      eleven_sets = λ r. refl;
    }

order : Order
unfolding first bad_items bad_bidders bad_live_bidders bad_length bad_floors bad_bidder bad_tables sealed_refusal sealed_above_refusal unfitLists lent_refusal lent_above_refusal sheet_refusal bid_sheet_refusal line_refusal open_number open_above_number report_number unexplained_at any_unexplained end_number clear_number read_number open_auction open_above report clear
order =
    record {
      first_given = λ x rest. refl;
      first_passed = λ x rest. refl;
      first_none = refl;
      sealed = λ m n start bids. refl;
      above = λ m n start floors bids. refl;
      lent = λ m n start bids rounds prices options gains. refl;
      lent_above = λ m n start floors bids rounds prices options gains. refl;
      sheet = λ bytes room. refl;
      reasons = λ bytes. refl;
      line = λ m n b bids. refl;
      opening = λ m n start ts. refl;
      opening_above = λ m n start floors ts. refl;
      reports = λ r ts b d. refl;
      ends = λ r ts. refl;
      clears = λ r. refl;
      reads = λ r out. refl;
      opening_told = λ m n start ts. opened-is (open_number m n start ts) m n start (replicate m 0);
      above_told = λ m n start floors ts. opened-is (open_above_number m n start floors ts) m n start floors;
      report_told = λ r ts b d. refl;
      clear_told = λ r. refl;
    }

sheet_before : (bytes out : List ℕ) → (sheet_refusal bytes (length out) ≡ 0 → ⊥) → closed_to bytes out ≡ out
unfolding closed_to
sheet_before bytes out ne = by-some (sheet_refusal bytes (length out)) ne (written_to out (closing_of (bid_sheet_of bytes))) out

lent_before : (x m n : ℕ) (lent : List ℤ) → (x ≡ 0 → ⊥) → filled_by x m n lent ≡ lent
unfolding filled_by
lent_before zero m n lent h = absurd (h refl)
lent_before (suc j) m n lent h = refl

turned-down : Refused
unfolding sealed_of sealed_above_of falling_first_of outcome refused open_auction open_above opened_by unopened zeros line_of line_shown line_start shown number_of contents_of contents
turned-down =
    record {
      number_told = λ x. refl;
      number_given = λ x. refl;
      number_refused = λ x. refl;
      number_shown = λ x out. refl;
      as_before = always.as_before;
      read_before = always.bytes-before;
      lent_before = lent_before;
      sheet_before = sheet_before;
      zeros_sealed = λ m n start bids why e. ap (λ (x : ℕ). outcome x (closed (sheet_of m n start bids))) e;
      zeros_above = λ m n start floors bids why e. ap (λ (x : ℕ). outcome x (closed (sheet_above m n start floors bids))) e;
      zeros_falling = λ m n start floors bids why e. ap (λ (x : ℕ). outcome x (falling_closed (sheet_above m n start floors bids))) e;
      zeros_contents = λ bytes why e. ap (λ (x : ℕ). contents x (bid_sheet_of bytes)) e;
      zeros_open = λ m n start lent why e. ap (λ (x : ℕ). opened_by x m n start (replicate m 0)) e;
      zeros_open_above = λ m n start floors lent why e. ap (λ (x : ℕ). opened_by x m n start floors) e;
      zeros_eleven = always.zeros_eleven;
      line-shown = λ m n b bids e. showing.line-of m n b bids e;
      line-start = λ m n b bids e. ap (λ (x : ℕ). elim x [ zero ↦ (b - 1) * m | suc why ↦ 0 ]) e;
      line_there = showing.shown-there;
      line_refused = λ m n b bids why e. ap (λ (x : ℕ). shown x (line_of m bids (b - 1))) e;
    }

pub demand1 : Demand1
demand1 = record { conditions = conditions; order = order; refused = turned-down }
