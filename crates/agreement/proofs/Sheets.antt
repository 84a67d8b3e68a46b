-- The bytes that closing a bid sheet writes are those that a live read of the same sheet's close writes, and behind them the line of gains. Assumes nothing.
use Prim.Native.Nat.{ℕ, zero, suc, ◌≤◌}
use mathlib.Core.Path.{◌≡◌, refl, sym, ap, ◌∙◌, subst}
use mathlib.Core.Bool.{true, false, not}
use mathlib.Core.List.{List, [], ◌∷◌, ◌++◌}
use native.Mathlib.Omega.{arith}
use lib.Dec.{ltb}
use lib.ListN.{length}
use lib.IntN.{ℤ}
use borrow.Author.Tests.{ltb-false}
use Rattle.rule.specs.Sheet.{Sheet}
use Rattle.rule.specs.Round.{State, close}
use Rattle.rule.specs.Gains.{gains_at}
use Rattle.rule.specs.Closing.{assignment_at, Closing}
use Rattle.rule.specs.Refusal.{on, first, most_live_bidders}
use Rattle.rule.proofs.Refusal.{passed, none as first_none}
use Rattle.lines.specs.Lines.{amounts_line, sealed_sheet, closing_length, sealed_length, written_to}
use Rattle.live.specs.Auction.{well_formed}
use Rattle.live.specs.Tables.{bad_tables}
use Rattle.live.specs.Calls.{is_closed}
use Rattle.live.specs.Reading.{too_few, read_number, read_bytes}
use Rattle.live.specs.declared.Auction.{Auction}
use Rattle.live.specs.declared.Phase.{Phase}
use Rattle.sheet.specs.Close.{bid_sheet_of, sheet_refusal, closing_of, by_number, closed_to}
use Rattle.sheet.specs.Accepted.{sheet_in, sheet_of_closing}
use Rattle.sheet.proofs.Accepted.{promised, as_many, closing-is, by-room}
use Rattle.bids.specs.Lent.{sheet_above, sheet_of}
use Rattle.agreement.specs.Calls.{Call, reporting, ending, clearing, reading, Answer, shown}
use Rattle.agreement.specs.Machine.{Machine, begin, Outcome, answers, leaves, three_lines, machine_read_number, machine_read, machine, MachineRan, ran, left, behind, machine_run}
use Rattle.agreement.specs.Agreement.{live_run, stands_for}
use Rattle.agreement.specs.Sheets.{gains_line, ClosesSheet, ReadAs, EachAs, ReadsSheet}
use Rattle.agreement.proofs.Always.{bytes-before}
use Rattle.agreement.proofs.Agreement.{agreement}

-- the three lines of a sheet, and its line of gains, make up the closing sheet of its closing
of-closing : (s : Sheet) (c : Closing s) → three_lines s ++ amounts_line (length s.bids) (gains_at s (close s).prices) ≡ sheet_of_closing s c
unfolding three_lines sheet_of_closing sealed_sheet
of-closing s c =
    ap (λ (q : State). sealed_sheet s.items (length s.bids) q.ups q.downs q.prices (assignment_at s q.prices) (gains_at s q.prices)) c.close_is

module _ (bytes : List ℕ) (room : ℕ) (e : sheet_refusal bytes room ≡ 0) where
  abbrev s : Sheet
  s = sheet_in bytes

  -- it is what closing the bid sheet writes
  first-lines : closing_of (bid_sheet_of bytes) ≡ three_lines (sheet_in bytes) ++ gains_line bytes
  unfolding gains_line
  first-lines = closing-is bytes room e ∙ sym (of-closing s (promised bytes room e).closing)

  close_bytes : (out : List ℕ) → closed_to bytes out ≡ by_number (sheet_refusal bytes (length out)) (written_to out (three_lines (sheet_in bytes) ++ gains_line bytes)) out
  unfolding closed_to
  close_bytes out = ap (λ (text : List ℕ). by_number (sheet_refusal bytes (length out)) (written_to out text) out) first-lines

  -- with any lent bytes: closing is turned down by 3 or not at all
  close_number : (out : List ℕ) → sheet_refusal bytes (length out) ≡ first (on 3 (ltb (length out) (sealed_length (sheet_in bytes).items (length (sheet_in bytes).bids))) ∷ [])
  unfolding sheet_in sheet_of sheet_above
  close_number out =
      by-room bytes room e (length out)
      ∙ ap (λ (n : ℕ). first (on 3 (ltb (length out) (sealed_length s.items n)) ∷ [])) (sym (as_many bytes room e))

  -- ---- each read of the machine

  abbrev ReadOf : Call → Outcome → Type 0
  ReadOf c (answers a u) = ReadAs bytes c a
  ReadOf c leaves = Unit {0}

  tells_as : (c : Call) → ((a : Answer) → ReadAs bytes c a) → (o : Outcome) → ReadOf c o
  tells_as c any (answers a u) = any a
  tells_as c any leaves = tt

  read_by : (t : Machine) (out : List ℕ) (x : ℕ) → machine_read_number s t out ≡ x
      → ReadOf (reading out) (elim x [ zero ↦ answers (shown 0 (written_to out (three_lines s))) t | suc j ↦ answers (shown (suc j) out) t ])
  unfolding ReadAs machine_read_number
  read_by t out (suc j) n = refl
  read_by t out zero n = refl

  read-as : (t : Machine) (c : Call) → ReadOf c (machine s t c)
  unfolding ReadAs machine machine_read
  read-as t (reporting b d) = tells_as (reporting b d) (λ a. tt) (machine s t (reporting b d))
  read-as t ending = tells_as ending (λ a. tt) (machine s t ending)
  read-as t clearing = tells_as clearing (λ a. tt) (machine s t clearing)
  read-as t (reading out) = read_by t out (machine_read_number s t out) refl

  abbrev EachOf : List Call → MachineRan → Type 0
  EachOf cs (ran xs u) = EachAs bytes cs xs
  EachOf cs left = Unit {0}

  each-as : (t : Machine) (calls : List Call) → EachOf calls (machine_run s t calls)
  unfolding machine_run EachAs
  each-as t [] = tt
  each-as t (c ∷ cs) = go (λ u. each-as u cs) (machine s t c) (read-as t c)
    where
      grow : (a : Answer) (o : MachineRan) → ReadAs bytes c a → EachOf cs o → EachOf (c ∷ cs) (behind a o)
      grow a left h rest = unfold behind in tt
      grow a (ran xs u) h rest = unfold behind in (h, rest)

      go : ((u : Machine) → EachOf cs (machine_run s u cs)) → (o : Outcome) → ReadOf c o
          → EachOf (c ∷ cs) (elim o [ answers a u ↦ behind a (machine_run s u cs) | leaves ↦ left ])
      go rest leaves h = tt
      go rest (answers a u) h = grow a (machine_run s u cs) h (rest u)

  -- ---- the record after the list

  module _ (few : length s.bids ≤ most_live_bidders) (lent : List ℤ) (fit : bad_tables (length s.bids) lent ≡ false) (calls : List Call) (theirs : List Answer) (t : Machine) (q : machine_run s (begin s) calls ≡ ran theirs t) where
    abbrev r : Auction
    r = (live_run s lent calls).last.auction

    -- once closed, a read is turned down by 3 or not at all
    read-number : t.has_closed ≡ true → (out : List ℕ)
        → read_number (live_run (sheet_in bytes) lent calls).last.auction out ≡ first (on 3 (ltb (length out) (closing_length (sheet_in bytes).items (length (sheet_in bytes).bids))) ∷ [])
    unfolding read_number stands_for
    read-number done out =
        let g = agreement s (promised bytes room e).within few lent fit calls theirs t q in
        passed 11 (not (well_formed r)) _ (ap not g.well-formed)
        ∙ passed 15 (not (is_closed r.phase)) _ (ap (λ (p : Phase). not (is_closed p)) (g.closed_when done))
        ∙ ap (λ (x : Auction). first (on 3 (too_few x out) ∷ [])) g.same_record

    read-bytes : t.has_closed ≡ true → (out : List ℕ)
        → read_bytes (live_run (sheet_in bytes) lent calls).last.auction out
        ≡ by_number (read_number (live_run (sheet_in bytes) lent calls).last.auction out) (written_to out (three_lines (sheet_in bytes))) out
    read-bytes done out = go (read_number r out) refl
      where
        go : (why : ℕ) → read_number r out ≡ why → read_bytes r out ≡ by_number why (written_to out (three_lines s)) out
        go zero z =
            ((agreement s (promised bytes room e).within few lent fit calls theirs t q).as_the_sheet done).reads_lines out
            (ltb-false (length out) (closing_length s.items (length s.bids)) (first_none 2 (ltb (length out) (closing_length s.items (length s.bids))) [] (sym (read-number done out) ∙ z)).0)
        go (suc why) z = bytes-before r out (λ n. omega (arith, n, z))

-- bytes that no number turns down, with any room: what closing them does
pub closes-sheet : (bytes : List ℕ) (room : ℕ) → sheet_refusal bytes room ≡ 0 → ClosesSheet bytes
closes-sheet bytes room e = record { close_number = close_number bytes room e; close_bytes = close_bytes bytes room e }

-- and what every live list on their sheet, with no more bidders than a live auction, reads in which the machine never leaves the sheet
pub reads-sheet : (bytes : List ℕ) (room : ℕ) → sheet_refusal bytes room ≡ 0 → length (sheet_in bytes).bids ≤ most_live_bidders → (lent : List ℤ)
    → bad_tables (length (sheet_in bytes).bids) lent ≡ false → (calls : List Call) (theirs : List Answer) (t : Machine) → machine_run (sheet_in bytes) (begin (sheet_in bytes)) calls ≡ ran theirs t → ReadsSheet bytes lent calls t
reads-sheet bytes room e few lent fit calls theirs t q =
    let g = agreement (sheet_in bytes) (promised bytes room e).within few lent fit calls theirs t q in
    record {
      in_list = subst (EachAs bytes calls) (sym g.same_answers) (subst (EachOf bytes room e calls) q (each-as bytes room e (begin (sheet_in bytes)) calls));
      read-number = read-number bytes room e few lent fit calls theirs t q;
      read-bytes = read-bytes bytes room e few lent fit calls theirs t q;
    }
