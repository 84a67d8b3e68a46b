-- Demand 3, of live letting: it agrees with the sheet. Document 01, "What demand 3 speaks of", from "A live list" on; document 02, #103, #107 and #108. The plain
-- machine is `agreement/specs/Machine`, a list of calls `agreement/specs/Calls`: read them beside this page. Assumes nothing: these are statements, which
-- `proofs/Demand3Live` proves.
use Rattle.std.specs.Prelude.{ℕ, suc, ◌+◌, ◌*◌, ◌≤◌, true, false, List, [], ◌∷◌, ◌++◌, ◌≡◌, ltb, length, ℤ}
use Rattle.sets.specs.Count.{to_nat}
use Rattle.sets.specs.Bit.{set_of}
use Rattle.sets.specs.Lists.{tabulate, places}
use Rattle.rule.specs.Sheet.{Sheet, within_limits}
use Rattle.rule.specs.Demand.{Demand}
use Rattle.rule.specs.Round.{Round, closed, path, close}
use Rattle.rule.specs.Closing.{round_of, assignment_at}
use Rattle.rule.specs.Gains.{gains_at}
use Rattle.rule.specs.Refusal.{on, first}
use Rattle.lines.specs.Lines.{closing_sheet, amounts_line, closing_length, sealed_length, written_to}
use Rattle.differences.specs.Lent.{flat_all}
use Rattle.live.specs.Auction.{well_formed}
use Rattle.live.specs.Tables.{bad_tables, tables_fit}
use Rattle.live.specs.Calls.{open_number, open_above_number, open_auction, open_above, filled_by, report, clear, end_number, gives, refused, end_answer, end_next, end_tables}
use Rattle.live.specs.Reading.{names_of, read_number, read_bytes}
use Rattle.live.specs.declared.Auction.{Auction}
use Rattle.live.specs.declared.Phase.TheVariants.{Closed}
use Rattle.sheet.specs.Close.{sheet_refusal, closed_to}
use Rattle.sheet.specs.Accepted.{sheet_in}
use Rattle.agreement.specs.Calls.{Call, reporting, ending, clearing, reading, Answer, told, ended, shown, Held, call, Ran, run}
use Rattle.agreement.specs.Agreement.{number_of}
use Rattle.agreement.specs.Machine.{Machine, begin, phase, does_stand, said, demands_stand, ran, machine_run}

-- "A live list is an opening with the sheet's counts and starting rents" and floors, whatever the tables hold that are lent with it, "then report, end, clear and
-- read calls in any order and number, the record always the one handed back last", and the tables as the last call left them
abbrev pub after_opening : (m n : ℕ) (start floors : List ℕ) (lent : List ℤ) → Held
after_opening m n start floors lent =
    record { auction = (open_above m n start floors lent).next; tables = filled_by (open_above_number m n start floors lent) m n lent }

abbrev pub live : Sheet → (lent : List ℤ) → List Call → Ran
live s lent calls = run (after_opening s.items (length s.bids) s.start s.floors lent) calls

-- the sheet's rounds, rents and names in the three lines
abbrev pub lines : Sheet → List ℕ
lines s = closing_sheet s.items (length s.bids) (close s).ups (close s).downs (close s).prices (assignment_at s (close s).prices)

-- the rounds that the answers give, in order
unfoldable pub given : List Answer → List Round
given [] = []
given (told n ∷ rest) = given rest
given (ended (gives r) ∷ rest) = r ∷ given rest
given (ended (refused n) ∷ rest) = given rest
given (shown n out ∷ rest) = given rest

-- no answer is this number
unfoldable pub Without : ℕ → List Answer → Type 0
Without n [] = Unit {0}
Without n (told x ∷ rest) = (x ≡ n → ⊥) × Without n rest
Without n (ended (gives r) ∷ rest) = Without n rest
Without n (ended (refused x) ∷ rest) = (x ≡ n → ⊥) × Without n rest
Without n (shown x out ∷ rest) = (x ≡ n → ⊥) × Without n rest

-- what each call of a list answers and leaves, and a list one call after the other, by what the functions in `src` promise of each
pub record Listed : Type 0 where
  pub reports : (r : Auction) (ts : List ℤ) (b : ℕ) (d : Demand) → call (record { auction = r; tables = ts }) (reporting b d)
      ≡ record { answer = told (report r ts b d).number; next = record { auction = (report r ts b d).next; tables = ts } }
  pub ends : (r : Auction) (ts : List ℤ) → call (record { auction = r; tables = ts }) ending
      ≡ record { answer = ended (end_answer r ts); next = record { auction = end_next r ts; tables = end_tables r ts } }
  pub clears : (r : Auction) (ts : List ℤ) → call (record { auction = r; tables = ts }) clearing
      ≡ record { answer = told (clear r).number; next = record { auction = (clear r).next; tables = ts } }
  pub reads : (r : Auction) (ts : List ℤ) (out : List ℕ) → call (record { auction = r; tables = ts }) (reading out)
      ≡ record { answer = shown (read_number r out) (read_bytes r out); next = record { auction = r; tables = ts } }
  pub none : (h : Held) → run h [] ≡ record { answers = []; last = h }
  pub next : (h : Held) (c : Call) (cs : List Call)
      → run h (c ∷ cs) ≡ record { answers = (call h c).answer ∷ (run (call h c).next cs).answers; last = (run (call h c).next cs).last }

-- a record r that holds the sheet's close: rounds, rents and names; and a read writes them, where as many bytes are lent as three lines take
pub record ClosesAs (s : Sheet) (r : Auction) : Type 0 where
  pub raised : r.raised ≡ (close s).ups
  pub lowered : r.lowered ≡ (close s).downs
  pub prices : r.prices ≡ places 32 (close s).prices
  pub names : names_of r ≡ assignment_at s (close s).prices
  pub read-number : (out : List ℕ) → closing_length s.items (length s.bids) ≤ length out → read_number r out ≡ 0
  pub read-bytes : (out : List ℕ) → closing_length s.items (length s.bids) ≤ length out → read_bytes r out ≡ written_to out (lines s)

-- what is held from call to call: a record that 11 does not turn down, and tables of its length that fit
pub record Fit (h : Held) : Type 0 where
  pub places_64 : length h.auction.sets ≡ 64
  pub places_32 : length h.auction.floors ≡ 32
  pub well-formed : well_formed h.auction ≡ true
  pub tables_long : length h.tables ≡ h.auction.bidders * 1089
  pub tables-fit : tables_fit h.auction h.tables ≡ true

-- "For every sheet and every live list in which the machine never leaves the sheet": `theirs` are the machine's answers, t is its state after the list
pub record Agrees (s : Sheet) (lent : List ℤ) (calls : List Call) (theirs : List Answer) (t : Machine) : Type 0 where
  -- the opening "is not turned down"
  pub opens : open_above_number s.items (length s.bids) s.start s.floors lent ≡ 0
  -- "each call's answer is the machine's, the bytes that a read writes included"
  pub same_answers : (live s lent calls).answers ≡ theirs
  -- "and the record after the list holds the machine's rents, rounds raised, rounds lowered, phase and reports"
  pub same_record : (live s lent calls).last.auction
      ≡ record {
        items = s.items;
        bidders = length s.bids;
        prices = places 32 (path s t.moves).prices;
        floors = places 32 s.floors;
        sets = tabulate 64 (λ k. (said (t.standing (suc k))).items) 0;
        nulls = set_of 64 (λ i. (said (t.standing i)).null);
        reported = set_of 64 (λ i. does_stand (t.standing i));
        phase = phase s t;
        raised = (path s t.moves).ups;
        lowered = (path s t.moves).downs;
      }
  -- #107: "the lent tables end as they are"
  pub same_tables : (live s lent calls).last.tables ≡ flat_all (length s.bids) t.tables
  -- the rounds answered are the path's, in order, up to the close and not beyond
  pub same_rounds : given theirs ≡ tabulate (t.moves + to_nat t.has_closed) (round_of s) 0
  pub no_more : t.moves ≤ (close s).ups + (close s).downs
  -- the letting is closed if and only if the machine has closed, which is after all of the path's rounds, and then holds the sheet's close
  pub closed_only : (live s lent calls).last.auction.phase ≡ Closed → t.has_closed ≡ true
  pub closed_when : t.has_closed ≡ true → (live s lent calls).last.auction.phase ≡ Closed
  pub after_all : t.has_closed ≡ true → t.moves ≡ (close s).ups + (close s).downs
  pub closed_as : t.has_closed ≡ true → ClosesAs s (live s lent calls).last.auction
  -- before that "an end that finds each raker's demand at those rents standing isn't turned down: where the path is at its close it answers closed …; elsewhere …
  -- moved, with the path's next kind and pans"
  pub not_refused : t.has_closed ≡ false → demands_stand s t ≡ true → end_number (live s lent calls).last.auction (live s lent calls).last.tables ≡ 0
  pub next_round : t.has_closed ≡ false → demands_stand s t ≡ true
      → end_answer (live s lent calls).last.auction (live s lent calls).last.tables ≡ gives (round_of s t.moves)
  pub closes_only : round_of s t.moves ≡ closed → t.moves ≡ (close s).ups + (close s).downs
  pub closes_when : t.moves ≡ (close s).ups + (close s).downs → round_of s t.moves ≡ closed
  -- "11 never applies", nor 3 to the tables
  pub no_eleven : Without 11 theirs
  pub well-formed : well_formed (live s lent calls).last.auction ≡ true
  pub tables_long : bad_tables (length s.bids) (live s lent calls).last.tables ≡ false
  pub tables-fit : tables_fit (live s lent calls).last.auction (live s lent calls).last.tables ≡ true

pub record Demand3Live : Type 0 where
  pub listed : Listed
  -- "This is a single claim about the whole list, not one for each call": of every sheet within the limits with at most forty rakers (#108), whatever tables of the
  -- right length are lent
  pub agreement : (s : Sheet) → within_limits s ≡ true → length s.bids ≤ 40 → (lent : List ℤ) → bad_tables (length s.bids) lent ≡ false
      → (calls : List Call) (theirs : List Answer) (t : Machine) → machine_run s (begin s) calls ≡ ran theirs t → Agrees s lent calls theirs t
  -- of any list, whatever is reported: after an opening that is not turned down the record is well formed and the tables fit, every call keeps them so, and 11 is given
  -- to none
  pub fit_opened : (m n : ℕ) (start : List ℕ) (lent : List ℤ) → open_number m n start lent ≡ 0
      → Fit (record { auction = (open_auction m n start lent).next; tables = filled_by (open_number m n start lent) m n lent })
  pub fit_opened_above : (m n : ℕ) (start floors : List ℕ) (lent : List ℤ) → open_above_number m n start floors lent ≡ 0 → Fit (after_opening m n start floors lent)
  pub fit_called : (h : Held) → Fit h → (c : Call) → Fit (call h c).next
  pub fit_after : (h : Held) → Fit h → (calls : List Call) → Fit (run h calls).last
  pub never_eleven : (h : Held) → Fit h → (calls : List Call) → Without 11 (run h calls).answers
  -- closing a bid sheet writes the three lines that such a read writes, and behind them the line of gains (#106); no number but 3 then applies to another room
  pub sealed_number : (bytes : List ℕ) (room : ℕ) → sheet_refusal bytes room ≡ 0 → (out : List ℕ)
      → sheet_refusal bytes (length out) ≡ first (on 3 (ltb (length out) (sealed_length (sheet_in bytes).items (length (sheet_in bytes).bids))) ∷ [])
  pub sealed_lines : (bytes out : List ℕ) → sheet_refusal bytes (length out) ≡ 0
      → closed_to bytes out ≡ written_to out (lines (sheet_in bytes) ++ amounts_line (length (sheet_in bytes).bids) (gains_at (sheet_in bytes) (close (sheet_in bytes)).prices))
