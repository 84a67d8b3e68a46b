-- The claim about a whole live list: document 01, "For every sheet and every live list". Assumes nothing: these are definitions.
use Rattle.std.specs.Prelude.{ℕ, suc, ◌+◌, ◌≤◌, Bool, true, false, ◌&&◌, not, List, [], ◌∷◌, ◌≡◌, eqb, length, ℤ}
use Rattle.sets.specs.Count.{to_nat}
use Rattle.sets.specs.Bit.{set_of}
use Rattle.sets.specs.Lists.{tabulate, places}
use Rattle.rule.specs.Sheet.{Sheet}
use Rattle.rule.specs.Round.{Round, closed, State, close}
use Rattle.rule.specs.Closing.{round_of, assignment_at}
use Rattle.lines.specs.Lines.{closing_length, written_to}
use Rattle.live.specs.Auction.{well_formed}
use Rattle.differences.specs.Lent.{flat_all}
use Rattle.live.specs.Tables.{bad_tables, tables_fit}
use Rattle.live.specs.Calls.{open_above_number, open_above, filled_by, end_number, gives, refused, end_answer}
use Rattle.live.specs.Reading.{names_of, read_number, read_bytes}
use Rattle.live.specs.declared.Auction.{Auction}
use Rattle.live.specs.declared.Reply.{Reply}
use Rattle.live.specs.declared.Phase.TheVariants.{Closed}
use Rattle.agreement.specs.Calls.{Call, Answer, told, ended, shown, Held, Ran, run}
use Rattle.agreement.specs.Machine.{Machine, at, phase, does_stand, said, demands_stand, three_lines}

-- an opening, by its arguments: what is held after it
unfoldable pub opened_with : (items bidders : ℕ) (start floors : List ℕ) (lent : List ℤ) → Held
opened_with m n start floors lent =
    record { auction = (open_above m n start floors lent).next; tables = filled_by (open_above_number m n start floors lent) m n lent }

-- a live list: an opening with the sheet's counts, starting prices and floors, whatever the tables hold that are lent with it, then the calls
unfoldable pub opening_of : Sheet → (lent : List ℤ) → Reply
opening_of s lent = open_above s.items (length s.bids) s.start s.floors lent

unfoldable pub live_run : Sheet → (lent : List ℤ) → List Call → Ran
live_run s lent calls = run (opened_with s.items (length s.bids) s.start s.floors lent) calls

-- the record that holds what the machine holds: its prices, rounds raised, rounds lowered, phase and reports; and the sheet's floors
unfoldable pub stands_for : Sheet → Machine → Auction
stands_for s t =
    record {
      items = s.items;
      bidders = length s.bids;
      prices = places 32 (at s t).prices;
      floors = places 32 s.floors;
      sets = tabulate 64 (λ k. (said (t.standing (suc k))).items) 0;
      nulls = set_of 64 (λ i. (said (t.standing i)).null);
      reported = set_of 64 (λ i. does_stand (t.standing i));
      phase = phase s t;
      raised = (at s t).ups;
      lowered = (at s t).downs;
    }

-- and the machine's tables, one bidder's after the other's
unfoldable pub tables_of : Sheet → Machine → List ℤ
tables_of s t = flat_all (length s.bids) t.tables

unfoldable pub held_for : Sheet → Machine → Held
held_for s t = record { auction = stands_for s t; tables = tables_of s t }

-- how many rounds the sheet's path has
unfoldable pub all_rounds : Sheet → ℕ
all_rounds s = let c : State = close s in c.ups + c.downs

-- the rounds among the answers: moves and a close
unfoldable pub rounds_of : List Answer → List Round
rounds_of [] = []
rounds_of (told n ∷ rest) = rounds_of rest
rounds_of (ended (gives r) ∷ rest) = r ∷ rounds_of rest
rounds_of (ended (refused n) ∷ rest) = rounds_of rest
rounds_of (shown n out ∷ rest) = rounds_of rest

-- the number among an answer, 0 being none
unfoldable pub number_of : Answer → ℕ
number_of (told n) = n
number_of (ended (gives r)) = 0
number_of (ended (refused n)) = n
number_of (shown n out) = n

-- the number n is not among the answers
unfoldable pub never : ℕ → List Answer → Bool
never n [] = true
never n (a ∷ rest) = not (eqb (number_of a) n) && never n rest

-- a record that holds the sheet's close: its rounds, prices and names, and a read writes them, in three lines
pub record ClosedAs (s : Sheet) (r : Auction) : Type 0 where
  pub all_raised : r.raised ≡ (close s).ups
  pub all_lowered : r.lowered ≡ (close s).downs
  pub at_prices : r.prices ≡ places 32 (close s).prices
  pub names : names_of r ≡ assignment_at s (close s).prices
  pub reads : (out : List ℕ) → closing_length s.items (length s.bids) ≤ length out → read_number r out ≡ 0
  pub reads_lines : (out : List ℕ) → closing_length s.items (length s.bids) ≤ length out → read_bytes r out ≡ written_to out (three_lines s)

-- what holds of a live list in which the machine never leaves the sheet, `theirs` being the machine's answers and t its state after the list
pub record Agrees (s : Sheet) (lent : List ℤ) (calls : List Call) (theirs : List Answer) (t : Machine) : Type 0 where
  -- the opening is not turned down, each call's answer is the machine's, the bytes that a read writes included, and the record after the list holds the
  -- machine's prices, rounds raised, rounds lowered, phase and reports
  pub opens : (opening_of s lent).number ≡ 0
  pub same_answers : (live_run s lent calls).answers ≡ theirs
  pub same_record : (live_run s lent calls).last.auction ≡ stands_for s t
  -- and the lent tables are the machine's
  pub same_tables : (live_run s lent calls).last.tables ≡ tables_of s t
  -- the rounds answered are the path's, in order, up to the close and not beyond
  pub rounds : rounds_of theirs ≡ tabulate (t.moves + to_nat t.has_closed) (round_of s) 0
  pub no_more : t.moves ≤ all_rounds s
  -- the auction is closed if and only if the machine has closed, which is after all of the path's rounds, at its closing prices and names
  pub closed_only : (live_run s lent calls).last.auction.phase ≡ Closed → t.has_closed ≡ true
  pub closed_when : t.has_closed ≡ true → (live_run s lent calls).last.auction.phase ≡ Closed
  pub after_all : t.has_closed ≡ true → t.moves ≡ all_rounds s
  pub as_the_sheet : t.has_closed ≡ true → ClosedAs s (live_run s lent calls).last.auction
  -- before that, an end that finds each bidder's demand standing gives the path's round, and that is a close if and only if all of the path's rounds are made
  pub next_round : t.has_closed ≡ false → demands_stand s t ≡ true → end_answer (live_run s lent calls).last.auction (live_run s lent calls).last.tables ≡ gives (round_of s t.moves)
  pub closes_only : round_of s t.moves ≡ closed → t.moves ≡ all_rounds s
  pub closes_when : t.moves ≡ all_rounds s → round_of s t.moves ≡ closed
  -- 11 never applies, nor 3 to the tables, and no number, 16, 17 and 19 among them, to an end that finds each bidder's demand standing
  pub well-formed : well_formed (live_run s lent calls).last.auction ≡ true
  pub tables_long : bad_tables (length s.bids) (live_run s lent calls).last.tables ≡ false
  pub tables-fit : tables_fit (live_run s lent calls).last.auction (live_run s lent calls).last.tables ≡ true
  pub no_eleven : never 11 theirs ≡ true
  pub not_refused : t.has_closed ≡ false → demands_stand s t ≡ true → end_number (live_run s lent calls).last.auction (live_run s lent calls).last.tables ≡ 0
