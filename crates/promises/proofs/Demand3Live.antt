-- Demand 3 of live letting, from the theorems of `agreement`. Assumes nothing.
use Prim.Native.Nat.{ℕ}
use mathlib.Core.Path.{◌≡◌, refl, sym, ap, ◌∙◌}
use mathlib.Core.Bool.{Bool, true, ◌&&◌, not}
use mathlib.Core.List.{List, [], ◌∷◌, ◌++◌}
use lib.Dec.{eqb}
use lib.ListN.{length, replicate}
use lib.IntN.{ℤ}
use Rattle.sets.proofs.Tests.{and_left, and_right, not_is, not-both}
use borrow.Author.Tests.{eq-eqb}
use Rattle.rule.specs.Sheet.{Sheet}
use Rattle.rule.specs.Round.{Round, close}
use Rattle.rule.specs.Gains.{gains_at}
use Rattle.lines.specs.Lines.{amounts_line, written_to}
use Rattle.sheet.specs.Close.{sheet_refusal, by_number, closed_to}
use Rattle.sheet.specs.Accepted.{sheet_in}
use Rattle.live.specs.declared.Auction.{Auction}
use Rattle.live.specs.Calls.{open_auction, open_above, gives, refused, open_above_number}
use Rattle.agreement.specs.Calls.{Call, Answer, told, ended, shown, Held, call, run}
use Rattle.agreement.specs.Machine.{Machine, at, three_lines}
use Rattle.agreement.specs.Agreement as claim
use Rattle.agreement.specs.Agreement.{opened_with, opening_of, live_run, stands_for, tables_of, all_rounds, rounds_of, number_of, never}
use Rattle.agreement.specs.Sheets.{gains_line}
use Rattle.agreement.proofs.Agreement as agreeing
use Rattle.agreement.proofs.Always as always
use Rattle.agreement.proofs.Sheets as sheets
use Rattle.promises.proofs.Live.{opened-is}
use Rattle.promises.specs.Demand3Live.{Listed, lines, given, Without, ClosesAs, Fit, Agrees, Demand3Live}

-- the rounds of the answers, and a number that is not among them, are as `agreement` has them
given_is : (xs : List Answer) → given xs ≡ rounds_of xs
unfolding given rounds_of
given_is [] = refl
given_is (told n ∷ rest) = given_is rest
given_is (ended (gives r) ∷ rest) = ap (λ (rs : List Round). r ∷ rs) (given_is rest)
given_is (ended (refused n) ∷ rest) = given_is rest
given_is (shown n out ∷ rest) = given_is rest

pub other : (n x : ℕ) (b : Bool) → not (eqb x n) && b ≡ true → x ≡ n → ⊥
other n x b e q = not-both (eqb x n) (eq-eqb x n q) (not_is (eqb x n) (and_left (not (eqb x n)) b e))

pub without : (n : ℕ) (xs : List Answer) → never n xs ≡ true → Without n xs
unfolding Without never number_of
without n [] e = tt
without n (told x ∷ rest) e = (other n x (never n rest) e, without n rest (and_right (not (eqb x n)) (never n rest) e))
without n (ended (gives r) ∷ rest) e = without n rest (and_right (not (eqb 0 n)) (never n rest) e)
without n (ended (refused x) ∷ rest) e = (other n x (never n rest) e, without n rest (and_right (not (eqb x n)) (never n rest) e))
without n (shown x out ∷ rest) e = (other n x (never n rest) e, without n rest (and_right (not (eqb x n)) (never n rest) e))

pub closes_as : (s : Sheet) (r : Auction) → claim.ClosedAs s r → ClosesAs s r
unfolding three_lines
closes_as s r c =
    record {
      raised = c.all_raised;
      lowered = c.all_lowered;
      prices = c.at_prices;
      names = c.names;
      read-number = c.reads;
      read-bytes = c.reads_lines;
    }

agrees : (s : Sheet) (lent : List ℤ) (calls : List Call) (theirs : List Answer) (t : Machine) → claim.Agrees s lent calls theirs t → Agrees s lent calls theirs t
unfolding opened_with opening_of open_above live_run stands_for tables_of all_rounds at
agrees s lent calls theirs t g =
    record {
      opens = sym (opened-is (open_above_number s.items (length s.bids) s.start s.floors lent) s.items (length s.bids) s.start s.floors) ∙ g.opens;
      same_answers = g.same_answers;
      same_record = g.same_record;
      same_tables = g.same_tables;
      same_rounds = given_is theirs ∙ g.rounds;
      no_more = g.no_more;
      closed_only = g.closed_only;
      closed_when = g.closed_when;
      after_all = g.after_all;
      closed_as = λ d. closes_as s (live_run s lent calls).last.auction (g.as_the_sheet d);
      not_refused = g.not_refused;
      next_round = g.next_round;
      closes_only = g.closes_only;
      closes_when = g.closes_when;
      no_eleven = without 11 theirs g.no_eleven;
      well-formed = g.well-formed;
      tables_long = g.tables_long;
      tables-fit = g.tables-fit;
    }

-- a record and tables that fit are what `agreement` calls sound
fit : (h : Held) → always.Sound h → Fit h
fit h s = record { places_64 = s.placed; places_32 = s.floored; well-formed = s.well-formed; tables_long = s.long; tables-fit = s.fit }

sound : (h : Held) → Fit h → always.Sound h
sound h f = record { placed = f.places_64; floored = f.places_32; well-formed = f.well-formed; long = f.tables_long; fit = f.tables-fit }

sealed_lines : (bytes out : List ℕ) → sheet_refusal bytes (length out) ≡ 0
    → closed_to bytes out ≡ written_to out (lines (sheet_in bytes) ++ amounts_line (length (sheet_in bytes).bids) (gains_at (sheet_in bytes) (close (sheet_in bytes)).prices))
unfolding three_lines gains_line
sealed_lines bytes out e =
    (sheets.closes-sheet bytes (length out) e).close_bytes out
    ∙ ap (λ (x : ℕ). by_number x (written_to out (three_lines (sheet_in bytes) ++ gains_line bytes)) out) e

listed : Listed
unfolding call run
listed =
    record {
      reports = λ r ts b d. refl;
      ends = λ r ts. refl;
      clears = λ r ts. refl;
      reads = λ r ts out. refl;
      none = λ h. refl;
      next = λ h c cs. refl;
    }

pub demand3_live : Demand3Live
unfolding open_auction open_above opened_with
demand3_live =
    record {
      listed = listed;
      agreement = λ s e few lent fit calls theirs t q. agrees s lent calls theirs t (agreeing.agreement s e few lent fit calls theirs t q);
      fit_opened = λ m n start lent e. fit _ (always.open-sound m n start lent (opened-is _ m n start (replicate m 0) ∙ e));
      fit_opened_above = λ m n start floors lent e. fit _ (always.above-sound m n start floors lent (opened-is _ m n start floors ∙ e));
      fit_called = λ h f c. fit _ (always.keeps h (sound h f) c);
      fit_after = λ h f calls. fit _ (always.keeps-all h (sound h f) calls);
      never_eleven = λ h f calls. without 11 _ (always.never_eleven h (sound h f) calls);
      sealed_number = λ bytes room e. (sheets.closes-sheet bytes room e).close_number;
      sealed_lines = sealed_lines;
    }
