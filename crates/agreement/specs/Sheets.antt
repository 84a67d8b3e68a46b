-- A live list beside the bytes of a bid sheet: closing the bid sheet writes the three lines that a read of the close writes, and behind them the line of gains,
-- which a live auction cannot know (document 02, #106). Assumes nothing: these are definitions.
use Rattle.std.specs.Prelude.{ℕ, zero, suc, true, List, [], ◌∷◌, ◌++◌, ◌≡◌, ltb, length, ℤ}
use Rattle.rule.specs.Sheet.{Sheet}
use Rattle.rule.specs.Round.{close}
use Rattle.rule.specs.Gains.{gains_at}
use Rattle.rule.specs.Refusal.{on, first}
use Rattle.lines.specs.Lines.{amounts_line, closing_length, sealed_length, written_to}
use Rattle.live.specs.Reading.{read_number, read_bytes}
use Rattle.sheet.specs.Close.{sheet_refusal, by_number, closed_to}
use Rattle.sheet.specs.Accepted.{sheet_in}
use Rattle.agreement.specs.Calls.{Call, reporting, ending, clearing, reading, Answer, told, ended, shown}
use Rattle.agreement.specs.Machine.{Machine, three_lines}
use Rattle.agreement.specs.Agreement.{live_run}

-- the line of gains of the sheet that the bytes say, at its close
unfoldable pub gains_line : (bytes : List ℕ) → List ℕ
gains_line bytes = let s : Sheet = sheet_in bytes in amounts_line (length s.bids) (gains_at s (close s).prices)

-- what closing the bid sheet does: it writes the three lines of a live read and behind them the line of gains; 3 goes by all four, and no other number applies
pub record ClosesSheet (bytes : List ℕ) : Type 0 where
  pub close_number : (out : List ℕ)
      → sheet_refusal bytes (length out) ≡ first (on 3 (ltb (length out) (sealed_length (sheet_in bytes).items (length (sheet_in bytes).bids))) ∷ [])
  pub close_bytes : (out : List ℕ) → closed_to bytes out ≡ by_number (sheet_refusal bytes (length out)) (written_to out (three_lines (sheet_in bytes) ++ gains_line bytes)) out

-- a call and its answer: a read that is answered 0 left the three lines at the front of the lent bytes; one that is turned down left these as they came
unfoldable pub ReadAs : (bytes : List ℕ) → Call → Answer → Type 0
ReadAs bytes (reading out) (shown zero left) = left ≡ written_to out (three_lines (sheet_in bytes))
ReadAs bytes (reading out) (shown (suc why) left) = left ≡ out
ReadAs bytes (reading out) (told why) = ⊥
ReadAs bytes (reading out) (ended e) = ⊥
ReadAs bytes (reporting b d) a = Unit {0}
ReadAs bytes ending a = Unit {0}
ReadAs bytes clearing a = Unit {0}

-- each call of a list, and its answer
unfoldable pub EachAs : (bytes : List ℕ) → List Call → List Answer → Type 0
EachAs bytes [] [] = Unit {0}
EachAs bytes [] (x ∷ xs) = ⊥
EachAs bytes (c ∷ cs) [] = ⊥
EachAs bytes (c ∷ cs) (x ∷ xs) = ReadAs bytes c x × EachAs bytes cs xs

-- what holds of a live list on the sheet that the bytes say, t being the machine's state after the list
pub record ReadsSheet (bytes : List ℕ) (lent : List ℤ) (calls : List Call) (t : Machine) : Type 0 where
  -- each read in the list
  pub in_list : EachAs bytes calls (live_run (sheet_in bytes) lent calls).answers
  -- once the machine has closed, a read of the record after the list writes them too; 3 goes by the three lines, and no other number applies
  pub read-number : t.has_closed ≡ true → (out : List ℕ)
      → read_number (live_run (sheet_in bytes) lent calls).last.auction out ≡ first (on 3 (ltb (length out) (closing_length (sheet_in bytes).items (length (sheet_in bytes).bids))) ∷ [])
  pub read-bytes : t.has_closed ≡ true → (out : List ℕ)
      → read_bytes (live_run (sheet_in bytes) lent calls).last.auction out
      ≡ by_number (read_number (live_run (sheet_in bytes) lent calls).last.auction out) (written_to out (three_lines (sheet_in bytes))) out
