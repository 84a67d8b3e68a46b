-- What the console's functions answer. Assumes nothing: these are definitions.
use Rattle.std.specs.Prelude.{ℕ, ◌+◌, ◌*◌, ◌≤◌, ◌≡◌, Bool, true, false, ◌||◌, not, cond, List, [], ltb, eqb, length, take, ℤ}
use Rattle.std.proofs.lemmas.List.Edits.{sets}
use Rattle.rule.specs.Refusal.{most_live_bidders}
use Rattle.lines.specs.Lines.{written_to}
use Rattle.live.specs.declared.Auction.{Auction}
use Rattle.console.specs.Answers.{Said, longest_sheet, Told, told}
use Rattle.console.specs.declared.Answered.{Answered}
use Rattle.console.specs.declared.Order.{Order}
use Rattle.console.specs.declared.Order.TheVariants.{Open, OpenAbove, End, Clear, Read, Unknown}

-- an opening, with floors or without
abbrev pub open_by : (above : Bool) → ℕ → ℕ → Order
open_by true m n = OpenAbove m n
open_by false m n = Open m n

-- the order of a line of one byte that neither opens nor reports
unfoldable pub letter_order : ℕ → Order
letter_order b = cond (eqb b 101) End (cond (eqb b 99) Clear (cond (eqb b 115) Read Unknown))

-- the longest answer: that of a read, a number's line and the longest sheet
abbrev pub longest_answer : ℕ
longest_answer = 3 + longest_sheet

-- how many numbers the tables have that the console holds: those of the most bidders
abbrev pub held_numbers : ℕ
held_numbers = most_live_bidders * 1089

-- an answer was put at the front of bytes that have room for any
pub record Puts (t : Said) (before after : List ℕ) (a : Answered) : Type 0 where
  pub next : a.next ≡ t.next
  pub counted : a.length ≡ length t.bytes
  pub small : length t.bytes ≤ longest_answer
  pub put : after ≡ sets before 0 t.bytes

-- what is answered with room for so many bytes. Where there is no room for the longest answer, or the tables are not those of the most bidders, nothing is done
unfoldable pub told_to : Auction → List ℤ → List ℕ → (room : ℕ) → Told
told_to r ts line room = cond (not (eqb (length ts) held_numbers) || ltb room longest_answer) (record { bytes = []; next = r; tables = ts }) (told r ts line)

-- the record to keep, how many bytes were answered, the lent bytes afterwards, with the answer at their front and the others as they came, and the tables
-- afterwards
pub record Answers (t : Told) (before after : List ℕ) (left : List ℤ) (a : Answered) : Type 0 where
  pub next : a.next ≡ t.next
  pub counted : a.length ≡ length t.bytes
  pub written : after ≡ written_to before t.bytes
  pub tables : left ≡ t.tables
  -- so the answer is a part of the bytes afterwards
  pub within : a.length ≤ length after
  pub part : a.length ≡ length (take a.length after)
