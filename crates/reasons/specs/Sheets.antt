-- The sheet of reasons: document 02, #101. Assumes nothing: these are definitions.
use Rattle.std.specs.Prelude.{ℕ, ◌+◌, true, cond, List, [], ◌++◌, ◌≡◌, ltb, length, Some}
use Rattle.digits.specs.Digits.{hex}
use Rattle.digits.specs.Reading.{number_at}
use Rattle.lines.specs.Lines.{newline, joined, number_line}
use Rattle.lines.specs.Reading.{ends_at}
use Rattle.rule.specs.Sheet.{Sheet}
use Rattle.rule.specs.Reasons.{Reason, reason_at, round_count}
use Rattle.rule.specs.Former.{former_close, former_reason_at}
use Rattle.sheet.specs.Close.{by_number}
use Rattle.sheet.specs.Contents.{bid_sheet_refusal}
use Rattle.sheet.specs.Accepted.{sheet_in}

-- a round's line: its number in 4 digits, its kind in 2 (01 raised, 02 lowered), the set of items (pans) in 8 and that of the bidders (rakers) in 16
unfoldable pub reason_line : ℕ → Reason → List ℕ
reason_line number r = hex 4 number ++ hex 2 r.kind ++ hex 8 r.items ++ hex 16 r.bidders ++ newline

-- a line for each round of a sheet's path to its close, the first being round 1
unfoldable pub reason_sheet : Sheet → List ℕ
reason_sheet s = joined (round_count s) λ k. reason_line (k + 1) (reason_at s k)

-- the same without #102 of document 02, where a bid of 0 is a bid like any other
unfoldable pub former_reason_sheet : Sheet → List ℕ
former_reason_sheet s = joined ((former_close s).ups + (former_close s).downs) λ k. reason_line (k + 1) (former_reason_at s k)

-- the whole answer to a bid sheet: its sheet of reasons, or the line of the number that turns it down
unfoldable pub reasons_in : List ℕ → List ℕ
reasons_in bytes = by_number (bid_sheet_refusal bytes) (reason_sheet (sheet_in bytes)) (number_line (bid_sheet_refusal bytes))

-- bytes that are written where so many are lent: all of them, or none where they do not fit
unfoldable pub fitting : (room : ℕ) → List ℕ → List ℕ
fitting room text = cond (ltb room (length text)) [] text

-- what is written for a bid sheet where so many bytes are lent
unfoldable pub answer_of : List ℕ → (room : ℕ) → List ℕ
answer_of bytes room = fitting room (reasons_in bytes)

-- what the line at a place says: the round's number, its kind, the items and the bidders, as reading gives them, and byte 0a behind them
pub record LineSays (bytes : List ℕ) (at number : ℕ) (r : Reason) : Type 0 where
  pub number_is : number_at 4 bytes at ≡ Some number
  pub kind : number_at 2 bytes (at + 4) ≡ Some r.kind
  pub items : number_at 8 bytes (at + 6) ≡ Some r.items
  pub bidders : number_at 16 bytes (at + 14) ≡ Some r.bidders
  pub ends : ends_at bytes (at + 30) ≡ true
