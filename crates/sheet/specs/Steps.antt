-- What the steps of reading and closing answer. Assumes nothing: these are definitions.
use Rattle.std.specs.Prelude.{ℕ, ◌≡◌, Bool, zero, suc, cond, List, [], ◌∷◌, ltb, length, Option, None, Some, Result, Ok, Err}
use Rattle.rule.specs.Refusal.{on, first, any_over}
use Rattle.lines.specs.Lines.{sealed_length, written_to}
use Rattle.sheet.specs.BidSheet.{BidSheet}
use Rattle.sheet.specs.Close.{bid_sheet_of, sheet_refusal, closing_of, by_number, closed_to}

-- the numbers read, where all were
abbrev pub read_as : Bool → List ℕ → Option (List ℕ)
read_as t xs = cond t (Some xs) None

-- the number that turns a sheet down that was read and has its counts in order
unfoldable pub read_refusal : BidSheet → (room : ℕ) → ℕ
read_refusal s room =
    first (on 3 (ltb room (sealed_length s.items s.bidders)) ∷ on 4 (any_over s.start) ∷ on 5 (any_over s.bids) ∷ [])

-- what comes of a number: the value where none was given, the number where one was
abbrev pub unless_refused : {A : Type 0} → ℕ → A → Result A ℕ
unless_refused zero a = Ok a
unless_refused (suc why) a = Err (suc why)

-- how such a sheet came out: how many bytes were written, or the number; and the lent bytes before and afterwards
pub record ClosedRead (s : BidSheet) (before : List ℕ) (r : Result ℕ ℕ) (after : List ℕ) : Type 0 where
  pub outcome : r ≡ unless_refused (read_refusal s (length before)) (length (closing_of s))
  pub lent : after ≡ by_number (read_refusal s (length before)) (written_to before (closing_of s)) before

-- how a sheet of bytes came out, likewise
pub record Closed (bytes before : List ℕ) (r : Result ℕ ℕ) (after : List ℕ) : Type 0 where
  pub outcome : r ≡ unless_refused (sheet_refusal bytes (length before)) (length (closing_of (bid_sheet_of bytes)))
  pub lent : after ≡ closed_to bytes before
