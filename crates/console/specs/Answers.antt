-- What the console answers to a line, and the record and the tables it keeps. Assumes nothing: these are definitions.
use Rattle.std.specs.Prelude.{ℕ, zero, suc, ◌+◌, ◌*◌, List, [], ◌++◌, replicate, take, drop, ℤ}
use Rattle.rule.specs.Round.{Round, raised, lowered, closed}
use Rattle.rule.specs.Refusal.{most_live_bidders}
use Rattle.digits.specs.Digits.{hex}
use Rattle.lines.specs.Lines.{number_text, number_line, amounts_line}
use Rattle.reports.specs.Report.{saying}
use Rattle.live.specs.Calls.{open_number, open_above_number, open_auction, open_above, filled_by, report, clear, Ending, gives, refused, end_answer, end_next, end_tables}
use Rattle.live.specs.Reading.{read_number, sheet_of}
use Rattle.live.specs.declared.Auction.{Auction}
use Rattle.live.specs.declared.Reply.{Reply}
use Rattle.console.specs.Orders.{order_of, amounts_of, starts_of, floors_of}
use Rattle.console.specs.declared.Order.{Order}
use Rattle.console.specs.declared.Order.TheVariants.{Open, OpenAbove, Report, End, Clear, Read, Unknown}

-- the prices of the record's items, 4 digits each, to the line's end
unfoldable pub prices_text : Auction → List ℕ
prices_text r = amounts_line r.items r.prices

-- what is answered, newline included, and the record that is kept
pub record Said : Type 0 where
  pub bytes : List ℕ
  pub next : Auction

-- and beside them the tables that are kept
pub record Told : Type 0 where
  pub bytes : List ℕ
  pub next : Auction
  pub tables : List ℤ

abbrev pub beside : List ℤ → Said → Told
beside ts s = record { bytes = s.bytes; next = s.next; tables = ts }

-- an opening: 00 and the prices of the new record, which is kept; or its number alone, and the record r that was kept before stays
unfoldable pub opens : (r : Auction) → Reply → Said
opens r o =
    elim o.number [
      | zero ↦ record { bytes = number_text 0 ++ prices_text o.next; next = o.next }
      | suc j ↦ record { bytes = number_line (suc j); next = r }
    ]

-- a report or a clear
unfoldable pub replies : Reply → Said
replies o = record { bytes = number_line o.number; next = o.next }

-- a round, with the record after it: 01 raised, 02 lowered, 03 closed, in 2 digits, then the item set in 8 digits, and the prices
unfoldable pub round_text : Round → List ℕ
round_text (raised s) = hex 2 1 ++ hex 8 s
round_text (lowered s) = hex 2 2 ++ hex 8 s
round_text closed = hex 2 3 ++ hex 8 0

unfoldable pub ends : Ending → Auction → Said
ends (gives o) next = record { bytes = number_text 0 ++ round_text o ++ prices_text next; next = next }
ends (refused x) next = record { bytes = number_line x; next = next }

-- a read: its number on a line, and the closing sheet where it is 0. The bytes lent to it are never too few: they are as many as the sheet of the most items and bidders has
abbrev pub longest_sheet : ℕ
longest_sheet = 15 + 4 * 32 + 2 * most_live_bidders

unfoldable pub sheet_text : Auction → ℕ → List ℕ
sheet_text r x = elim x [ zero ↦ sheet_of r | suc j ↦ [] ]

unfoldable pub reads : Auction → Said
reads r = let x : ℕ = read_number r (replicate longest_sheet 0) in record { bytes = number_line x ++ sheet_text r x; next = r }

-- the tables that a call for n bidders is lent, of those that the console holds: the first ones, 1,089 numbers for each bidder
unfoldable pub lent : (bidders : ℕ) → List ℤ → List ℤ
lent n ts = take (n * 1089) ts

-- the tables held after it: those that were lent as the call left them, and the others as they were
unfoldable pub keeps : (bidders : ℕ) (left ts : List ℤ) → List ℤ
keeps n left ts = left ++ drop (n * 1089) ts

-- what an opening with this number leaves of the tables: those that were lent are filled, or it is turned down and all are as they were
unfoldable pub fills : (number items bidders : ℕ) → List ℤ → List ℤ
fills x m n ts = keeps n (filled_by x m n (lent n ts)) ts

-- an order on a record and tables; 06 and no change for a line that is none
unfoldable pub told_by : Auction → List ℤ → (line : List ℕ) → Order → Told
told_by r ts line (Open m n) =
    beside (fills (open_number m n (amounts_of line) (lent n ts)) m n ts) (opens r (open_auction m n (amounts_of line) (lent n ts)))
told_by r ts line (OpenAbove m n) =
    beside (fills (open_above_number m n (starts_of m line) (floors_of m line) (lent n ts)) m n ts)
    (opens r (open_above m n (starts_of m line) (floors_of m line) (lent n ts)))
told_by r ts line (Report b null set) = beside ts (replies (report r (lent r.bidders ts) b (saying null set)))
told_by r ts line End =
    beside (keeps r.bidders (end_tables r (lent r.bidders ts)) ts) (ends (end_answer r (lent r.bidders ts)) (end_next r (lent r.bidders ts)))
told_by r ts line Clear = beside ts (replies (clear r))
told_by r ts line Read = beside ts (reads r)
told_by r ts line Unknown = record { bytes = number_line 6; next = r; tables = ts }

unfoldable pub told : Auction → List ℤ → List ℕ → Told
told r ts line = told_by r ts line (order_of line)
