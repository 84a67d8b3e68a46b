-- The plain machine, fed with the sheet and the calls alone: document 01, "What demand 3 speaks of"; its tables are document 02's, #107. Assumes nothing: these are
-- definitions.
use Rattle.std.specs.Prelude.{ℕ, zero, suc, ◌-◌, Bool, true, false, ◌&&◌, not, cond, List, [], ◌∷◌, ltb, eqb, length, ℤ}
use Rattle.sets.specs.Count.{all_below, any_below}
use Rattle.sets.specs.Lists.{tabulate}
use Rattle.rule.specs.Sheet.{Sheet}
use Rattle.rule.specs.Demand.{Demand, nth}
use Rattle.rule.specs.Excess.{excess_demand}
use Rattle.rule.specs.Round.{Round, raised, lowered, closed, State, path, close}
use Rattle.rule.specs.Closing.{demands_at, round_of, assignment_at}
use Rattle.rule.specs.Refusal.{on, first, bad_bidder}
use Rattle.lines.specs.Lines.{closing_sheet, closing_length, written_to}
use Rattle.reports.specs.Report.{unfit, same_demand}
use Rattle.differences.specs.Table.{opening}
use Rattle.differences.specs.Allowed.{narrowed, unexplained}
use Rattle.live.specs.Calls.{is_falling, is_rising, at_top, gives, refused}
use Rattle.live.specs.declared.Phase.{Phase}
use Rattle.live.specs.declared.Phase.TheVariants.{Rising, Falling, Closed}
use Rattle.agreement.specs.Calls.{Call, reporting, ending, clearing, reading, Answer, told, ended, shown}

-- a bidder's report, if one stands
pub data Standing : Type 0 where
  none : Standing
  stands : Demand → Standing

-- how many moves it has made, whether it has closed, the reports that stand, by the bidder's number, and the bidders' tables, from 0
pub record Machine : Type 0 where
  pub moves : ℕ
  pub has_closed : Bool
  pub standing : ℕ → Standing
  pub tables : ℕ → List (List ℤ)

-- at first no moves, not closed, none standing, and the opening's tables
unfoldable pub begin : Sheet → Machine
begin s = record { moves = 0; has_closed = false; standing = λ i. none; tables = λ k. opening s.items }

-- ---- what it holds

-- its prices and rounds are the path's after as many rounds as it has made moves
unfoldable pub at : Sheet → Machine → State
at s t = path s t.moves

-- its phase is closed once it has closed, else falling once it has lowered, else rising
unfoldable pub phase_of : (has_closed : Bool) (downs : ℕ) → Phase
phase_of true d = Closed
phase_of false zero = Rising
phase_of false (suc d) = Falling

unfoldable pub phase : Sheet → Machine → Phase
phase s t = phase_of t.has_closed (at s t).downs

unfoldable pub does_stand : Standing → Bool
does_stand none = false
does_stand (stands d) = true

-- what stands, and the empty report where none does
unfoldable pub said : Standing → Demand
said none = record { null = false; items = 0 }
said (stands d) = d

-- the reports of all bidders
unfoldable pub said_all : Sheet → Machine → List Demand
said_all s t = tabulate (length s.bids) (λ k. said (t.standing (suc k))) 0

-- a report is missing
unfoldable pub is_missing : Sheet → Machine → Bool
is_missing s t = any_below (length s.bids) λ k. not (does_stand (t.standing (suc k)))

unfoldable pub stands_as : Standing → Demand → Bool
stands_as none e = false
stands_as (stands d) e = same_demand d e

-- each bidder's demand at those prices stands
unfoldable pub demands_stand : Sheet → Machine → Bool
demands_stand s t = all_below (length s.bids) λ k. stands_as (t.standing (suc k)) (nth (demands_at s (at s t).prices) k)

-- ---- what it does

-- a call is answered, or an end leaves the sheet
pub data Outcome : Type 0 where
  answers : Answer → Machine → Outcome
  leaves : Outcome

-- a number and no change, or else the next state
unfoldable pub tells : ℕ → Machine → Machine → Outcome
tells zero t u = answers (told 0) u
tells (suc j) t u = answers (told (suc j)) t

-- 19: no bids of 0 to 4,095 meet the machine's table of bidder k + 1 and explain the report at its prices
unfoldable pub unexplained_by : Sheet → Machine → ℕ → Demand → Bool
unexplained_by s t k d = unexplained s.items (t.tables k) (at s t).prices d

-- a report: 12, 7, 13, 8, 19; otherwise it stands for its bidder
unfoldable pub machine_report : Sheet → Machine → ℕ → Demand → Outcome
machine_report s t bidder d =
    tells
    (first
    (on 12 t.has_closed
    ∷ on 7 (bad_bidder (length s.bids) bidder)
    ∷ on 13 (does_stand (t.standing bidder))
    ∷ on 8 (unfit s.items d)
    ∷ on 19 (unexplained_by s t (bidder - 1) d)
    ∷ []))
    t (record { moves = t.moves; has_closed = t.has_closed; standing = λ i. cond (eqb i bidder) (stands d) (t.standing i); tables = t.tables })

-- a clear: 12; otherwise none stands
unfoldable pub machine_clear : Sheet → Machine → Outcome
machine_clear s t = tells (first (on 12 t.has_closed ∷ [])) t (record { moves = t.moves; has_closed = t.has_closed; standing = λ i. none; tables = t.tables })

-- the number of a read: 15, 3
unfoldable pub machine_read_number : Sheet → Machine → List ℕ → ℕ
machine_read_number s t out =
    first
    (on 15 (not t.has_closed)
    ∷ on 3 (ltb (length out) (closing_length s.items (length s.bids)))
    ∷ [])

-- the three lines of a read: the sheet's rounds, prices and names at its close, with which the sealed closing sheet begins
unfoldable pub three_lines : Sheet → List ℕ
three_lines s =
    let c : State = close s in
    closing_sheet s.items (length s.bids) c.ups c.downs c.prices (assignment_at s c.prices)

-- a read: 15, 3; otherwise it gives the sheet's rounds, prices and names
unfoldable pub machine_read : Sheet → Machine → List ℕ → Outcome
machine_read s t out =
    elim (machine_read_number s t out) [
      | zero ↦ answers (shown 0 (written_to out (three_lines s))) t
      | suc j ↦ answers (shown (suc j) out) t
    ]

-- the number of an end that does not find each bidder's demand standing: 12, 14, 19, then 16 or 17
unfoldable pub machine_end_number : Sheet → Machine → ℕ
machine_end_number s t =
    let rising : ℕ = excess_demand s.items (said_all s t) in
    first
    (on 12 t.has_closed
    ∷ on 14 (is_missing s t)
    ∷ on 19 (any_below (length s.bids) λ k. unexplained_by s t k (said (t.standing (suc k))))
    ∷ on 16 (is_falling (phase s t) && not (eqb rising 0))
    ∷ on 17 (is_rising (phase s t) && at_top s.items (at s t).prices rising)
    ∷ [])

-- the tables after a move: each narrowed by the sheet's demand
unfoldable pub narrowed_on : Sheet → Machine → ℕ → List (List ℤ)
narrowed_on s t k = narrowed s.items (t.tables k) (at s t).prices (nth (demands_at s (at s t).prices) k)

-- after a move no report stands any more; a close keeps reports and tables
unfoldable pub next : Sheet → Machine → Round → Machine
next s t (raised x) = record { moves = suc t.moves; has_closed = t.has_closed; standing = λ i. none; tables = narrowed_on s t }
next s t (lowered x) = record { moves = suc t.moves; has_closed = t.has_closed; standing = λ i. none; tables = narrowed_on s t }
next s t closed = record { moves = t.moves; has_closed = true; standing = t.standing; tables = t.tables }

-- an end that gets its number changes nothing; any other leaves the sheet
unfoldable pub turned : ℕ → Machine → Outcome
turned zero t = leaves
turned (suc j) t = answers (ended (refused (suc j))) t

-- an end: before the close, one that finds each bidder's demand standing is not turned down, and answers the path's next round, its kind and items, or closed
-- where the path is at its close; to any other a number may apply
unfoldable pub machine_end : Sheet → Machine → Outcome
machine_end s t =
    elim (not t.has_closed && demands_stand s t) [
      | true ↦ answers (ended (gives (round_of s t.moves))) (next s t (round_of s t.moves))
      | false ↦ turned (machine_end_number s t) t
    ]

unfoldable pub machine : Sheet → Machine → Call → Outcome
machine s t (reporting b d) = machine_report s t b d
machine s t ending = machine_end s t
machine s t clearing = machine_clear s t
machine s t (reading out) = machine_read s t out

-- ---- a list of calls: the machine's answers and its state after the list, or that it has left the sheet
pub data MachineRan : Type 0 where
  ran : List Answer → Machine → MachineRan
  left : MachineRan

unfoldable pub behind : Answer → MachineRan → MachineRan
behind a (ran xs t) = ran (a ∷ xs) t
behind a left = left

unfoldable pub machine_run : Sheet → Machine → List Call → MachineRan
machine_run s t [] = ran [] t
machine_run s t (c ∷ cs) = elim (machine s t c) [ answers a u ↦ behind a (machine_run s u cs) | leaves ↦ left ]
