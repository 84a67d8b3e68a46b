-- A live list: calls and answers as data, and the calls of crate `live` one after the other. Document 01, "A live list"; the lent tables are document 02's, #107.
-- Assumes nothing: these are definitions.
use Rattle.std.specs.Prelude.{ℕ, List, [], ◌∷◌, ℤ}
use Rattle.rule.specs.Demand.{Demand}
use Rattle.live.specs.Calls.{report, clear, Ending, end_answer, end_next, end_tables}
use Rattle.live.specs.Reading.{read_number, read_bytes}
use Rattle.live.specs.declared.Auction.{Auction}

-- report, end, clear and read calls, every argument but the record and the tables
pub data Call : Type 0 where
  reporting : (bidder : ℕ) (said : Demand) → Call
  ending clearing : Call
  reading : (out : List ℕ) → Call

-- a report or a clear is told its number, or 0 if it is not turned down; an end gives a round or its number; a read gives its number, or 0, and the lent bytes
-- afterwards
pub data Answer : Type 0 where
  told : ℕ → Answer
  ended : Ending → Answer
  shown : ℕ → List ℕ → Answer

-- what the caller holds from call to call: the record that was handed back last, and the lent tables as the last call left them
pub record Held : Type 0 where
  pub auction : Auction
  pub tables : List ℤ

-- a call: its answer, and what is held afterwards. Only an end changes a table; clear and read take none
pub record Answered : Type 0 where
  pub answer : Answer
  pub next : Held

unfoldable pub call : Held → Call → Answered
call h (reporting b d) =
    record {
      answer = told (report h.auction h.tables b d).number;
      next = record { auction = (report h.auction h.tables b d).next; tables = h.tables };
    }
call h ending =
    record {
      answer = ended (end_answer h.auction h.tables);
      next = record { auction = end_next h.auction h.tables; tables = end_tables h.auction h.tables };
    }
call h clearing = record { answer = told (clear h.auction).number; next = record { auction = (clear h.auction).next; tables = h.tables } }
call h (reading out) = record { answer = shown (read_number h.auction out) (read_bytes h.auction out); next = h }

-- calls one after the other, each on what the one before left: the answers, and what is held after the list
pub record Ran : Type 0 where
  pub answers : List Answer
  pub last : Held

unfoldable pub run : Held → List Call → Ran
run h [] = record { answers = []; last = h }
run h (c ∷ cs) =
    let a : Answered = call h c in
    let rest : Ran = run a.next cs in
    record { answers = a.answer ∷ rest.answers; last = rest.last }
