-- `console::answer` meets its contract. Assumes nothing.
use mathlib.Core.Path.{ap}
use native.Mathlib.Omega.{arith}
use lib.ListN.{length}
use lib.Seq.{length-take-le}
use Rattle.console.proofs.Answering.{other-tables, no_room, with-room, in-front}
use Rattle.console.proofs.answer.Goals as goal

pub returns-then-tables-ne-HELD_NUMBERS : goal.returns-then-tables-ne-HELD_NUMBERS
returns-then-tables-ne-HELD_NUMBERS c = let a = c.args in other-tables a.held a.tables.now a.line.now a.out.now c.if-tables-ne-HELD_NUMBERS.true

pub returns-in_default : goal.returns-in_default
returns-in_default c = let a = c.args in no_room a.held a.tables.now a.line.now a.out.now c.in_default.ensures.cases

pub returns : goal.returns
returns c =
    let a = c.args in
    let front = c.in-Some.ensures.cases in
    with-room a.held a.tables.now a.line.now a.out.now _ _ _ c.if-tables-ne-HELD_NUMBERS.false front.enough
    (in-front a.held a.tables.now a.line.now a.out.now 226 c.in-Some.room.now c.carry_out.new.out _ _ _ front.same front.enough (omega (arith, c.carry_out.ensures.long, ap length front.same, length-take-le 226 a.out.now front.enough)) c.carry_out.ensures.answers)
