-- `sheet::answer` meets its contract. Assumes nothing.
use Prim.Native.Nat.{◌≤◌}
use mathlib.Core.Path.{sym, ap}
use lib.ListN.{length}
use Rattle.sheet.proofs.Answers.{closing_long, closing-lent, line-long, line-lent, no_answer, nothing_lent}
use Rattle.sheet.proofs.answer.Goals as goal

pub returns-then-out-lt3 : goal.returns-then-out-lt3
returns-then-out-lt3 c =
    let a = c.args in
    (sym (ap length (no_answer a.bytes.now (length a.out.now) c.if-out-lt3.true)), nothing_lent a.bytes.now a.out.now c.if-out-lt3.true)

pub returns-in-Ok : goal.returns-in-Ok
returns-in-Ok c =
    let a = c.args in
    let done = c.close in
    let room : 3 ≤ length a.out.now = c.if-out-lt3.false in (
      closing_long a.bytes.now a.out.now done.result done.new.out done.ensures room c.in-Ok.length c.in-Ok.is,
      closing-lent a.bytes.now a.out.now done.result done.new.out done.ensures room c.in-Ok.length c.in-Ok.is,
    )

pub returns-in-Err : goal.returns-in-Err
returns-in-Err c =
    let a = c.args in
    let done = c.close in
    let enough : 3 ≤ length a.out.now = c.if-out-lt3.false in (
      line-long a.bytes.now a.out.now done.result done.new.out done.ensures enough c.in-Err.why c.in-Err.is,
      line-lent a.bytes.now a.out.now done.result done.new.out done.ensures enough c.in-Err.why c.in-Err.is c.write_refusal.new.out c.write_refusal.ensures,
    )
