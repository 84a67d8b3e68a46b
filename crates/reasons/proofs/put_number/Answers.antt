-- `reasons::put_number` meets its contract. Assumes nothing.
use mathlib.Core.Path.{sym}
use native.Mathlib.Omega.{arith}
use Rattle.lines.specs.Lines.{number_line}
use Rattle.lines.proofs.Numbered.{number-long, refusal-put}
use Rattle.reasons.proofs.Fitting.{not_written, is-written}
use Rattle.reasons.proofs.put_number.Goals as goal

pub returns-then-out-lt3 : goal.returns-then-out-lt3
returns-then-out-lt3 c = let a = c.args in not_written a.out.now (number_line a.why) (omega (arith, number-long a.why, c.if-out-lt3.true))

pub returns : goal.returns
returns c =
    let a = c.args in
    let put = c.write_refusal in
    is-written a.out.now (number_line a.why) 3 put.new.out (sym (number-long a.why)) (omega (arith, number-long a.why, c.if-out-lt3.false))
    (refusal-put a.out.now put.new.out a.why c.if-out-lt3.false put.ensures)
