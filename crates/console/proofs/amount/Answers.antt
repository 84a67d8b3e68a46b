-- `console::amount` meets its contract. Assumes nothing.
use Prim.Native.Nat.{◌+◌, ◌*◌}
use mathlib.Core.Path.{◌≡◌, sym, ◌∙◌}
use Rattle.std.specs.Prelude.{Some}
use Rattle.std.proofs.lemmas.Option.{none-some}
use native.Mathlib.Omega.{arith}
use lib.ListN.{get_or}
use Rattle.digits.specs.Reading.{number_at}
use Rattle.digits.proofs.Numbers.{number_read}
use Rattle.digits.proofs.Walking.{was-read}
use Rattle.console.specs.Orders.{amounts_of}
use Rattle.console.proofs.Amounts.{all-amounts, past-amounts}
use Rattle.console.proofs.amount.Goals as goal

pub returns-then-rest-i : goal.returns-then-rest-i
returns-then-rest-i c =
    let line = c.args.line.now in
    past-amounts line c.requires.0 c.args.i (omega (arith, c.rest.ensures))

pub overflow_cast-result : goal.overflow_cast-result
overflow_cast-result c =
    let a = c.args in
    let read : number_at 4 a.line.now (5 + 4 * a.i) ≡ Some c.in-Some.a = was-read 4 (5 + 4 * a.i) a.line.now c.number_at.result _ (omega arith) c.number_at.ensures c.in-Some.is in
    let small = (number_read a.line.now 4 (5 + 4 * a.i) c.in-Some.a (omega (arith, c.rest.ensures)) read).0 in
    omega (arith, small)

pub returns-in-Some : goal.returns-in-Some
returns-in-Some c =
    let a = c.args in
    let read : number_at 4 a.line.now (5 + 4 * a.i) ≡ Some c.in-Some.a = was-read 4 (5 + 4 * a.i) a.line.now c.number_at.result _ (omega arith) c.number_at.ensures c.in-Some.is in
    cc (read, (all-amounts a.line.now c.requires.0).1 a.i (omega (arith, c.rest.ensures)))

pub returns-in-None : goal.returns-in-None
returns-in-None c =
    let a = c.args in
    let there = was-read 4 (5 + 4 * a.i) a.line.now c.number_at.result _ (omega arith) c.number_at.ensures c.in-None.is in
    absurd (none-some (get_or (amounts_of a.line.now) a.i 0) (sym there ∙ (all-amounts a.line.now c.requires.0).1 a.i (omega (arith, c.rest.ensures))))
