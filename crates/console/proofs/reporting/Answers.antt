-- `console::reporting` meets its contract. Assumes nothing.
use Prim.Native.Nat.{ℕ}
use mathlib.Core.Path.{◌≡◌}
use Rattle.std.specs.Prelude.{None, Some}
use native.Mathlib.Omega.{arith}
use Rattle.digits.specs.Reading.{number_at}
use Rattle.digits.proofs.Walking.{was-read}
use Rattle.console.proofs.Lines.{not-long, no-bidder, no-null, no-set, other-null, a-report}
use Rattle.console.proofs.reporting.Goals as goal

pub returns-then-line-ne13 : goal.returns-then-line-ne13
returns-then-line-ne13 c = not-long c.args.line.now c.if-line-ne13.true

pub returns-in_err-bidder : goal.returns-in_err-bidder
returns-in_err-bidder c =
    let line = c.args.line.now in
    let long = c.if-line-ne13.false in
    let none : number_at 2 line 1 ≡ None = was-read 2 1 line c.number_at.result _ (omega arith) c.number_at.ensures c.in_err-bidder.was in
    rw c.from_residual.ensures (no-bidder line long none)

pub returns-in_err-null : goal.returns-in_err-null
returns-in_err-null c =
    let line = c.args.line.now in
    let long = c.if-line-ne13.false in
    let b : ℕ = c.in_ok-bidder.field-0 in
    let bidder-is : number_at 2 line 1 ≡ Some b = was-read 2 1 line c.number_at.result _ (omega arith) c.number_at.ensures c.in_ok-bidder.was in
    let none : number_at 2 line 3 ≡ None = was-read 2 3 line c.number_at-2.result _ (omega arith) c.number_at-2.ensures c.in_err-null.was in
    rw c.from_residual-in_err-null.ensures (no-null line long b bidder-is none)

pub returns-in_err-set : goal.returns-in_err-set
returns-in_err-set c =
    let line = c.args.line.now in
    let long = c.if-line-ne13.false in
    let b : ℕ = c.in_ok-bidder.field-0 in
    let bidder-is : number_at 2 line 1 ≡ Some b = was-read 2 1 line c.number_at.result _ (omega arith) c.number_at.ensures c.in_ok-bidder.was in
    let x : ℕ = c.in_ok-null.null in
    let null-is : number_at 2 line 3 ≡ Some x = was-read 2 3 line c.number_at-2.result _ (omega arith) c.number_at-2.ensures c.in_ok-null.was in
    let none : number_at 8 line 5 ≡ None = was-read 8 5 line c.number_at-3.result _ (omega arith) c.number_at-3.ensures c.in_err-set.was in
    rw c.from_residual-in_err-set.ensures (no-set line long b x bidder-is null-is none)

pub returns-then-null-gt1 : goal.returns-then-null-gt1
returns-then-null-gt1 c =
    let line = c.args.line.now in
    let long = c.if-line-ne13.false in
    let b : ℕ = c.in_ok-bidder.field-0 in
    let bidder-is : number_at 2 line 1 ≡ Some b = was-read 2 1 line c.number_at.result _ (omega arith) c.number_at.ensures c.in_ok-bidder.was in
    let x : ℕ = c.in_ok-null.null in
    let null-is : number_at 2 line 3 ≡ Some x = was-read 2 3 line c.number_at-2.result _ (omega arith) c.number_at-2.ensures c.in_ok-null.was in
    let s : ℕ = c.in_ok-set.set in
    let set_is : number_at 8 line 5 ≡ Some s = was-read 8 5 line c.number_at-3.result _ (omega arith) c.number_at-3.ensures c.in_ok-set.was in
    other-null line long b x s bidder-is null-is set_is c.if-null-gt1.true

pub returns : goal.returns
returns c =
    let line = c.args.line.now in
    let long = c.if-line-ne13.false in
    let b : ℕ = c.in_ok-bidder.field-0 in
    let bidder-is : number_at 2 line 1 ≡ Some b = was-read 2 1 line c.number_at.result _ (omega arith) c.number_at.ensures c.in_ok-bidder.was in
    let x : ℕ = c.in_ok-null.null in
    let null-is : number_at 2 line 3 ≡ Some x = was-read 2 3 line c.number_at-2.result _ (omega arith) c.number_at-2.ensures c.in_ok-null.was in
    let s : ℕ = c.in_ok-set.set in
    let set_is : number_at 8 line 5 ≡ Some s = was-read 8 5 line c.number_at-3.result _ (omega arith) c.number_at-3.ensures c.in_ok-set.was in
    a-report line long b x s bidder-is null-is set_is c.if-null-gt1.false
