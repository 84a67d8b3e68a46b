-- `console::opening` meets its contract. Assumes nothing.
use Prim.Native.Nat.{ℕ}
use mathlib.Core.Path.{◌≡◌, sym, ap, ◌∙◌}
use mathlib.Core.Bool.{Bool}
use Rattle.std.specs.Prelude.{None, Some}
use native.Mathlib.Omega.{arith}
use Rattle.digits.specs.Reading.{number_at}
use Rattle.digits.proofs.Walking.{was-read}
use Rattle.console.specs.Steps.{open_by}
use Rattle.console.proofs.Lines.{no_items, no-bidders, no-amounts, an-opening}
use Rattle.console.proofs.opening.Goals as goal

pub returns-in_err-items : goal.returns-in_err-items
returns-in_err-items c =
    let line = c.args.line.now in
    let none : number_at 2 line 1 ≡ None = was-read 2 1 line c.number_at.result _ (omega arith) c.number_at.ensures c.in_err-items.was in
    rw c.from_residual.ensures (no_items (open_by c.args.above) line none)

pub returns-in_err-bidders : goal.returns-in_err-bidders
returns-in_err-bidders c =
    let line = c.args.line.now in
    let m : ℕ = c.in_ok-items.field-0 in
    let items-are : number_at 2 line 1 ≡ Some m = was-read 2 1 line c.number_at.result _ (omega arith) c.number_at.ensures c.in_ok-items.was in
    let none : number_at 2 line 3 ≡ None = was-read 2 3 line c.number_at-2.result _ (omega arith) c.number_at-2.ensures c.in_err-bidders.was in
    rw c.from_residual-in_err-bidders.ensures (no-bidders (open_by c.args.above) line m items-are none)

pub returns-then-not-amounts_there : goal.returns-then-not-amounts_there
returns-then-not-amounts_there c =
    let line = c.args.line.now in
    let m : ℕ = c.in_ok-items.field-0 in
    let n : ℕ = c.in_ok-bidders.field-0 in
    let items-are : number_at 2 line 1 ≡ Some m = was-read 2 1 line c.number_at.result _ (omega arith) c.number_at.ensures c.in_ok-items.was in
    let bidders_are : number_at 2 line 3 ≡ Some n = was-read 2 3 line c.number_at-2.result _ (omega arith) c.number_at-2.ensures c.in_ok-bidders.was in
    no-amounts (open_by c.args.above) line m n items-are bidders_are (sym c.amounts_there.ensures ∙ c.if-not-amounts_there.true)

pub returns-then-above : goal.returns-then-above
returns-then-above c =
    let line = c.args.line.now in
    let m : ℕ = c.in_ok-items.field-0 in
    let n : ℕ = c.in_ok-bidders.field-0 in
    let items-are : number_at 2 line 1 ≡ Some m = was-read 2 1 line c.number_at.result _ (omega arith) c.number_at.ensures c.in_ok-items.was in
    let bidders_are : number_at 2 line 3 ≡ Some n = was-read 2 3 line c.number_at-2.result _ (omega arith) c.number_at-2.ensures c.in_ok-bidders.was in
    sym (ap (λ (b : Bool). Some (open_by b m n)) c.if-above.true)
    ∙ an-opening (open_by c.args.above) line m n items-are bidders_are (sym c.amounts_there.ensures ∙ c.if-not-amounts_there.false)

pub returns : goal.returns
returns c =
    let line = c.args.line.now in
    let m : ℕ = c.in_ok-items.field-0 in
    let n : ℕ = c.in_ok-bidders.field-0 in
    let items-are : number_at 2 line 1 ≡ Some m = was-read 2 1 line c.number_at.result _ (omega arith) c.number_at.ensures c.in_ok-items.was in
    let bidders_are : number_at 2 line 3 ≡ Some n = was-read 2 3 line c.number_at-2.result _ (omega arith) c.number_at-2.ensures c.in_ok-bidders.was in
    sym (ap (λ (b : Bool). Some (open_by b m n)) c.if-above.false)
    ∙ an-opening (open_by c.args.above) line m n items-are bidders_are (sym c.amounts_there.ensures ∙ c.if-not-amounts_there.false)
