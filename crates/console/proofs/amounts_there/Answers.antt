-- `console::amounts_there` meets its contract. Assumes nothing.
use Prim.Native.Nat.{ℕ, ◌-◌, ◌%◌}
use mathlib.Core.Path.{◌≡◌, sym, ap, ◌∙◌}
use native.Mathlib.Omega.{arith}
use lib.ListN.{length}
use borrow.Author.Count.{below_more}
use Rattle.console.proofs.Amounts.{odd-amounts, amounts-gone, amounts-read}
use Rattle.console.proofs.amounts_there.Goals as goal

pub returns-then-bytes-ne0 : goal.returns-then-bytes-ne0
returns-then-bytes-ne0 c = odd-amounts c.args.line.now (λ e. c.if-bytes-ne0.true (ap (λ (n : ℕ). n % 4) c.rest-bytes.ensures ∙ e))

pub loop-i-init : goal.loop-i-init
loop-i-init c = λ j l. absurd (omega arith)

pub amount_there-requires : goal.amount_there-requires
amount_there-requires c = omega (arith, c.rest-bytes.ensures)

pub returns-then-not-amount_there : goal.returns-then-not-amount_there
returns-then-not-amount_there c =
    let even : (length c.args.line.now - 5) % 4 ≡ 0 =
    sym (ap (λ (n : ℕ). n % 4) c.rest-bytes.ensures) ∙ c.if-bytes-ne0.false in
    let line = c.args.line.now in
    amounts-gone line (even) c.loop-i.i (omega (arith, c.rest-bytes.ensures)) (sym c.amount_there.ensures ∙ c.if-not-amount_there.true)

pub loop-i-preserved : goal.loop-i-preserved
loop-i-preserved c =
    below_more _ _ c.loop-i.invariant (sym c.amount_there.ensures ∙ c.if-not-amount_there.false)

pub returns : goal.returns
returns c =
    let even : (length c.args.line.now - 5) % 4 ≡ 0 =
    sym (ap (λ (n : ℕ). n % 4) c.rest-bytes.ensures) ∙ c.if-bytes-ne0.false in
    let line = c.args.line.now in
    amounts-read line (even) c.loop-i.i (omega (arith, c.rest-bytes.ensures)) c.loop-i.invariant
