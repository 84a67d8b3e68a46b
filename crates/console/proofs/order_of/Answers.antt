-- `console::order_of` meets its contract. Assumes nothing.
use Prim.Native.Nat.{ℕ}
use mathlib.Core.Path.{◌≡◌, ap, ◌∙◌}
use native.Mathlib.Omega.{arith}
use borrow.Author.Rules.{rules}
use Rattle.std.specs.Prelude.{Option, unwrap_or}
use Rattle.console.specs.declared.Order.{Order}
use Rattle.console.specs.declared.Order.TheVariants.{Unknown}
use Rattle.console.proofs.Lines.{opens-it, opens-above-it, reports-it, not-one, one-letter}
use Rattle.console.proofs.order_of.Goals as goal

-- an order, if it is one
or-unknown : (o p : Option Order) (r : Order) → r ≡ unwrap_or o Unknown → o ≡ p → r ≡ unwrap_or p Unknown
or-unknown o p r e q = e ∙ ap (λ (x : Option Order). unwrap_or x Unknown) q

pub returns-in-111 : goal.returns-in-111
returns-in-111 c =
    opens-it c.args.line.now c.first_byte-first.result c.first_byte-first.ensures c.in-111.is c.unwrap_or.result
    (or-unknown _ _ _ c.unwrap_or.ensures c.opening.ensures)

pub returns-in-102 : goal.returns-in-102
returns-in-102 c =
    opens-above-it c.args.line.now c.first_byte-first.result c.first_byte-first.ensures (λ e. omega (arith, e)) c.in-102.is c.unwrap_or-in-102.result
    (or-unknown _ _ _ c.unwrap_or-in-102.ensures c.opening-in-102.ensures)

pub returns-in-114 : goal.returns-in-114
returns-in-114 c =
    reports-it c.args.line.now c.first_byte-first.result c.first_byte-first.ensures (λ e. omega (arith, e)) (λ e. omega (arith, e)) c.in-114.is
    c.unwrap_or-in-114.result (or-unknown _ _ _ c.unwrap_or-in-114.ensures c.reporting.ensures)

pub returns-in_default : goal.returns-in_default
returns-in_default c =
    let b : ℕ = c.first_byte-first.result in
    let no-o : b ≡ 111 → ⊥ = search rules in
    let no-f : b ≡ 102 → ⊥ = search rules in
    let no-r : b ≡ 114 → ⊥ = search rules in
    one-letter c.args.line.now b c.first_byte-first.ensures no-o no-f no-r c.if-line-eq1.true c.letter.result c.letter.ensures

pub returns-in_default-2 : goal.returns-in_default-2
returns-in_default-2 c =
    let b : ℕ = c.first_byte-first.result in
    let no-o : b ≡ 111 → ⊥ = search rules in
    let no-f : b ≡ 102 → ⊥ = search rules in
    let no-r : b ≡ 114 → ⊥ = search rules in
    not-one c.args.line.now b c.first_byte-first.ensures no-o no-f no-r c.if-line-eq1.false
