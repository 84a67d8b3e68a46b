-- `reasons::Move::counts` meets its contract. Assumes nothing.
use Prim.Native.Nat.{ℕ}
use mathlib.Core.Path.{◌≡◌, sym, ap, ◌∙◌}
use mathlib.Core.Bool.{not}
use lib.Dec.{eqb}
use Rattle.rule.specs.Demand.{Demand}
use Rattle.reasons.specs.Steps.{counts_for}
use Rattle.reasons.specs.declared.Move.{Move}
use Rattle.reasons.proofs.Tests.{in-test, null-test, out-test}
use Rattle.reasons.proofs.Move.counts.Goals as goal

-- by the case that was taken
by : (x y : Move) (s : ℕ) (d : Demand) → x ≡ y → counts_for y 32 s d ≡ counts_for x 32 s d
by x y s d e = ap (λ (m : Move). counts_for m 32 s d) (sym e)

pub returns-then-not-null : goal.returns-then-not-null
returns-then-not-null c =
    let a = c.args in
    let d : Demand = record { null = a.null; items = a.items } in
    ap (λ (s : ℕ). eqb s 0) c.but.ensures ∙ out-test d a.set c.if-not-null.true ∙ by a.self _ a.set d c.in-Rise.is

pub returns-else-not-null : goal.returns-else-not-null
returns-else-not-null c =
    let a = c.args in
    let d : Demand = record { null = a.null; items = a.items } in
    ap not c.if-not-null.false ∙ null-test d a.set c.if-not-null.false ∙ by a.self _ a.set d c.in-Rise.is

pub returns-in-Fall : goal.returns-in-Fall
returns-in-Fall c =
    let a = c.args in
    let d : Demand = record { null = a.null; items = a.items } in
    ap (λ (s : ℕ). not (eqb s 0)) c.common.ensures ∙ in-test d a.set ∙ by a.self _ a.set d c.in-Fall.is
