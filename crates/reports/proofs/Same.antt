-- Two reports are the same if and only if the test says so. Assumes nothing.
use Prim.Native.Nat.{ℕ}
use mathlib.Core.Path.{◌≡◌, refl, sym, ap, ◌∙◌}
use mathlib.Core.Bool.{Bool, true, false, not}
use lib.Dec.{eqb}
use borrow.Author.Tests.{eqb-true, eq-eqb}
use Rattle.sets.proofs.Counting.{and_left, and_right, and_both}
use Rattle.rule.specs.Demand.{Demand}
use Rattle.reports.specs.Report.{same_bool, same_demand}

pub same-bool : (a b : Bool) → same_bool a b ≡ true → a ≡ b
unfolding same_bool
same-bool true true e = refl
same-bool true false e = sym e
same-bool false true e = e
same-bool false false e = refl

pub bool_same : (a b : Bool) → a ≡ b → same_bool a b ≡ true
unfolding same_bool
bool_same true b e = sym e
bool_same false b e = ap not (sym e)

pub same-demand : (d e : Demand) → same_demand d e ≡ true → d ≡ e
unfolding same_demand
same-demand d e h =
    let a = same-bool d.null e.null (and_left (same_bool d.null e.null) (eqb d.items e.items) h) in
    let b = eqb-true d.items e.items (and_right (same_bool d.null e.null) (eqb d.items e.items) h) in
    ap (λ (x : Bool). record { null = x; items = d.items }) a ∙ ap (λ (y : ℕ). record { null = e.null; items = y }) b

pub same_self : (d : Demand) → same_demand d d ≡ true
unfolding same_demand
same_self d =
    and_both (same_bool d.null d.null) (eqb d.items d.items) (bool_same d.null d.null refl) (eq-eqb d.items d.items refl)

-- K5: null alone, and null with an item beside it, are two reports
pub beside-null : same_demand (record { null = true; items = 0 }) (record { null = true; items = 1 }) ≡ false
unfolding same_demand same_bool
beside-null = refl
