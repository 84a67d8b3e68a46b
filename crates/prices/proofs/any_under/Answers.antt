-- `prices::any_under` meets its contract. Assumes nothing.
use Prim.Native.Nat.{ℕ, ◌-◌, min}
use mathlib.Core.Path.{refl, sym, ap, ◌∙◌}
use mathlib.Core.List.{List}
use native.Mathlib.Omega.{arith}
use lib.Dec.{ltb}
use lib.ListN.{length, get_or, drop, length-drop}
use lib.Seq.{take_all}
use Rattle.sets.specs.Count.{any_below}
use Rattle.prices.proofs.Amounts.{under_first, under_rest}
use Rattle.prices.proofs.any_under.Goals as goal

pub returns-then-first_under : goal.returns-then-first_under
returns-then-first_under c =
    let a = c.args in
    under_first a.prices.now a.floors.now _ refl (sym c.first_under.ensures ∙ c.if-first_under.true)

pub returns : goal.returns
returns c =
    let a = c.args in
    let n = min (length a.prices.now) (length a.floors.now) in
    let rest = take_all (length a.floors.now - n) (drop n a.floors.now) (omega (arith, length-drop {A = ℕ} n a.floors.now)) in
    under_rest a.prices.now a.floors.now n refl (sym c.first_under.ensures ∙ c.if-first_under.false) c.any_past.result
    (c.any_past.ensures ∙ ap (λ (xs : List ℕ). any_below (length xs) (λ k. ltb 0 (get_or xs k 0))) (rw c.min.ensures rest))
