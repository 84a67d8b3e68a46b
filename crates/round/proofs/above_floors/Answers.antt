-- `round::above_floors` meets its contract. Each turn adds one item, if its price is above the floor. Assumes nothing.
use Prim.Native.Nat.{ℕ, ◌+◌}
use mathlib.Core.Path.{◌≡◌, refl, sym, ap, ap₂}
use mathlib.Core.List.{List}
use native.Mathlib.Omega.{arith}
use native.Mathlib.Numerals.{add-one}
use lib.Dec.{ltb}
use lib.ListN.{get_or}
use Rattle.sets.specs.Bit.{set_of}
use Rattle.rule.specs.Sheet.{amount}
use Rattle.rule.specs.Excess.{above_floors}
use Rattle.round.proofs.Adding.{add-next, add-end}
use Rattle.round.proofs.above_floors.Goals as goal

-- item k + 1 has the price at place k
amount-next : (p : List ℕ) (k : ℕ) → amount p (k + 1) ≡ get_or p k 0
unfolding amount
amount-next p k = ap (amount p) (add-one k)

pub loop-i-init : goal.loop-i-init
unfolding set_of
loop-i-init c = refl

pub loop-i-preserved : goal.loop-i-preserved
loop-i-preserved c =
    let a = c.args in
    let at = c.loop-i in
    add-next 32 (λ j. ltb (amount a.floors.now j) (amount a.prices.now j)) at.i (omega arith) at.s
    (ltb (get_or a.floors.now at.i 0) (get_or a.prices.now at.i 0)) c.add-s.result at.invariant
    (sym (ap₂ ltb (amount-next a.floors.now at.i) (amount-next a.prices.now at.i))) c.add-s.ensures

pub returns : goal.returns
unfolding above_floors
returns c = add-end _ c.loop-i.i 32 c.loop-i.s c.loop-i.invariant (omega arith) (omega arith)
