-- `live::Auction::at_top` meets its contract. Of the items passed so far none in the set stands at 4,095. Assumes nothing.
use mathlib.Core.Path.{◌≡◌, sym, ap, ◌∙◌}
use mathlib.Core.List.{List}
use mathlib.Core.Bool.{Bool, true, false, ◌&&◌}
use Prim.Native.Nat.{ℕ, suc, ◌+◌}
use native.Mathlib.Omega.{arith}
use native.Mathlib.Numerals.{add-one}
use lib.Dec.{eqb}
use lib.ListN.{get_or}
use borrow.Author.Count.{below_more}
use borrow.Author.Tests.{eq-eqb, ne_eqb}
use Rattle.sets.specs.Bit.{has}
use Rattle.sets.proofs.Tests.{and_both, and-right-false, any-make, any_false}
use Rattle.rule.specs.Sheet.{amount}
use Rattle.live.specs.Calls.{at_top}
use Rattle.live.proofs.Auction.at_top.Invariants.{top_at}
use Rattle.live.proofs.Auction.at_top.Goals.{else-has-via-then-has+else-self-k-eq4095, else-has-via-else-has}
use Rattle.live.proofs.Auction.at_top.Goals as goal

module _ (prices : List ℕ) (set k : ℕ) where
  is-top : has set (k + 1) ≡ true → get_or prices k 0 ≡ 4095 → top_at prices set k ≡ true
  unfolding amount
  is-top e p = and_both _ (eqb (get_or prices k 0) 4095) (ap (has set) (sym (add-one k)) ∙ e) (eq-eqb (get_or prices k 0) 4095 p)

  outside : has set (k + 1) ≡ false → top_at prices set k ≡ false
  outside e = ap (λ (b : Bool). b && eqb (amount prices (suc k)) 4095) (ap (has set) (sym (add-one k)) ∙ e)

  lower : (get_or prices k 0 ≡ 4095 → ⊥) → top_at prices set k ≡ false
  unfolding amount
  lower p = and-right-false (has set (suc k)) (eqb (get_or prices k 0) 4095) (ne_eqb (get_or prices k 0) 4095 p)

pub returns-then-self-k-eq4095 : goal.returns-then-self-k-eq4095
unfolding at_top
returns-then-self-k-eq4095 c =
    let at = c.loop-k in
    let a = c.args in
    sym (any-make a.self.items (top_at a.self.prices a.set) at.k c.loop-k-test.true
    (is-top a.self.prices a.set at.k (sym c.has.ensures ∙ c.if-has.true) c.if-self-k-eq4095.true))

pub loop-k-preserved : goal.loop-k-preserved
loop-k-preserved c =
    let at = c.loop-k in
    let a = c.args in
    let here : top_at a.self.prices a.set at.k ≡ false =
    elim c.else-has.branch [
      | else-has-via-then-has+else-self-k-eq4095 w ↦ lower a.self.prices a.set at.k w.if-self-k-eq4095.false
      | else-has-via-else-has w ↦ outside a.self.prices a.set at.k (sym c.has.ensures ∙ w.if-has.false)
    ] in
    below_more _ at.k at.invariant here

pub returns : goal.returns
unfolding at_top
returns c =
    let at = c.loop-k in
    let a = c.args in
    sym (any_false a.self.items (top_at a.self.prices a.set) (λ j l. at.invariant j (omega (arith, l, c.loop-k-test.false))))
