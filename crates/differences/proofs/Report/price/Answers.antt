-- `differences::Report::price` meets its contract. Assumes nothing.
use Prim.Native.Nat.{ℕ, ◌≤◌}
use mathlib.Core.Path.{sym, ap, ◌∙◌, subst}
use native.Mathlib.Omega.{arith}
use Rattle.rule.specs.Sheet.{amount}
use Rattle.differences.proofs.Constraints.{amount-null, amount-item}
use Rattle.differences.proofs.Deciding.{low-prices}
use Rattle.differences.proofs.Report.price.Goals as goal

pub returns-then-i-eq0 : goal.returns-then-i-eq0
returns-then-i-eq0 c =
    let p = c.args.self.now.prices.now in
    (sym (ap (amount p) c.if-i-eq0.true ∙ amount-null p), omega arith)

pub returns : goal.returns
returns c =
    let a = c.args in
    let p = a.self.now.prices.now in
    let e = amount-item p a.i c.if-i-eq0.false in
    (e, subst (λ (x : ℕ). x ≤ 4095) (sym e) (low-prices p a.self.now.low a.i))
