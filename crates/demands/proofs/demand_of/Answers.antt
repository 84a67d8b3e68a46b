-- `demands::demand_of` meets its contract. The items so far are those of the highest surplus that are bid for. Assumes nothing.
use mathlib.Core.Path.{◌∙◌}
use native.Mathlib.Omega.{arith}
use lib.ListN.{length}
use Rattle.rule.specs.Demand.{demand}
use Rattle.round.proofs.Adding.{add-next, add-end}
use Rattle.demands.proofs.Surplus.{demanded_at, item-test, null-test}
use Rattle.demands.proofs.demand_of.Goals as goal

pub loop-i-preserved : goal.loop-i-preserved
loop-i-preserved c =
    let a = c.args in
    let top = c.highest-top in
    let at = c.loop-i in
    add-next 32 (demanded_at (length a.line.now) a.prices.now a.line.now) at.i (omega arith) at.items c.demanded.result c.add-items.result at.invariant
    (c.demanded.ensures ∙ item-test (length a.line.now) a.prices.now a.line.now top.result top.ensures at.i (omega arith)) c.add-items.ensures

pub returns : goal.returns
unfolding demand
returns c =
    let a = c.args in
    let top = c.highest-top in
    let at = c.loop-i in (
      null-test (length a.line.now) a.prices.now a.line.now top.result top.ensures,
      add-end (demanded_at (length a.line.now) a.prices.now a.line.now) at.i (length a.line.now) at.items at.invariant (omega arith) (omega arith),
      top.ensures,
    )
