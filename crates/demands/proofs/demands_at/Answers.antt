-- `demands::demands_at` meets its contract. Each turn collects one bidder's demand. Assumes nothing.
use mathlib.Core.Path.{sym, ◌∙◌}
use native.Mathlib.Omega.{arith}
use lib.ListN.{length}
use Rattle.demands.proofs.Demanding.{is-complete, nobody, collect-start, line-short, collect-next, collect-end}
use Rattle.demands.proofs.demands_at.Goals as goal

pub returns-then-not-complete : goal.returns-then-not-complete
returns-then-not-complete c =
    let a = c.args in
    nobody a.items a.bidders a.prices.now a.bids.now (sym c.complete.ensures ∙ c.if-not-complete.true)

pub loop-b-init : goal.loop-b-init
loop-b-init c =
    let a = c.args in (
      is-complete a.items a.bidders (length a.bids.now) (sym c.complete.ensures ∙ c.if-not-complete.false),
      collect-start a.items a.bidders a.prices.now a.bids.now,
    )

pub demand_of-d-requires : goal.demand_of-d-requires
demand_of-d-requires c =
    let a = c.args in
    line-short a.items a.bidders a.prices.now a.bids.now c.loop-b.invariant.0 c.loop-b.b (omega arith) c.row.result.now c.row.ensures.0

pub loop-b-preserved : goal.loop-b-preserved
loop-b-preserved c =
    let a = c.args in
    let at = c.loop-b in
    let d = c.demand_of-d in (
      at.invariant.0,
      collect-next a.items a.bidders a.prices.now a.bids.now at.invariant.0 at.b (omega arith) c.row.result.now c.row.ensures.0
          at.sets at.nulls at.surpluses at.invariant.1 d.result.items d.ensures.1 d.result.null d.ensures.0 d.result.surplus d.ensures.2
          c.add-nulls.result c.add-nulls.ensures,
    )

pub returns : goal.returns
returns c =
    let a = c.args in
    let at = c.loop-b in
    collect-end a.items a.bidders a.prices.now a.bids.now at.invariant.0 at.sets at.nulls at.surpluses at.b at.invariant.1 (omega arith)
