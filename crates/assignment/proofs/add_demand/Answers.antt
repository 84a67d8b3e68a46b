-- `assignment::add_demand` meets its contract: each turn adds the bidder for one item. Assumes nothing.
use native.Mathlib.Omega.{arith}
use Rattle.assignment.proofs.Demanding.{add_start, next-item, add-less, add-next, add-end}
use Rattle.assignment.proofs.add_demand.Goals as goal

pub loop-rest-init : goal.loop-rest-init
loop-rest-init c = add_start c.args.who.now c.args.items c.args.bidder (omega arith) c.ranges.items.fits

pub offset_bounds-who-i : goal.offset_bounds-who-i
offset_bounds-who-i c = omega (arith, next-item c.loop-rest.invariant c.loop-rest-test.true c.lowest-i.result c.lowest-i.ensures)

pub bounds-who-i : goal.bounds-who-i
bounds-who-i c = omega (arith, next-item c.loop-rest.invariant c.loop-rest-test.true c.lowest-i.result c.lowest-i.ensures)

pub bounds-who-i-in-loop-rest : goal.bounds-who-i-in-loop-rest
bounds-who-i-in-loop-rest c = omega (arith, next-item c.loop-rest.invariant c.loop-rest-test.true c.lowest-i.result c.lowest-i.ensures)

pub loop-rest-smaller : goal.loop-rest-smaller
loop-rest-smaller c =
    let i = c.lowest-i in
    let r = c.without-rest in
    add-less c.loop-rest.invariant c.loop-rest-test.true i.result i.ensures r.result r.ensures

pub loop-rest-preserved : goal.loop-rest-preserved
loop-rest-preserved c =
    let i = c.lowest-i in
    let r = c.without-rest in
    add-next c.loop-rest.invariant c.loop-rest-test.true i.result i.ensures r.result r.ensures

pub returns : goal.returns
returns c = add-end c.loop-rest.invariant c.loop-rest-test.false
