-- `assignment::Ways::sweep` meets its contract: each turn of the loop takes the step of one mover. Assumes nothing.
use native.Mathlib.Omega.{arith}
use Rattle.assignment.proofs.Sweeping.{sweep-start, next-mover, mover-place, sweep-less, sweep-next, sweep-end}
use Rattle.assignment.proofs.Ways.sweep.Goals as goal

pub loop-rest-init : goal.loop-rest-init
loop-rest-init c =
    let a = c.args in
    let old = a.self.now in
    sweep-start a.x.now a.q a.turn a.movers old.next old.entered old.seen c.ranges.movers.fits (omega arith) (omega arith)

pub overflow_sub-b : goal.overflow_sub-b
overflow_sub-b c = omega (arith, next-mover c.loop-rest.invariant c.loop-rest-test.true c.lowest-b.result c.lowest-b.ensures)

pub bounds-x-b : goal.bounds-x-b
bounds-x-b c = omega (arith, next-mover c.loop-rest.invariant c.loop-rest-test.true c.lowest-b.result c.lowest-b.ensures)

pub overflow_add-turn : goal.overflow_add-turn
overflow_add-turn c = omega (arith, c.requires.1, next-mover c.loop-rest.invariant c.loop-rest-test.true c.lowest-b.result c.lowest-b.ensures)

pub enter-requires : goal.enter-requires
enter-requires c =
    let b = c.lowest-b in
    let next = next-mover c.loop-rest.invariant c.loop-rest-test.true b.result b.ensures in
    let small = mover-place c.loop-rest.invariant c.loop-rest-test.true b.result b.ensures c.requires.2 in
    (omega (arith, small), c.requires.0, omega (arith, next, c.requires.1))

pub loop-rest-smaller : goal.loop-rest-smaller
loop-rest-smaller c =
    let b = c.lowest-b in
    let r = c.without-rest in
    sweep-less c.loop-rest.invariant c.loop-rest-test.true b.result b.ensures r.result r.ensures

pub loop-rest-preserved : goal.loop-rest-preserved
loop-rest-preserved c =
    let b = c.lowest-b in
    let r = c.without-rest in
    let e = c.enter in
    sweep-next c.loop-rest.invariant c.loop-rest-test.true b.result b.ensures r.result r.ensures c.from-p.result c.from-p.ensures e.ensures.0 e.ensures.1

pub returns : goal.returns
returns c = (sweep-end c.loop-rest.invariant c.loop-rest-test.false, c.loop-rest.invariant.grown)
