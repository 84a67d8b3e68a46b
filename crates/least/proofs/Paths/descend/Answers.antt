-- `least::Paths::descend` meets its contract: each turn enters the nearest item, until none is left. Assumes nothing.
use native.Mathlib.Omega.{arith}
use Rattle.least.proofs.Descending.{fall-lowest, fall-start, fall-small, fall-end, fall-holder, fall-enters, fall-fewer, fall-nearest, fall-next}
use Rattle.least.proofs.Paths.descend.Goals as goal

pub relax-low-requires : goal.relax-low-requires
relax-low-requires c =
    let d = c.requires.0 in
    (omega (arith, d.long, d.standing.table.max_items), d.standing.small, omega arith)

pub nearest-next-requires : goal.nearest-next-requires
nearest-next-requires c =
    let d = c.requires.0 in
    let low = fall-lowest d c.relax-low.new.self.dist c.args.self.now.left c.relax-low.result c.requires.3 c.relax-low.ensures.1 in
    rw c.relax-low.ensures.2 (d.standing.table.max_items, low.0, low.1)

pub loop-next-init : goal.loop-next-init
loop-next-init c =
    let a = c.args in
    rw c.relax-low.ensures.2 (fall-start c.requires.0 a.self.now.dist a.self.now.via a.self.now.left c.requires.1 c.requires.2 c.requires.3 c.relax-low.new.self.dist c.relax-low.new.self.via c.relax-low.ensures.0 c.nearest-next.result (rw c.relax-low.ensures.2 at c.nearest-next.ensures))

pub at-h-requires : goal.at-h-requires
at-h-requires c = fall-small c.requires.0 c.loop-next.invariant

pub overflow_sub-h : goal.overflow_sub-h
overflow_sub-h c = omega (arith, (fall-holder c.requires.0 c.loop-next.invariant (omega (arith, c.loop-next-test.true)) c.at-h.result c.at-h.ensures).0)

pub enter-reach-requires : goal.enter-reach-requires
enter-reach-requires c = fall-enters c.requires.0 c.loop-next.invariant (omega (arith, c.loop-next-test.true)) c.at-h.result c.at-h.ensures c.row-line.result.now c.row-line.ensures.0

pub nearest-next-requires-in-loop-next : goal.nearest-next-requires-in-loop-next
nearest-next-requires-in-loop-next c =
    let d = c.requires.0 in
    let e = c.enter-reach in
    let low = fall-nearest d c.loop-next.invariant (omega (arith, c.loop-next-test.true)) c.at-h.result c.at-h.ensures c.row-line.result.now c.row-line.ensures.0 e.new.self.dist e.new.self.via e.new.self.left e.result.u e.result.low e.ensures in
    (d.standing.table.max_items, low.0, low.1)

pub loop-next-smaller : goal.loop-next-smaller
loop-next-smaller c =
    let e = c.enter-reach in
    fall-fewer c.requires.0 c.loop-next.invariant (omega (arith, c.loop-next-test.true)) c.at-h.result c.at-h.ensures c.row-line.result.now c.row-line.ensures.0 e.new.self.dist e.new.self.via e.new.self.left e.result.u e.result.low e.ensures

pub loop-next-preserved : goal.loop-next-preserved
loop-next-preserved c =
    let e = c.enter-reach in
    fall-next c.requires.0 c.loop-next.invariant (omega (arith, c.loop-next-test.true)) c.at-h.result c.at-h.ensures c.row-line.result.now c.row-line.ensures.0 e.new.self.dist e.new.self.via e.new.self.left e.result.u e.result.low e.ensures c.nearest-next-in-loop-next.result c.nearest-next-in-loop-next.ensures

pub returns : goal.returns
returns c = fall-end c.requires.0 c.loop-next.invariant c.loop-next-test.false
