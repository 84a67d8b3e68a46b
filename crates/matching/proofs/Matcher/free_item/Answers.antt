-- `matching::Matcher::free_item` meets its contract. Assumes nothing.
use mathlib.Core.Path.{sym}
use native.Mathlib.Omega.{arith}
use Rattle.sets.proofs.Taking.{lowest-of, without-less}
use Rattle.matching.proofs.Looking.{look-start, look-next, look-found, look_none}
use Rattle.matching.proofs.Matcher.free_item.Goals as goal

pub loop-rest-init : goal.loop-rest-init
loop-rest-init c = look-start c.args.items c.args.self.now.holder c.ranges.items.fits

pub overflow_sub-item : goal.overflow_sub-item
overflow_sub-item c = omega (arith, (lowest-of 32 _ c.loop-rest.invariant.fits c.loop-rest-test.true _ c.lowest-item.ensures).0)

pub bounds-self-item : goal.bounds-self-item
bounds-self-item c = omega (arith, lowest-of 32 _ c.loop-rest.invariant.fits c.loop-rest-test.true _ c.lowest-item.ensures)

pub returns-then-self-item-eq0 : goal.returns-then-self-item-eq0
returns-then-self-item-eq0 c =
    let low = lowest-of 32 _ c.loop-rest.invariant.fits c.loop-rest-test.true _ c.lowest-item.ensures in
    (low.0, look-found _ _ _ c.loop-rest.invariant c.loop-rest-test.true _ c.lowest-item.ensures low.0 c.if-self-item-eq0.true)

pub loop-rest-smaller : goal.loop-rest-smaller
loop-rest-smaller c =
    let low = lowest-of 32 _ c.loop-rest.invariant.fits c.loop-rest-test.true _ c.lowest-item.ensures in
    without-less 32 _ _ _ c.without-rest.ensures low.0 low.1 low.2

pub loop-rest-preserved : goal.loop-rest-preserved
loop-rest-preserved c = look-next _ _ _ c.loop-rest.invariant _ c.if-self-item-eq0.false _ c.without-rest.ensures

pub returns : goal.returns
returns c = sym (look_none _ _ _ c.loop-rest.invariant c.loop-rest-test.false)
