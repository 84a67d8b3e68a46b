-- `assignment::Standing::search` meets its contract: each turn expands one place, until all that are seen are done. Assumes nothing.
use Prim.Native.Nat.{ℕ, ◌+◌, ◌-◌}
use mathlib.Core.Path.{refl, ap, ◌∙◌}
use mathlib.Core.Bool.{◌||◌}
use lib.Dec.{eqb}
use native.Mathlib.Omega.{arith}
use Rattle.sets.specs.Bit.{has, set_of}
use Rattle.sets.proofs.Members.{alone-with}
use Rattle.assignment.proofs.Searching.{fresh-place, search-start, turn_small, mover-small, search-next, search-settled, search-end}
use Rattle.assignment.proofs.Standing.search.Goals as goal

pub loop-done-init : goal.loop-done-init
loop-done-init c =
    let a = c.args in
    let r = c.only in
    λ s.
    search-start s a.unpriced a.wish _ _ refl refl r.result
    (r.ensures ∙ alone-with 64 (c.from-a.result + 1) ∙ ap (λ (v : ℕ). set_of 64 (λ j. has 0 j || eqb j (v + 1))) c.from-a.ensures)

pub overflow_sub-q : goal.overflow_sub-q
overflow_sub-q c =
    let at = c.loop-done in
    let g = at.invariant c.requires.0 in
    let f = fresh-place g c.loop-done-test.true c.but.result c.but.ensures c.lowest-q.result c.lowest-q.ensures in
    f.pos

pub pool-requires : goal.pool-requires
pool-requires c =
    let at = c.loop-done in
    let g = at.invariant c.requires.0 in
    let f = fresh-place g c.loop-done-test.true c.but.result c.but.ensures c.lowest-q.result c.lowest-q.ensures in
    (f.small, turn_small g)

pub offset_bounds-self-q : goal.offset_bounds-self-q
offset_bounds-self-q c =
    let at = c.loop-done in
    let g = at.invariant c.requires.0 in
    let f = fresh-place g c.loop-done-test.true c.but.result c.but.ensures c.lowest-q.result c.lowest-q.ensures in
    omega (arith, f.small)

pub bounds-self-q : goal.bounds-self-q
bounds-self-q c =
    let at = c.loop-done in
    let g = at.invariant c.requires.0 in
    let f = fresh-place g c.loop-done-test.true c.but.result c.but.ensures c.lowest-q.result c.lowest-q.ensures in
    f.small

pub sweep-requires : goal.sweep-requires
sweep-requires c =
    let at = c.loop-done in
    let g = at.invariant c.requires.0 in
    let f = fresh-place g c.loop-done-test.true c.but.result c.but.ensures c.lowest-q.result c.lowest-q.ensures in
    let m = c.common-movers in
    (f.small, turn_small g, mover-small g (c.lowest-q.result - 1) f.on m.result m.ensures)

pub overflow_add-q : goal.overflow_add-q
overflow_add-q c =
    let at = c.loop-done in
    let g = at.invariant c.requires.0 in
    let f = fresh-place g c.loop-done-test.true c.but.result c.but.ensures c.lowest-q.result c.lowest-q.ensures in
    omega (arith, f.small)

pub overflow_add-turn : goal.overflow_add-turn
overflow_add-turn c = omega (arith, turn_small (c.loop-done.invariant c.requires.0))

pub loop-done-smaller : goal.loop-done-smaller
loop-done-smaller c = omega (arith, turn_small (c.loop-done.invariant c.requires.0))

pub loop-done-preserved : goal.loop-done-preserved
loop-done-preserved c =
    let at = c.loop-done in
    let g = at.invariant c.requires.0 in
    let f = fresh-place g c.loop-done-test.true c.but.result c.but.ensures c.lowest-q.result c.lowest-q.ensures in
    let m = c.common-movers in
    let p = c.pool in
    let w = c.sweep in
    let l = c.but-left in
    let d = c.with in
    let e = c.settled-done in
    λ s. search-settled (search-next (at.invariant s) (c.lowest-q.result - 1) f.on m.result m.ensures p.ensures w.ensures.0 w.ensures.1 f.off l.result d.result l.ensures d.ensures)
    e.result e.ensures.0 e.ensures.1

pub returns : goal.returns
returns c = λ s. search-end (c.loop-done.invariant s) c.loop-done-test.false
