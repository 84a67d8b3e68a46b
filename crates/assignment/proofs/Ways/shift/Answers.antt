-- `assignment::Ways::shift` meets its contract: the way comes nearer to its end with each move. Assumes nothing.
use Prim.Native.Nat.{ℕ, ◌+◌, ◌-◌, ◌<◌}
use mathlib.Core.Path.{◌≡◌, sym, ap, ◌∙◌, subst}
use native.Mathlib.Omega.{arith}
use lib.ListN.{get_or, set}
use Rattle.assignment.specs.Search.{goes_on}
use Rattle.assignment.proofs.Walking.{Walking, walk_start, walk-on, walk-done, seen-small, next_small, mover-small, time-falls}
use Rattle.assignment.proofs.Ways.shift.Goals as goal

pub give-requires : goal.give-requires
give-requires c =
    let way = c.requires in
    (omega (arith, way.turn.more, way.turn.most), omega (arith, seen-small way c.args.i way.reached))

pub goes_on-p-requires : goal.goes_on-p-requires
goes_on-p-requires c = omega (arith, seen-small c.requires c.args.i c.requires.reached)

pub loop-p-init : goal.loop-p-init
loop-p-init c =
    let a = c.args in
    let back : a.k + 1 - 1 ≡ a.k = omega arith in
    λ s. subst (λ (p : ℕ). Walking s p c.give.new.x) (sym c.goes_on-p.ensures)
    (walk_start s c.give.new.x (c.give.ensures.1 (omega arith) ∙ ap (λ (j : ℕ). set a.x.now j a.i) back))

pub offset_bounds-self-p : goal.offset_bounds-self-p
offset_bounds-self-p c = omega (arith, seen-small c.requires c.loop-p.p (c.loop-p.invariant c.requires).seen)

pub bounds-self-p : goal.bounds-self-p
bounds-self-p c = seen-small c.requires c.loop-p.p (c.loop-p.invariant c.requires).seen

pub bounds-self-p-in-loop-p : goal.bounds-self-p-in-loop-p
bounds-self-p-in-loop-p c = seen-small c.requires c.loop-p.p (c.loop-p.invariant c.requires).seen

pub give-requires-in-loop-p : goal.give-requires-in-loop-p
give-requires-in-loop-p c =
    let way = c.requires in
    let walking = c.loop-p.invariant way in
    (omega (arith, mover-small way walking (λ e. c.loop-p-test.true (e ∙ sym c.from-a.ensures))), omega (arith, next_small way walking (λ e. c.loop-p-test.true (e ∙ sym c.from-a.ensures))))

pub goes_on-p-requires-in-loop-p : goal.goes_on-p-requires-in-loop-p
goes_on-p-requires-in-loop-p c = omega (arith, next_small c.requires (c.loop-p.invariant c.requires) (λ e. c.loop-p-test.true (e ∙ sym c.from-a.ensures)))

pub loop-p-smaller : goal.loop-p-smaller
loop-p-smaller c =
    subst (λ (p : ℕ). get_or c.args.self.now.entered p 0 < get_or c.args.self.now.entered c.loop-p.p 0) (sym (c.goes_on-p-in-loop-p.ensures ∙ ap (goes_on c.args.spare) c.from-q.ensures))
    (time-falls c.requires (c.loop-p.invariant c.requires) (λ e. c.loop-p-test.true (e ∙ sym c.from-a.ensures)))

pub loop-p-preserved : goal.loop-p-preserved
loop-p-preserved c =
    let u = c.give-in-loop-p in
    λ s. subst (λ (p : ℕ). Walking s p u.new.x) (sym c.goes_on-p-in-loop-p.ensures)
    (walk-on s (c.loop-p.invariant s) (λ e. c.loop-p-test.true (e ∙ sym c.from-a.ensures)) c.from-b.result c.from-q.result c.from-b.ensures c.from-q.ensures u.new.x u.ensures.0 u.ensures.1)

pub returns : goal.returns
returns c = λ s. walk-done s c.loop-p.x (subst (λ (p : ℕ). Walking s p c.loop-p.x) (c.loop-p-test.false ∙ c.from-a.ensures) (c.loop-p.invariant s))
