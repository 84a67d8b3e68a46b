-- `assignment::seats` meets its contract: each turn seats the holder of one item. Assumes nothing.
use Prim.Native.Nat.{ℕ}
use mathlib.Core.Path.{◌≡◌, subst}
use native.Mathlib.Omega.{arith}
use lib.ListN.{get_or}
use Rattle.assignment.specs.Turn.{Seat}
use Rattle.assignment.proofs.Places.{seats-none, seats-next}
use Rattle.assignment.proofs.seats.Goals as goal

pub loop-k-init : goal.loop-k-init
loop-k-init c = λ d l. seats-none c.args.holder.now d

pub loop-k-preserved : goal.loop-k-preserved
loop-k-preserved c =
    let at = c.loop-k in
    let b = c.from in
    let g = c.give in
    λ d l. seats-next c.args.holder.now at.k at.x g.new.x d l (omega arith) (at.invariant d l) b.result b.ensures (omega (arith, c.requires at.k)) g.ensures.0 g.ensures.1

pub returns : goal.returns
returns c =
    let at = c.loop-k in
    let e : at.k ≡ 32 = omega arith in
    λ d l. subst (λ (k : ℕ). Seat k c.args.holder.now d (get_or at.x d 0)) e (at.invariant d l)
