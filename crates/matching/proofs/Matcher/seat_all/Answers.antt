-- `matching::Matcher::seat_all` meets its contract: the bidders passed are placed if they must be, and nothing that was held is free. Assumes nothing.
use mathlib.Core.Path.{◌≡◌, subst}
use Prim.Native.Nat.{ℕ, ◌+◌, ◌-◌}
use native.Mathlib.Omega.{arith}
use Rattle.matching.specs.Chain.{Filled, Seated}
use Rattle.matching.proofs.Steps.{filled-self}
use Rattle.matching.proofs.Matcher.seat_all.Goals as goal

pub loop-b-init : goal.loop-b-init
loop-b-init c = (c.requires, filled-self c.args.self.now.holder)

pub loop-b-preserved : goal.loop-b-preserved
unfolding Filled
loop-b-preserved c =
    let at = c.loop-b in
    let a = c.args in
    let k = c.seat in
    let good = c.if-not-seat.false in
    let same : at.b ≡ at.b + 1 - 1 = omega arith in (
      subst (λ (x : ℕ). Seated a.demand.now a.bidders k.new.self.holder x) same (k.ensures.won good),
      λ i li f. k.ensures.filled good i li (at.invariant.1 i li f),
    )
