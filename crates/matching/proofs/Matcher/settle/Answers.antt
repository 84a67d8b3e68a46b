-- `matching::Matcher::settle` meets its contract. Assumes nothing.
use mathlib.Core.Path.{◌≡◌, subst}
use Prim.Native.Nat.{ℕ, ◌<◌, ◌+◌, ◌-◌}
use native.Mathlib.Omega.{arith}
use lib.ListN.{set}
use Rattle.matching.specs.Chain.{Settled}
use Rattle.matching.proofs.Settling.{settle-won, settle-failed}
use Rattle.matching.proofs.Looking.{free-item, settle-free}
use Rattle.matching.proofs.Matcher.settle.Goals as goal

pub give-requires : goal.give-requires
give-requires c =
    let lb : c.args.bidder.number - 1 < 64 = omega arith in
    free-item _ _ _ _ lb c.requires _ c.but.ensures _ c.in-Some.ensures.1 (λ z. omega (arith, c.in-Some.ensures.0))

pub returns-in-Some : goal.returns-in-Some
returns-in-Some c =
    let a = c.args in
    let m = a.self.now in
    let up : a.bidder.number - 1 + 1 ≡ a.bidder.number = omega arith in
    let lb : a.bidder.number - 1 < 64 = omega arith in
    rw c.give.ensures
    (subst (λ (x : ℕ). Settled a.demand.now (set m.holder (c.in-Some.item - 1) x) m.entered x) up
    (settle-free _ _ _ _ lb c.requires _ c.but.ensures _ c.in-Some.ensures.1 (λ z. omega (arith, c.in-Some.ensures.0))))

pub returns-then-place : goal.returns-then-place
returns-then-place c =
    let a = c.args in
    let k = c.place in
    let up : a.bidder.number - 1 + 1 ≡ a.bidder.number = omega arith in
    subst (λ (x : ℕ). Settled a.demand.now k.new.self.holder a.self.now.entered x) up
    (settle-won _ _ _ _ _ c.requires (k.ensures.won c.if-place.true) (k.ensures.apart c.if-place.true))

pub returns-else-place : goal.returns-else-place
returns-else-place c =
    let a = c.args in
    let k = c.place in
    let up : a.bidder.number - 1 + 1 ≡ a.bidder.number = omega arith in
    let lb : a.bidder.number - 1 < 64 = omega arith in
    subst (λ (x : ℕ). Settled a.demand.now k.new.self.holder k.new.self.entered x) up
    (settle-failed _ _ _ _ _ _ lb c.requires (k.ensures.failed c.if-place.false) k.ensures.more)
