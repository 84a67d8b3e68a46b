-- `least::shift` meets its contract: each turn fills an item, and what the taker had is next. Assumes nothing.
use Prim.Native.Nat.{◌+◌, ◌-◌}
use mathlib.Core.Path.{◌≡◌, ap, ◌∙◌}
use lib.ListN.{get_or}
use Rattle.least.specs.Steps.{at_option}
use Rattle.least.proofs.Walking.{walked-small, walked-less, walked_next, walked_end}
use Rattle.least.proofs.shift.Goals as goal

pub at-requires : goal.at-requires
at-requires c =
    let place : c.from-place.result ≡ c.loop-x.x - 1 = c.from-place.ensures in
    rw place (walked-small c.requires c.loop-x.invariant c.loop-x-test.true)

pub loop-x-smaller : goal.loop-x-smaller
loop-x-smaller c =
    let place : c.from-place.result ≡ c.loop-x.x - 1 = c.from-place.ensures in
    rw place (walked-less c.requires c.loop-x.invariant c.loop-x-test.true)

pub loop-x-preserved : goal.loop-x-preserved
loop-x-preserved c =
    let place : c.from-place.result ≡ c.loop-x.x - 1 = c.from-place.ensures in
    let taker = c.at.ensures ∙ ap (λ p. at_option (c.args.k + 1) c.loop-x.own (get_or c.args.via.now p 0)) place in
    rw place (walked_next c.requires c.loop-x.invariant c.loop-x-test.true c.at.result taker)

pub returns : goal.returns
returns c = λ s. walked_end s c.loop-x.own c.loop-x.x c.loop-x.invariant c.loop-x-test.false
