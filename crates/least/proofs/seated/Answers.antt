-- `least::seated` meets its contract: each turn adds the holder of one item. Assumes nothing.
use mathlib.Core.Path.{◌∙◌}
use native.Mathlib.Omega.{arith}
use lib.Seq.{get_or-take}
use Rattle.least.proofs.Offering.{seated-none, seated-more}
use Rattle.least.proofs.seated.Goals as goal

pub loop-holder-init : goal.loop-holder-init
loop-holder-init c = seated-none c.args.own.now

pub loop-holder-preserved : goal.loop-holder-preserved
loop-holder-preserved c =
    let at = c.loop-holder in
    let own = c.args.own.now in
    seated-more at.holder-index own at.seats c.with-seats.result at.invariant c.from.result (c.from.ensures ∙ get_or-take c.args.items own at.holder-index 0 (omega arith)) c.with-seats.ensures
