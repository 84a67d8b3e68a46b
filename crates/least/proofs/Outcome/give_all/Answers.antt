-- `least::Outcome::give_all` meets its contract: each turn gives one bidder their option. Assumes nothing.
use native.Mathlib.Omega.{arith}
use Rattle.least.proofs.Giving.{given-none, given-next, given-fits}
use Rattle.least.proofs.Outcome.give_all.Goals as goal

pub loop-b-init : goal.loop-b-init
loop-b-init c =
    let a = c.args in
    given-none a.items a.bids.now a.reverse.now.prices a.reverse.now.own a.self.now.prices a.self.now.own c.requires.1 c.requires.2

pub give-requires : goal.give-requires
give-requires c =
    let a = c.args in
    let at = c.loop-b in
    let w = given-fits c.requires.0 at.b (omega arith) at.self.prices at.self.own at.invariant c.row-line.result.now c.row-line.ensures.0 at.self.prices at.self.own in
    (w.0, w.1, omega (arith, c.requires.0.fit.max_bidders), w.2)

pub loop-b-preserved : goal.loop-b-preserved
loop-b-preserved c =
    let a = c.args in
    let at = c.loop-b in
    let g = c.give in
    given-next c.requires.0 at.b (omega arith) at.self.prices at.self.own at.invariant c.row-line.result.now c.row-line.ensures.0 g.new.self.prices g.new.self.own g.ensures.0 g.ensures.1
