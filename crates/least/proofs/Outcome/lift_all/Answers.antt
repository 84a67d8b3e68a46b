-- `least::Outcome::lift_all` meets its contract: each turn lifts one price. Assumes nothing.
use native.Mathlib.Omega.{arith}
use Rattle.least.proofs.Lifting.{lifted-none, lifted-next}
use Rattle.least.proofs.Outcome.lift_all.Goals as goal

pub loop-x-init : goal.loop-x-init
loop-x-init c = lifted-none c.args.start.now c.args.self.now.prices c.args.self.now.own (omega arith) (omega arith)

pub loop-x-preserved : goal.loop-x-preserved
loop-x-preserved c =
    let a = c.args in
    let at = c.loop-x in
    let l = c.lift-waiting in
    lifted-next at.x (omega arith) a.start.now a.self.now.prices a.self.now.own at.self.prices at.self.own at.waiting at.invariant l.new.self.prices l.new.self.own l.result l.ensures.0 l.ensures.1
