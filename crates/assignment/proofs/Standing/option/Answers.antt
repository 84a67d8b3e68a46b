-- `assignment::Standing::option` meets its contract. Assumes nothing.
use native.Mathlib.Omega.{arith}
use lib.ListN.{get_or}
use Rattle.assignment.specs.Turn.{FirstOf}
use Rattle.assignment.proofs.Turning.{x-small, kept-as}
use Rattle.assignment.proofs.Standing.option.Goals as goal

pub returns-then-wish-a : goal.returns-then-wish-a
returns-then-wish-a c =
    let wish : FirstOf c.args.self.now.opens (get_or c.args.self.now.demands c.args.self.now.k 0) c.first_item-wish.result =
    let m = c.common in
    record { both = m.result; both_is = m.ensures; lowest_is = c.first_item-wish.ensures } in
    let t = c.requires in
    (omega (arith, x-small t c.args.self.now.k (omega arith) t.more), λ u. kept-as u wish c.from-a.ensures c.if-wish-a.true)
