-- `least::balance` meets its contract. Assumes nothing.
use mathlib.Core.Path.{refl}
use native.Mathlib.Omega.{arith}
use Rattle.least.proofs.Balancing.{transposed-standing, options, balanced}
use Rattle.least.proofs.balance.Goals as goal

pub put_all-requires : goal.put_all-requires
put_all-requires c =
    let t = c.transposed-table in
    transposed-standing c.requires t.result (omega arith) t.ensures.0 t.ensures.1

pub give_all-requires : goal.give_all-requires
give_all-requires c =
    let t = c.transposed-table in
    let p = c.put_all in
    (options c.requires t.result (omega arith) t.ensures.0 t.ensures.1 p.new.self.prices p.new.self.own p.ensures, refl, refl)

pub returns : goal.returns
returns c =
    let t = c.transposed-table in
    let p = c.put_all in
    let g = c.give_all in
    balanced c.requires t.result (omega arith) t.ensures.0 t.ensures.1 p.new.self.prices p.new.self.own p.ensures g.new.self.prices g.new.self.own g.ensures
