-- `least::Paths::enter` meets its contract. Assumes nothing.
use Prim.Native.Nat.{◌-◌, ◌≤◌}
use mathlib.Core.Path.{◌≡◌}
use native.Mathlib.Omega.{arith}
use lib.ListN.{get_or}
use Rattle.bids.specs.Fit.{Small}
use Rattle.least.proofs.Paths.enter.Goals as goal

pub overflow_add-u : goal.overflow_add-u
overflow_add-u c =
    let a = c.args in
    let pre = c.requires in
    let x : c.from-x.result ≡ a.j - 1 = c.from-x.ensures in
    let bid : get_or a.line.now c.from-x.result 0 ≤ 4095 = unfold Small in pre.line_small c.from-x.result in
    let near : get_or a.self.now.dist c.from-x.result 0 ≤ 4095 = rw x pre.near in
    omega (arith, bid, near)

pub relax-low-requires : goal.relax-low-requires
relax-low-requires c =
    let a = c.args in
    let pre = c.requires in
    let x : c.from-x.result ≡ a.j - 1 = c.from-x.ensures in
    let bid : get_or a.line.now c.from-x.result 0 ≤ 4095 = unfold Small in pre.line_small c.from-x.result in
    let near : get_or a.self.now.dist c.from-x.result 0 ≤ 4095 = rw x pre.near in
    (pre.short, pre.prices_small, omega (arith, bid, near))
