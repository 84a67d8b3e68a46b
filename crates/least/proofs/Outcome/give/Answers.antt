-- `least::Outcome::give` meets its contract. Assumes nothing.
use Prim.Native.Nat.{◌-◌}
use mathlib.Core.Path.{◌≡◌}
use native.Mathlib.Omega.{arith}
use Rattle.least.proofs.Outcome.give.Goals as goal

pub overflow_sub-self : goal.overflow_sub-self
overflow_sub-self c =
    let x : c.from-x.result ≡ c.args.option - 1 = c.from-x.ensures in
    rw x (c.requires.3 (omega (arith, c.if-option-eq0.false)))
