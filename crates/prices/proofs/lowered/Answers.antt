-- `prices::lowered` meets its contract: each place is filled by a call. Assumes nothing.
use Prim.Native.Nat.{◌+◌, ◌-◌}
use mathlib.Core.Path.{◌∙◌}
use lib.ListN.{get_or}
use Rattle.std.proofs.Common.{rules}
use Rattle.sets.specs.Bit.{has}
use Rattle.sets.specs.Count.{to_nat}
use Rattle.sets.proofs.FromFn.{from_fn-tabulate}
use Rattle.prices.proofs.Moving.{lowered_is}
use Rattle.prices.proofs.lowered.Goals as goal

pub returns : goal.returns
returns c =
    let a = c.args in
    from_fn-tabulate _ _ 32 (λ k. get_or a.prices.now k 0 - to_nat (has a.set (k + 1))) (λ q i y l k. search rules) _ c.from_fn.ensures.items
    ∙ lowered_is a.prices.now a.set
