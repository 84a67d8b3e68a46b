-- `prices::raised` meets its contract: each place is filled by a call. Assumes nothing.
use Prim.Native.Nat.{◌+◌, min}
use mathlib.Core.Path.{◌∙◌}
use lib.ListN.{get_or}
use Rattle.std.proofs.Common.{rules}
use Rattle.sets.specs.Bit.{has}
use Rattle.sets.specs.Count.{to_nat}
use Rattle.sets.proofs.FromFn.{from_fn-tabulate}
use Rattle.prices.proofs.Moving.{raised_is}
use Rattle.prices.proofs.raised.Goals as goal

pub returns : goal.returns
returns c =
    let a = c.args in
    from_fn-tabulate _ _ 32 (λ k. min 65535 (get_or a.prices.now k 0 + to_nat (has a.set (k + 1)))) (λ q i y l k. search rules) _ c.from_fn.ensures.items
    ∙ raised_is a.prices.now a.set
