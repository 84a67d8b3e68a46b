-- `round::active` meets its contract: each place is filled by a call. Assumes nothing.
use Prim.Native.Nat.{◌+◌}
use mathlib.Core.Bool.{cond}
use lib.ListN.{get_or}
use Rattle.std.proofs.Common.{rules}
use Rattle.sets.specs.Bit.{has}
use Rattle.sets.proofs.FromFn.{from_fn-tabulate}
use Rattle.round.proofs.active.Goals as goal

pub returns : goal.returns
returns c =
    from_fn-tabulate _ _ 64 (λ b. cond (has c.args.nulls (b + 1)) 0 (get_or c.args.sets.now b 0))
    (λ q i y l s. search rules) c.from_fn.result c.from_fn.ensures.items
