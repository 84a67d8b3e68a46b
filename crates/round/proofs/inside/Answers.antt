-- `round::inside` meets its contract: each place is filled by a call. Assumes nothing.
use mathlib.Core.Bool.{◌&&◌}
use lib.ListN.{get_or}
use Rattle.std.proofs.Common.{rules}
use Rattle.sets.specs.Bit.{has, set_of}
use Rattle.sets.proofs.FromFn.{from_fn-tabulate}
use Rattle.round.proofs.inside.Goals as goal

pub returns : goal.returns
returns c =
    from_fn-tabulate _ _ 64 (λ b. set_of 32 (λ k. has (get_or c.args.sets.now b 0) k && has c.args.above k))
    (λ q i y l s. search rules) c.from_fn.result c.from_fn.ensures.items
