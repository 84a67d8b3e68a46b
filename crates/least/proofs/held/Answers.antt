-- `least::held` meets its contract: each place is filled by a call. Assumes nothing.
use Prim.Native.Nat.{◌+◌}
use mathlib.Core.Path.{refl}
use mathlib.Core.Bool.{cond}
use lib.Dec.{eqb}
use lib.ListN.{get_or}
use Rattle.std.proofs.Common.{rules}
use Rattle.sets.proofs.FromFn.{from_fn-tabulate}
use Rattle.least.proofs.Numbering.{all-left}
use Rattle.least.proofs.held.Goals as goal

pub returns : goal.returns
returns c =
    let own = c.args.own.now in
    all-left (λ x. 0) own (λ x. 0) (λ x. refl) c.from_fn.result
    (from_fn-tabulate _ _ 64 (λ x. cond (eqb (get_or own x 0) 0) (0) (x + 1)) (λ q i y l k. search rules) _ c.from_fn.ensures.items)
