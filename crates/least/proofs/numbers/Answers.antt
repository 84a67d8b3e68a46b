-- `least::numbers` meets its contract: each place is filled by a call. Assumes nothing.
use Prim.Native.Nat.{suc, ◌+◌}
use mathlib.Core.Bool.{cond}
use native.Mathlib.Omega.{arith}
use lib.Dec.{eqb}
use lib.ListN.{get_or}
use Rattle.std.proofs.Common.{rules}
use Rattle.sets.proofs.FromFn.{from_fn-tabulate}
use Rattle.least.proofs.Numbering.{all-left}
use Rattle.least.proofs.numbers.Goals as goal

pub returns : goal.returns
returns c =
    let own = c.args.own.now in
    all-left (λ x. suc x + 64) own (λ x. x + 65) (λ x. omega arith) c.from_fn.result
    (from_fn-tabulate _ _ 64 (λ x. cond (eqb (get_or own x 0) 0) (x + 65) (x + 1)) (λ q i y l k. search rules) _ c.from_fn.ensures.items)
