-- `assignment::demands` meets its contract: each place is filled by a call. Assumes nothing.
use Prim.Native.Nat.{◌+◌, ◌*◌}
use mathlib.Core.Path.{◌≡◌}
use lib.ListN.{get_or}
use Rattle.std.proofs.Common.{rules}
use Rattle.sets.specs.Bit.{has}
use Rattle.std.specs.Int.{from_bool}
use Rattle.sets.proofs.FromFn.{from_fn-each}
use Rattle.assignment.proofs.Places.{places_have}
use Rattle.assignment.proofs.demands.Goals as goal

pub returns : goal.returns
returns c =
    let a = c.args in
    λ b p l. places_have (get_or a.sets.now b 0) (get_or c.from_fn.result b 0) (has a.nulls (b + 1))
    (from_fn-each _ _ 64 (λ i y. y ≡ get_or a.sets.now i 0 * 2 + from_bool (has a.nulls (i + 1))) (λ q i y li s. search rules) c.from_fn.result c.from_fn.ensures.items b l) p
