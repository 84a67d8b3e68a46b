-- `differences::Part::at` meets its contract. Assumes nothing.
use Prim.Native.Nat.{◌+◌, ◌*◌}
use mathlib.Core.Path.{refl, sym}
use native.Mathlib.Omega.{arith}
use lib.ListN.{get_or}
use lib.IntN.{pos}
use Rattle.differences.specs.Lent.{rows_of}
use Rattle.differences.specs.Shifted.{shifted}
use Rattle.differences.proofs.Signs.{passed}
use Rattle.differences.proofs.Places.{shifted_at, small_at}
use Rattle.differences.proofs.Deciding.{small-places}
use Rattle.differences.proofs.Part.at.Goals as goal

pub returns : goal.returns
returns c =
    let a = c.args in
    let s = a.self.now in
    let xs = s.numbers.now in
    let few = s.few in
    passed (get_or xs (a.i * 33 + a.j) (pos 0)) (shifted (rows_of xs) a.i a.j) (shifted (rows_of xs) a.i a.j)
    (sym (shifted_at xs a.i a.j (omega arith) (omega arith)), small_at xs a.i a.j (omega arith) (omega arith) (small-places s.items xs s.fit a.i a.j (omega arith) (omega arith)))
    refl
