-- `digits::number_at` meets its contract. Assumes nothing.
use Prim.Native.Nat.{◌^◌, ◌<◌}
use mathlib.Core.Path.{◌≡◌}
use Rattle.std.specs.Prelude.{Some}
use Rattle.digits.specs.Reading.{number_at}
use Rattle.digits.proofs.number_at.Given as goal

abbrev pub invariant-loop-k : goal.invariant-loop-k
invariant-loop-k l = (number_at l.k l.s l.at ≡ Some l.x) × (l.x < 16 ^ l.k)
