-- `digits::digit_by_halves` meets its contract: a byte in the halves before this one has its value by then, and any other none yet. Assumes nothing.
use Prim.Native.Nat.{◌*◌, ◌≤◌, ◌<◌}
use mathlib.Core.Path.{◌≡◌}
use Rattle.std.specs.Prelude.{unwrap_or}
use Rattle.digits.specs.Reading.{digit_value}
use Rattle.digits.proofs.digit_by_halves.Given as goal

abbrev pub invariant-loop-half : goal.invariant-loop-half
invariant-loop-half l = (l.byte < 64 * l.half → l.value ≡ unwrap_or (digit_value l.byte) 16) × (64 * l.half ≤ l.byte → l.value ≡ 16)
