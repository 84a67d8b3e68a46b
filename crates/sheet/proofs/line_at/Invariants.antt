-- `sheet::line_at` meets its contract: the numbers read stand ahead of those left to read. Assumes nothing.
use Prim.Native.Nat.{◌+◌, ◌*◌, ◌-◌, ◌≤◌}
use mathlib.Core.Path.{◌≡◌}
use lib.ListN.{length, take}
use Rattle.lines.specs.Reading.{numbers_at}
use Rattle.sheet.proofs.Ahead.{ahead}
use Rattle.sheet.proofs.line_at.Given as goal

abbrev pub invariant-loop-i : goal.invariant-loop-i
invariant-loop-i l = (numbers_at (length l.initial.into) 4 l.s l.at ≡ ahead (take l.i l.into) (numbers_at (length l.initial.into - l.i) 4 l.s (l.at + 4 * l.i)))
    × (l.at + 4 * l.i ≤ length l.s)
