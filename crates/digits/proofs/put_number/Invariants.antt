-- `digits::put_number` meets its contract: what is left to write, written to the bytes as they are, makes the same bytes at each turn. Assumes nothing.
use mathlib.Core.Path.{◌≡◌}
use lib.Seq.{sets}
use Rattle.digits.specs.Digits.{hex}
use Rattle.digits.proofs.put_number.Given as goal

abbrev pub invariant-loop-k : goal.invariant-loop-k
invariant-loop-k l = sets l.out l.at (hex l.k l.rest) ≡ sets l.initial.out l.at (hex l.digits l.x)
