-- `lines::put_amounts` meets its contract. Assumes nothing.
use mathlib.Core.Path.{◌≡◌}
use lib.ListN.{get_or}
use lib.Seq.{sets}
use Rattle.digits.specs.Digits.{hex}
use Rattle.lines.specs.Lines.{joined}
use Rattle.lines.proofs.put_amounts.Given as goal

abbrev pub invariant-loop-i : goal.invariant-loop-i
invariant-loop-i l = l.out ≡ sets l.initial.out l.at (joined l.i (λ k. hex 4 (get_or l.amounts k 0)))
