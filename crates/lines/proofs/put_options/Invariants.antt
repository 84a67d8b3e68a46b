-- `lines::put_options` meets its contract. Assumes nothing.
use mathlib.Core.Path.{◌≡◌}
use lib.ListN.{get_or}
use lib.Seq.{sets}
use Rattle.digits.specs.Digits.{hex}
use Rattle.lines.specs.Lines.{joined}
use Rattle.lines.proofs.put_options.Given as goal

abbrev pub invariant-loop-b : goal.invariant-loop-b
invariant-loop-b l = l.out ≡ sets l.initial.out l.at (joined l.b (λ k. hex 2 (get_or l.options k 0)))
