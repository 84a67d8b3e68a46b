-- `reasons::put_rounds` meets its contract. Each turn writes one round's line. Assumes nothing.
use mathlib.Core.Path.{◌≡◌}
use lib.Seq.{sets}
use Rattle.sets.specs.Lists.{places}
use Rattle.rule.specs.Round.{path}
use Rattle.lines.specs.Lines.{joined}
use Rattle.bids.specs.Lent.{sheet_of}
use Rattle.reasons.proofs.Lines.{line_of}
use Rattle.reasons.proofs.put_rounds.Given as goal

abbrev pub invariant-loop-k : goal.invariant-loop-k
invariant-loop-k l = (l.p ≡ places 32 (path (sheet_of l.items l.bidders l.start l.bids) l.k).prices) × (l.out ≡ sets l.initial.out 0 (joined l.k (line_of (sheet_of l.items l.bidders l.start l.bids))))
