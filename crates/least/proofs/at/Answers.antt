-- `least::at` meets its contract. An item's place is one below its number. Assumes nothing.
use Prim.Native.Nat.{ℕ}
use mathlib.Core.Path.{ap, ◌∙◌}
use lib.ListN.{get_or}
use Rattle.least.proofs.Distances.{option-null, option-item}
use Rattle.least.proofs.at.Goals as goal

pub returns-then-i-eq0 : goal.returns-then-i-eq0
returns-then-i-eq0 c = option-null c.args.null c.args.xs.now c.args.i c.if-i-eq0.true

pub returns : goal.returns
returns c = ap (λ (k : ℕ). get_or c.args.xs.now k 0) c.from.ensures ∙ option-item c.args.null c.args.xs.now c.args.i c.if-i-eq0.false
