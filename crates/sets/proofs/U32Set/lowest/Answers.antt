-- `lowest` of `Set` for `u32` meets its contract. Assumes nothing.
use mathlib.Core.Path.{ap, ◌∙◌}
use native.Mathlib.Omega.{arith}
use Rattle.sets.specs.Bit.{has, lowest}
use Rattle.sets.proofs.Lowest.{lowest-wide}
use Rattle.sets.proofs.U32Set.lowest.Goals as goal

pub returns : goal.returns
returns c = c.lowest.ensures ∙ ap (λ s. lowest 64 (has s)) c.from.ensures ∙ lowest-wide 64 32 c.args.self (omega arith) c.ranges.self.fits
