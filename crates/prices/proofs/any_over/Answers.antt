-- `prices::any_over` meets its contract. Assumes nothing.
use Rattle.rule.specs.Refusal.{any_over}
use Rattle.prices.proofs.any_over.Goals as goal

pub returns : goal.returns
unfolding any_over
returns c = c.any_past.ensures
