-- `promises::below::cover` meets its contract. Assumes nothing.
use Rattle.promises.proofs.Calls.{match-or-none}
use Rattle.promises.proofs.below.cover.Goals as goal

pub returns : goal.returns
returns c = let e = c.cover.ensures in record { found = match-or-none _ _ _ _ _ e.0; zeros = e.1 }
