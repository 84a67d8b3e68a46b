-- `promises::below::matching_covers` meets its contract. Assumes nothing.
use Rattle.promises.proofs.Calls.{match-or-none}
use Rattle.promises.proofs.below.matching_covers.Goals as goal

pub returns : goal.returns
returns c = let e = c.matching_covers.ensures in (e.0, match-or-none _ _ _ _ _ e.1)
