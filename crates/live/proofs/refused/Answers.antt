-- `live::refused` meets its contract. Assumes nothing.
use Rattle.live.specs.Calls.{unopened}
use Rattle.live.proofs.refused.Goals as goal

pub returns : goal.returns
unfolding unopened
returns c = cc
