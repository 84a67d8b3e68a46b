-- `live::zeros` meets its contract. Assumes nothing.
use mathlib.Core.Path.{refl}
use Rattle.live.specs.Calls.{zeros}
use Rattle.live.proofs.zeros.Goals as goal

pub returns : goal.returns
unfolding zeros
returns c = refl
