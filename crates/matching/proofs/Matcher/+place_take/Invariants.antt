-- What falls along the chain: twice the items not yet entered, and one more for `take`. Assumes nothing.
use Prim.Native.Nat.{◌+◌, ◌*◌}
use Rattle.matching.specs.Chain.{left}
use Rattle.matching.proofs.Matcher.+place_take.Given as goal

abbrev pub decreases-place : goal.decreases-place
decreases-place l = 2 * left l.self.now.entered

abbrev pub decreases-take : goal.decreases-take
decreases-take l = 2 * left l.self.now.entered + 1
