-- The definitions applied to the smallest cases that tell a wrong one from them, by computation. The checker takes modules by name, and this one comes first: the
-- first error that a wrong definition meets stands here. Assumes nothing.
use mathlib.Core.Path.{◌≡◌, refl}
use mathlib.Core.Bool.{false}
use Rattle.sets.specs.Count.{count}
use Rattle.sets.specs.Bit.{bit, is_set, has, size}

-- the definitions that the cases compute with
computing : Unit {0}
unfolding count bit is_set has size
computing = tt

-- null is not in the set {1}
pub null_outside : has 1 0 ≡ false
unfolding computing
null_outside = refl

-- {1} has one item
pub one-item : size 1 1 ≡ 1
unfolding computing
one-item = refl
