-- The definitions applied to the smallest case that tells a wrong one from them, by computation. The checker takes modules by name, and this one comes first: the
-- first error that a wrong definition meets stands here. Assumes nothing.
use mathlib.Core.Path.{◌≡◌, refl}
use mathlib.Core.Bool.{false}
use mathlib.Core.List.{[], ◌∷◌}
use Rattle.sets.specs.Count.{all_below, any_below, count}
use Rattle.sets.specs.Bit.{bit, is_set, size}
use Rattle.matching.specs.Demand.{part, meets, excess}

-- one bidder who wants the one item is no more than the item
pub as_many : excess 1 1 (1 ∷ []) 1 ≡ false
unfolding all_below any_below count bit is_set size part meets excess
as_many = refl
