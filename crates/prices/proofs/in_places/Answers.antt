-- `prices::in_places` meets its contract: the amounts stand before zeros. Assumes nothing.
use Rattle.sets.proofs.Filling.{cut-places}
use Rattle.prices.proofs.in_places.Goals as goal

pub returns : goal.returns
returns c = cut-places 32 c.min-n.result c.args.xs.now _ c.min-n.ensures c.copy_from_slice.ensures.after
