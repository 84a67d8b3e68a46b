-- `least::narrow` meets its contract: each place is filled by a call. Assumes nothing.
use lib.ListN.{get_or}
use Rattle.std.proofs.Common.{rules}
use Rattle.sets.specs.Lists.{places}
use Rattle.sets.proofs.FromFn.{from_fn-tabulate}
use Rattle.least.proofs.narrow.Goals as goal

pub returns : goal.returns
unfolding places
returns c = from_fn-tabulate _ _ 32 (λ k. get_or c.args.prices.now k 0) (λ q i y l k. search rules) _ c.from_fn.ensures.items
