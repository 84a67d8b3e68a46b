-- `live::Auction::counts_fit` meets its contract. Assumes nothing.
use Rattle.std.proofs.Common.{arith}
use Rattle.std.proofs.lemmas.Grind.{common_steps}
use Rattle.rule.specs.Refusal.{bad_items, bad_live_bidders}
use Rattle.live.specs.Auction.{counts_fit}
use Rattle.live.proofs.Auction.counts_fit.Goals as goal

pub returns-then-not-outside : goal.returns-then-not-outside
unfolding counts_fit bad_items bad_live_bidders
returns-then-not-outside c = grind (arith, common_steps)

pub returns-else-not-outside : goal.returns-else-not-outside
unfolding counts_fit bad_items
returns-else-not-outside c = grind (arith, common_steps)
