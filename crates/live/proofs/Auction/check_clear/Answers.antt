-- `live::Auction::check_clear` meets its contract. Assumes nothing.
use Rattle.std.proofs.Common.{arith}
use Rattle.std.proofs.lemmas.Grind.{common_steps}
use Rattle.rule.specs.Refusal.{first}
use Rattle.live.specs.Calls.{clear_number}
use Rattle.live.proofs.Auction.check_clear.Goals as goal

pub returns-then-not-well_formed : goal.returns-then-not-well_formed
unfolding clear_number first
returns-then-not-well_formed c = grind (arith, common_steps)

pub returns-then-is_closed : goal.returns-then-is_closed
unfolding clear_number first
returns-then-is_closed c = grind (arith, common_steps)

pub returns : goal.returns
unfolding clear_number first
returns c = grind (arith, common_steps)
