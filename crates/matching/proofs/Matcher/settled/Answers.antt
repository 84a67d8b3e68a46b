-- `matching::Matcher::settled` meets its contract: the bidders passed are settled. Assumes nothing.
use Rattle.matching.proofs.Settling.{none-settled}
use Rattle.matching.proofs.Matcher.settled.Goals as goal

pub loop-b-init : goal.loop-b-init
loop-b-init c = none-settled c.args.demand.now
