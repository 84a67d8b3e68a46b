-- `round::rising` meets its contract. What it hands to the matching is what the rule asks of the reports. Assumes nothing.
use Rattle.round.proofs.Reporting.{rising-found}
use Rattle.round.proofs.rising.Goals as goal

pub returns : goal.returns
returns c =
    let a = c.args in
    let own = c.active-own in
    rising-found a.sets.now a.nulls own.result c.excess_demand.result own.ensures c.excess_demand.ensures
