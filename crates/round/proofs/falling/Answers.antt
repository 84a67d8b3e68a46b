-- `round::falling` meets its contract. What it hands to the matching is what the rule asks of the reports. Assumes nothing.
use Rattle.round.proofs.Reporting.{falling-found}
use Rattle.round.proofs.falling.Goals as goal

pub returns : goal.returns
returns c =
    let a = c.args in
    let own = c.inside-own in
    let kept = c.excess_demand-kept in
    λ nulls. falling-found a.sets.now a.above nulls own.result kept.result c.but.result own.ensures kept.ensures c.but.ensures
