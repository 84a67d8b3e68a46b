-- `matching::excess_demand` meets its contract. Assumes nothing.
use native.Mathlib.Omega.{arith}
use Rattle.matching.proofs.Excess.{settled-largest}
use Rattle.matching.proofs.excess_demand.Goals as goal

pub returns : goal.returns
returns c =
    let k = c.settled in
    settled-largest c.args.demand.now k.result.holder k.result.entered k.ensures (omega arith)
