-- `promises::sealed::dewgneiss_sealed_above` meets its contract. Assumes nothing.
use Rattle.promises.proofs.Calls.{leaves-above}
use Rattle.promises.proofs.sealed.dewgneiss_sealed_above.Goals as goal

pub returns : goal.returns
returns c =
    let a = c.args in
    let e = c.dewgneiss_sealed_above.ensures in
    record {
      number = e.number;
      lists = leaves-above a.items a.bidders a.start.now a.floors.now a.bids.now a.rounds.now a.prices.now a.options.now a.gains.now _ _ _ _ _
          e.number e.rounds e.prices e.options e.gains;
    }
