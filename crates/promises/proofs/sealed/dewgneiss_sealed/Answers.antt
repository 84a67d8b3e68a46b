-- `promises::sealed::dewgneiss_sealed` meets its contract. Assumes nothing.
use Rattle.promises.proofs.Calls.{leaves-sealed}
use Rattle.promises.proofs.sealed.dewgneiss_sealed.Goals as goal

pub returns : goal.returns
returns c =
    let a = c.args in
    let e = c.dewgneiss_sealed.ensures in
    record {
      number = e.number;
      lists = leaves-sealed a.items a.bidders a.start.now a.start.now a.bids.now a.rounds.now a.prices.now a.options.now a.gains.now _ _ _ _ _
          e.number e.rounds e.prices e.options e.gains;
    }
