-- `promises::sealed::dewgneiss_falling_first` meets its contract. Assumes nothing.
use Rattle.promises.proofs.Calls.{leaves-falling}
use Rattle.promises.proofs.sealed.dewgneiss_falling_first.Goals as goal

pub returns : goal.returns
returns c =
    let a = c.args in
    let e = c.dewgneiss_falling_first.ensures in
    record {
      number = e.number;
      lists = leaves-falling a.items a.bidders a.start.now a.floors.now a.bids.now a.rounds.now a.prices.now a.options.now a.gains.now _ _ _ _ _
          e.number e.rounds e.prices e.options e.gains;
    }
