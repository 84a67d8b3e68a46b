-- `auction::falling_first` meets its contract. The steps' answers make up the close of the sheet's path falling first. Assumes nothing.
use mathlib.Core.Path.{ap, ◌∙◌}
use Rattle.auction.specs.Sealed.{falling_closed}
use Rattle.auction.proofs.Sealing.{falling-refused, falling-closed, falling-promised, falling_is}
use Rattle.auction.proofs.falling_first.Goals as goal

pub returns-in-Ok : goal.returns-in-Ok
returns-in-Ok c =
    let a = c.args in
    let s = c.in-Ok in
    let p = c.falling_rounds in
    let e = falling_is s.sheet p.result.raised p.result.lowered p.result.prices c.named.result c.named.ensures p.ensures.2 p.ensures.0 p.ensures.1
    ∙ ap falling_closed s.ensures.1 ∙ falling-closed a.items a.bidders a.start.now a.floors.now a.bids.now s.ensures.0 in
    record { outcome = e; promised = falling-promised a.items a.bidders a.start.now a.floors.now a.bids.now _ e }

pub returns-in-Err : goal.returns-in-Err
returns-in-Err c =
    let a = c.args in
    let s = c.in-Err in
    let e = c.refused.ensures ∙ falling-refused a.items a.bidders a.start.now a.floors.now a.bids.now s.why s.ensures.0 s.ensures.1 in
    record { outcome = e; promised = falling-promised a.items a.bidders a.start.now a.floors.now a.bids.now _ e }
