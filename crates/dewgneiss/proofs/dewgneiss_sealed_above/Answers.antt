-- `dewgneiss::dewgneiss_sealed_above` meets its contract. Assumes nothing.
use mathlib.Core.Path.{sym, ap, ◌∙◌}
use Rattle.auction.specs.declared.Closing.{Closing}
use Rattle.dewgneiss.proofs.Results.{lent_above, lent, counts-above}
use Rattle.dewgneiss.proofs.dewgneiss_sealed_above.Goals as goal

pub lend-requires : goal.lend-requires
lend-requires c z =
    let a = c.args in
    counts-above a.items a.bidders a.start.now a.floors.now a.bids.now (sym (ap (λ (r : Closing). r.refusal) c.sealed_above-c.ensures.outcome) ∙ z)

pub returns : goal.returns
returns c =
    let a = c.args in
    let e = c.sealed_above-c.ensures.outcome in
    let k = c.lend.ensures in
    let all = lent a.items a.bidders a.rounds.now a.prices.now a.options.now a.gains.now e
    (lent_above a.items a.bidders a.start.now a.floors.now a.bids.now a.rounds.now a.prices.now a.options.now a.gains.now)
    (k.number, (k.rounds, (k.prices, (k.options, k.gains)))) in
    record { number = all.0; rounds = all.1.0; prices = all.1.1.0; options = all.1.1.1.0; gains = all.1.1.1.1 }
