-- `live::open_above` meets its contract. Assumes nothing.
use mathlib.Core.Path.{sym, ap, ◌∙◌}
use Rattle.live.specs.Refusals.{refusal_number}
use Rattle.live.specs.declared.Auction.{Auction}
use Rattle.live.proofs.Opening.{accepts, turned-down, opens, fills}
use Rattle.live.proofs.Refusals.{numbered}
use Rattle.live.proofs.open_above.Goals as goal

pub fill_all-requires : goal.fill_all-requires
fill_all-requires c =
    let a = c.args in
    let q = opens a.items a.bidders a.start.now a.floors.now a.tables.now (sym c.in-Ok.ensures) in
    (q.lent-long, q.max_bidders, q.max_items)

pub returns-in-Ok : goal.returns-in-Ok
returns-in-Ok c =
    let a = c.args in
    let z = sym c.in-Ok.ensures in (
      ap (λ (n : Auction). record { number = 0; next = n }) c.opened.ensures ∙ sym (accepts a.items a.bidders a.start.now a.floors.now a.tables.now z),
      c.fill_all.ensures ∙ sym (fills a.items a.bidders a.start.now a.floors.now a.tables.now z),
    )

pub returns-in-Err : goal.returns-in-Err
returns-in-Err c =
    let a = c.args in
    let e = c.in-Err.refusal in
    let q = turned-down a.items a.bidders a.start.now a.floors.now a.tables.now (refusal_number e) c.in-Err.ensures (numbered e) in
    (c.refused.ensures ∙ q.0, q.1)
