-- `least::offers` meets its contract: each turn adds the line of one bidder. Assumes nothing.
use Prim.Native.Nat.{suc, ◌<◌}
use mathlib.Core.Path.{◌≡◌, sym, ap, ◌∙◌}
use native.Mathlib.Omega.{arith}
use native.Mathlib.Numerals.{add-one}
use lib.ListN.{length}
use Rattle.sets.specs.Bit.{has}
use Rattle.bids.specs.Lent.{line_of}
use Rattle.least.proofs.Holders.{table-row, line-long}
use Rattle.least.proofs.Offering.{offered-skip, offered-more}
use Rattle.least.proofs.offers.Goals.{then-not-has, else-not-has}
use Rattle.least.proofs.offers.Goals as goal

pub offer-requires : goal.offer-requires
offer-requires c =
    let a = c.args in
    let t = c.requires in
    let b = c.loop-b.b in
    omega (arith, ap length (c.row.ensures.0 ∙ table-row a.items a.bidders a.bids.now t b (omega arith)), line-long a.items a.bidders a.bids.now t b (omega arith), t.max_items)

pub loop-b-preserved : goal.loop-b-preserved
loop-b-preserved c =
    let a = c.args in
    let at = c.loop-b in
    let t = c.requires in
    let l : at.b < a.bidders = omega arith in
    let is : has a.seats (suc at.b) ≡ c.has.result = ap (has a.seats) (sym (add-one at.b)) ∙ sym c.has.ensures in
    elim c.if-not-has.branch [
      | then-not-has w ↦
          let e : w.row.result.now ≡ line_of a.items a.bids.now at.b = w.row.ensures.0 ∙ table-row a.items a.bidders a.bids.now t at.b l in
          let more =
          offered-more a.items a.bids.now a.seats at.b a.best.now at.best at.invariant (is ∙ w.if-not-has.true) w.row.result.now e
          (ap length e ∙ line-long a.items a.bidders a.bids.now t at.b l) w.offer.new.best w.offer.ensures
          in
          rw w.best-is more
      | else-not-has w ↦ rw w.best-is (offered-skip a.items a.bids.now a.seats at.b a.best.now at.best at.invariant (is ∙ w.if-not-has.false))
    ]
