-- `least::close_and_turn` meets its contract. Assumes nothing.
use Prim.Native.Nat.{ℕ}
use mathlib.Core.Path.{◌≡◌, sym, ◌∙◌}
use mathlib.Core.List.{List}
use lib.ListN.{replicate}
use Rattle.rule.proofs.NoFloors.{zeros-below}
use Rattle.bids.specs.Lent.{rows_of}
use Rattle.bids.specs.Refusal.{sealed_above_refusal}
use Rattle.bids.proofs.Limits.{Fine, fine}
use Rattle.bids.proofs.Fitting.{bids-fit}
use Rattle.least.proofs.Lifting.{from_zero}
use Rattle.least.proofs.Narrowing.{narrow-least}
use Rattle.least.proofs.Starting.{from-floors, from_start, floors-below, short-floors, short-start}
use Rattle.least.proofs.close_and_turn.Goals as goal

-- no number turns the sheet down
accepted : (m n : ℕ) (start floors bids : List ℕ) {r : ℕ} → r ≡ sealed_above_refusal m n start floors bids → r ≡ 0 → sealed_above_refusal m n start floors bids ≡ 0
accepted m n start floors bids e z = sym e ∙ z

passed : (m n : ℕ) (start floors bids : List ℕ) {r : ℕ} → r ≡ sealed_above_refusal m n start floors bids → r ≡ 0 → Fine m n start floors bids
passed m n start floors bids e z = fine m n start floors bids (accepted m n start floors bids e z)

pub balance-outcome-requires : goal.balance-outcome-requires
balance-outcome-requires c =
    let a = c.args in
    bids-fit (passed a.items a.bidders a.start.now a.floors.now a.bids.now c.refusal_above.ensures c.if-refusal_above-ne0.false)

pub rise-requires : goal.rise-requires
rise-requires c =
    let a = c.args in
    let f = passed a.items a.bidders a.start.now a.floors.now a.bids.now c.refusal_above.ensures c.if-refusal_above-ne0.false in
    ((replicate 64 0, from_zero f.max_items c.fall.ensures, zeros-below 64 _), from-floors f c.in_places.result c.in_places.ensures)

pub rise-requires-2 : goal.rise-requires-2
rise-requires-2 c =
    let a = c.args in
    let f = passed a.items a.bidders a.start.now a.floors.now a.bids.now c.refusal_above.ensures c.if-refusal_above-ne0.false in (
      (c.in_places.result, c.rise.ensures, floors-below f c.in_places.result c.in_places-2.result c.in_places.ensures c.in_places-2.ensures),
      from_start f c.in_places-2.result c.in_places-2.ensures,
    )

pub returns : goal.returns
returns c =
    let a = c.args in
    let f = passed a.items a.bidders a.start.now a.floors.now a.bids.now c.refusal_above.ensures c.if-refusal_above-ne0.false in
    let rows = rows_of a.items a.bidders a.bids.now in
    let low = c.in_places in
    let first = c.in_places-2 in
    record {
      least = λ none. (
        narrow-least a.items rows a.floors.now low.result c.rise.new.self.prices low.ensures (short-floors f) c.rise.ensures.past c.rise.ensures.least c.narrow-close.result c.narrow-close.ensures,
        narrow-least a.items rows a.start.now first.result c.rise-2.new.self.prices first.ensures (short-start f) c.rise-2.ensures.past c.rise-2.ensures.least c.narrow.result c.narrow.ensures,
      );
      refused = λ some. absurd (some (accepted a.items a.bidders a.start.now a.floors.now a.bids.now c.refusal_above.ensures c.if-refusal_above-ne0.false));
    }
