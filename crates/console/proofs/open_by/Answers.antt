-- `console::open_by` meets its contract. Assumes nothing.
use Prim.Native.Nat.{ℕ}
use mathlib.Core.Path.{ap, ◌∙◌}
use Rattle.live.specs.Calls.{filled_by}
use Rattle.console.specs.Orders.{amounts_of}
use Rattle.console.proofs.Amounts.{read_count}
use Rattle.console.proofs.Enough.{first-65, number-65, part_length}
use Rattle.console.proofs.open_by.Goals as goal

pub slice_bounds-open-end : goal.slice_bounds-open-end
slice_bounds-open-end c = part_length _ _ _ _ c.first_amounts-amounts.ensures c.min-count.ensures

pub returns : goal.returns
returns c =
    let ts = c.args.tables.now in
    let xs = amounts_of c.args.line.now in
    let k = read_count c.args.line.now c.requires _ _ c.rest.ensures c.min-count.ensures in (
      c.open.ensures.0 ∙ first-65 c.args.items c.args.bidders ts xs _ _ c.first_amounts-amounts.ensures k,
      c.open.ensures.1 ∙ ap (λ (x : ℕ). filled_by x c.args.items c.args.bidders ts) (number-65 c.args.items c.args.bidders ts xs _ _ c.first_amounts-amounts.ensures k),
    )
