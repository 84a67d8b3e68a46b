-- `console::open_split` meets its contract. Assumes nothing.
use Prim.Native.Nat.{ℕ}
use mathlib.Core.Path.{ap₂, ◌∙◌}
use mathlib.Core.List.{List}
use Rattle.live.specs.Calls.{open_above_number, open_above, filled_by}
use Rattle.console.proofs.Enough.{split-starts, split_rest}
use Rattle.console.proofs.open_split.Goals as goal

pub returns : goal.returns
returns c =
    let a = c.args in
    let ts = a.tables.now in
    let p = c.split_at.ensures.front ∙ split-starts a.items a.amounts.now _ c.min-split.ensures in
    let q = c.split_at.ensures.back ∙ split_rest a.items a.amounts.now _ c.min-split.ensures in (
      c.open_above.ensures.0 ∙ ap₂ (λ (x y : List ℕ). open_above a.items a.bidders x y ts) p q,
      c.open_above.ensures.1 ∙ ap₂ (λ (x y : List ℕ). filled_by (open_above_number a.items a.bidders x y ts) a.items a.bidders ts) p q,
    )
