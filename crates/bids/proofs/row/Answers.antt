-- `bids::row` meets its contract. Assumes nothing.
use Prim.Native.Nat.{ℕ, ◌+◌, ◌-◌, ◌*◌}
use mathlib.Core.Path.{◌≡◌, refl, sym, ap, ◌∙◌}
use native.Mathlib.Omega.{arith}
use lib.ListN.{take, drop}
use Rattle.bids.specs.Lent.{line_of}
use Rattle.bids.proofs.Rows.{too_wide, too_short, row_is, start_is}
use Rattle.bids.proofs.row.Goals as goal

pub returns-then-columns-gt64 : goal.returns-then-columns-gt64
returns-then-columns-gt64 c =
    let a = c.args in
    let n = too_wide a.columns a.b a.table.now c.if-columns-gt64.true in
    (n.shown, (refl, omega (arith, n.start)))

pub returns-then-table-end : goal.returns-then-table-end
returns-then-table-end c =
    let a = c.args in
    let n = rw c.from.ensures at (too_short a.columns c.from.result a.table.now c.if-table-end.true) in
    (n.shown, (refl, omega (arith, n.start)))

pub returns : goal.returns
unfolding line_of
returns c =
    let a = c.args in
    let e : (a.b * a.columns + a.columns) - a.b * a.columns ≡ a.columns = omega arith in
    rw c.from.ensures (
      ap (λ (n : ℕ). take n (drop (a.b * a.columns) a.table.now)) e ∙ sym (row_is a.columns a.b a.table.now c.if-columns-gt64.false (rw c.from.ensures at c.if-table-end.false)),
      (refl, omega (arith, start_is a.columns a.b a.table.now c.if-columns-gt64.false (rw c.from.ensures at c.if-table-end.false))),
    )
