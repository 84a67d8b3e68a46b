-- `assignment::first_item` meets its contract. Assumes nothing.
use mathlib.Core.Path.{sym, ◌∙◌}
use Rattle.assignment.proofs.Places.{first-null, first-place}
use Rattle.assignment.proofs.first_item.Goals as goal

pub returns-then-p-eq0 : goal.returns-then-p-eq0
returns-then-p-eq0 c =
    let s = c.args.s in
    let t = c.without in
    first-null s t.result t.ensures (sym c.lowest-p.ensures ∙ c.if-p-eq0.true)

pub returns : goal.returns
returns c =
    let s = c.args.s in
    let t = c.without in
    first-place s t.result t.ensures c.lowest-p.result c.lowest-p.ensures c.if-p-eq0.false
