-- `differences::Table::good` meets its contract. Assumes nothing.
use mathlib.Core.Path.{sym, ◌∙◌}
use native.Mathlib.Omega.{arith}
use Rattle.sets.proofs.Tests.{all-make}
use Rattle.differences.specs.Shifted.{shifted, good_row, good_table}
use Rattle.differences.proofs.Goodness.{all-not}
use Rattle.differences.proofs.Table.good.Goals as goal

pub returns-then-not-good_row : goal.returns-then-not-good_row
unfolding good_table
returns-then-not-good_row c =
    let s = c.args.self.now in
    sym (all-not s.options (good_row (shifted s.rows) s.options) c.loop-i.i (omega arith) (sym c.good_row.ensures ∙ c.if-not-good_row.true))

pub returns : goal.returns
unfolding good_table
returns c =
    let s = c.args.self.now in
    sym (all-make s.options (good_row (shifted s.rows) s.options) (λ k l. c.loop-i.invariant k (omega arith)))
