-- `live::check_open` meets its contract. Assumes nothing.
use mathlib.Core.Path.{◌≡◌}
use mathlib.Core.Bool.{false}
use Prim.Native.Nat.{suc}
use Rattle.std.proofs.Common.{arith}
use Rattle.std.proofs.lemmas.Grind.{common_steps}
use Rattle.rule.specs.Sheet.{amount}
use Rattle.rule.specs.Refusal.{first, bad_items, bad_live_bidders, bad_length, any_over}
use Rattle.rule.proofs.Refusal.{floors-test}
use Rattle.live.specs.Tables.{bad_tables}
use Rattle.live.specs.Calls.{open_above_number}
use Rattle.live.proofs.Formed.{not-over}
use Rattle.live.proofs.check_open.Goals as goal

pub returns-then-outside : goal.returns-then-outside
unfolding open_above_number first bad_items bad_live_bidders bad_length bad_tables
returns-then-outside c = grind (arith, common_steps)

pub returns-then-outside-2 : goal.returns-then-outside-2
unfolding open_above_number first bad_items bad_live_bidders bad_length bad_tables
returns-then-outside-2 c = grind (arith, common_steps)

pub returns-then-start-items : goal.returns-then-start-items
unfolding open_above_number first bad_items bad_live_bidders bad_length bad_tables
returns-then-start-items c = grind (arith, common_steps)

pub returns-then-floors-items : goal.returns-then-floors-items
unfolding open_above_number first bad_items bad_live_bidders bad_length bad_tables
returns-then-floors-items c = grind (arith, common_steps)

pub returns-then-tables-bidders : goal.returns-then-tables-bidders
unfolding open_above_number first bad_items bad_live_bidders bad_length bad_tables
returns-then-tables-bidders c = grind (arith, common_steps)

pub returns-then-any_over : goal.returns-then-any_over
unfolding open_above_number first bad_items bad_live_bidders bad_length bad_tables
returns-then-any_over c = grind (arith, common_steps)

pub returns-then-any_under : goal.returns-then-any_under
unfolding open_above_number first bad_items bad_live_bidders bad_length bad_tables amount
returns-then-any_under c =
    let a = c.args in
    let fits : any_over a.start.now ≡ false = grind (arith, common_steps) in
    let floors = floors-test a.start.now a.floors.now (λ k. not-over a.start.now fits (suc k)) in
    grind (arith, common_steps)

pub returns : goal.returns
unfolding open_above_number first bad_items bad_live_bidders bad_length bad_tables amount
returns c =
    let a = c.args in
    let fits : any_over a.start.now ≡ false = grind (arith, common_steps) in
    let floors = floors-test a.start.now a.floors.now (λ k. not-over a.start.now fits (suc k)) in
    grind (arith, common_steps)
