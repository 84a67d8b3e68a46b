-- `live::Auction::check_fit` meets its contract. Assumes nothing.
use mathlib.Core.Path.{◌≡◌}
use mathlib.Core.Bool.{true}
use Rattle.std.proofs.Common.{arith}
use Rattle.std.proofs.lemmas.Grind.{common_steps}
use Rattle.rule.specs.Refusal.{first}
use Rattle.live.specs.Auction.{well_formed}
use Rattle.live.specs.Tables.{bad_tables}
use Rattle.live.specs.Tidy.{fit_number}
use Rattle.live.proofs.Formed.{formed}
use Rattle.live.proofs.Opening.{tables-inexact}
use Rattle.live.proofs.Refusing.{wrong-length}
use Rattle.live.proofs.Auction.check_fit.Goals as goal

pub returns-then-not-well_formed : goal.returns-then-not-well_formed
unfolding fit_number first
returns-then-not-well_formed c = grind (arith, common_steps)

pub overflow_mul-self : goal.overflow_mul-self
overflow_mul-self c =
    let passes : well_formed c.args.self ≡ true = grind (arith, common_steps) in
    omega (arith, (formed c.args.self passes).max_bidders)

pub returns-then-tables-self : goal.returns-then-tables-self
returns-then-tables-self c =
    let a = c.args in
    wrong-length a.self a.tables.now (grind (arith, common_steps)) (tables-inexact a.self.bidders a.tables.now c.if-tables-self.true)

pub tables_fit-requires : goal.tables_fit-requires
unfolding bad_tables
tables_fit-requires c = (grind (arith, common_steps), grind (arith, common_steps))

pub returns-then-not-tables_fit : goal.returns-then-not-tables_fit
unfolding fit_number first bad_tables
returns-then-not-tables_fit c = grind (arith, common_steps)

pub returns : goal.returns
unfolding fit_number first bad_tables
returns c = grind (arith, common_steps)
