-- `differences::is_part` meets its contract. Assumes nothing.
use lib.ListN.{length}
use borrow.Author.Tests.{eq-eqb, ne_eqb}
use Rattle.differences.specs.Lent.{is_part}
use Rattle.differences.proofs.is_part.Goals as goal

pub returns-then-part-eq1089 : goal.returns-then-part-eq1089
unfolding is_part
returns-then-part-eq1089 c = let e = eq-eqb (length c.args.part.now) 1089 c.if-part-eq1089.true in simp e

pub returns-else-part-eq1089 : goal.returns-else-part-eq1089
unfolding is_part
returns-else-part-eq1089 c = let e = ne_eqb (length c.args.part.now) 1089 c.if-part-eq1089.false in simp e
