-- `differences::range` meets its contract. Assumes nothing.
use borrow.Author.Tests.{ne_eqb}
use Rattle.differences.specs.Constraint.{range}
use Rattle.differences.proofs.Constraints.{zero_is, top-is, range-zero}
use Rattle.differences.proofs.range.Goals as goal

pub returns-then-i-j : goal.returns-then-i-j
returns-then-i-j c = zero_is (range-zero c.args.i c.args.j c.then-i-j.either)

pub returns : goal.returns
unfolding range
returns c =
    let a = c.args in
    let e = ne_eqb a.i a.j c.if-i-j.false in
    let f = ne_eqb a.i 0 c.if-i-eq0.false in
    top-is (simp (e, f))
