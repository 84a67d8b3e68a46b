-- `differences::Part::column_bid` meets its contract. Assumes nothing.
use mathlib.Core.Path.{sym}
use Rattle.differences.specs.Shifted.{shifted}
use Rattle.differences.specs.Lent.{rows_of}
use Rattle.differences.proofs.Signs.{passed}
use Rattle.differences.proofs.Constraints.{zero_is}
use Rattle.differences.proofs.Quick.{bid-null, bid-item}
use Rattle.differences.proofs.Part.column_bid.Goals as goal

pub returns-then-i-eq0 : goal.returns-then-i-eq0
returns-then-i-eq0 c = let a = c.args in zero_is (bid-null (shifted (rows_of a.self.now.numbers.now)) a.i c.if-i-eq0.true)

pub returns : goal.returns
returns c =
    let a = c.args in
    passed c.at.result _ _ c.at.ensures (sym (bid-item (shifted (rows_of a.self.now.numbers.now)) a.i c.if-i-eq0.false))
