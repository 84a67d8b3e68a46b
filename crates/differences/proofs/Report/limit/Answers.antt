-- `differences::Report::limit` meets its contract. Assumes nothing.
use Rattle.sets.specs.Bit.{has}
use Rattle.rule.specs.Sheet.{amount}
use Rattle.differences.proofs.Signs.{passed}
use Rattle.differences.proofs.Constraints.{top-is, limit-free, upper-at, lower-at}
use Rattle.differences.proofs.Report.limit.Goals as goal

pub returns-then-j-l : goal.returns-then-j-l
returns-then-j-l c =
    let a = c.args in
    let s = a.self.now in
    passed c.upper.result _ _ c.upper.ensures
    (upper-at s.null (has s.set) (amount s.prices.now) a.l a.i a.j c.has.ensures c.price.ensures.0 c.price-q.ensures.0 c.if-j-l.true)

pub returns-then-i-l : goal.returns-then-i-l
returns-then-i-l c =
    let a = c.args in
    let s = a.self.now in
    passed c.lower.result _ _ c.lower.ensures
    (lower-at s.null (has s.set) (amount s.prices.now) a.l a.i a.j c.has-then-i-l.ensures c.price-then-i-l.ensures.0 c.price-q.ensures.0 c.if-j-l.false c.if-i-l.true)

pub returns : goal.returns
returns c =
    let a = c.args in
    let s = a.self.now in
    top-is (limit-free s.null (has s.set) (amount s.prices.now) a.l a.i a.j c.if-j-l.false c.if-i-l.false)
