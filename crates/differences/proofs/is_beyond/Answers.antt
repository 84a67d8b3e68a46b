-- `differences::is_beyond` meets its contract. Assumes nothing.
use borrow.Author.Tests.{lt-ltb, le-ltb}
use Rattle.differences.specs.Table.{is_beyond}
use Rattle.differences.proofs.is_beyond.Goals as goal

pub returns-then-items-i : goal.returns-then-items-i
unfolding is_beyond
returns-then-items-i c = let a = c.args in let e = lt-ltb a.items a.i c.if-items-i.true in simp e

pub returns-else-items-i : goal.returns-else-items-i
unfolding is_beyond
returns-else-items-i c = let a = c.args in let e = le-ltb a.items a.i c.if-items-i.false in simp e
