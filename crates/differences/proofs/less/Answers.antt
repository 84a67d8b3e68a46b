-- `differences::less` meets its contract. Assumes nothing.
use Rattle.differences.proofs.Signs.{less-is}
use Rattle.differences.proofs.less.Goals as goal

pub returns : goal.returns
returns c = let a = c.args in less-is a.x a.y c.requires.0 c.requires.1
