-- `bench_exports::put_move` meets its contract. Assumes nothing.
use Rattle.std.proofs.Common.{arith}
use Rattle.std.proofs.lemmas.Grind.{common_steps}
use Rattle.live.specs.Calls.{ending_of, move_of}
use Rattle.bench_exports.specs.Lent.{move_in}
use Rattle.bench_exports.proofs.put_move.Goals as goal

pub returns-in-Moved-Raised-default : goal.returns-in-Moved-Raised-default
unfolding move_in ending_of move_of
returns-in-Moved-Raised-default c = grind (arith, common_steps)

pub returns-in-Moved-Lowered-default : goal.returns-in-Moved-Lowered-default
unfolding move_in ending_of move_of
returns-in-Moved-Lowered-default c = grind (arith, common_steps)

pub returns-in-Closed : goal.returns-in-Closed
unfolding move_in ending_of
returns-in-Closed c = grind (arith, common_steps)
