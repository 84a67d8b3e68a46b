-- `bench_exports::end_number` meets its contract. Assumes nothing.
use Rattle.std.proofs.Common.{arith}
use Rattle.std.proofs.lemmas.Grind.{common_steps}
use Rattle.live.specs.Calls.{ending_of}
use Rattle.bench_exports.specs.Lent.{end_number_of}
use Rattle.bench_exports.proofs.end_number.Goals as goal

pub returns-in-Moved : goal.returns-in-Moved
unfolding end_number_of ending_of
returns-in-Moved c = grind (arith, common_steps)

pub returns-in-Refused : goal.returns-in-Refused
unfolding end_number_of ending_of
returns-in-Refused c = simp c.in-Refused.is
