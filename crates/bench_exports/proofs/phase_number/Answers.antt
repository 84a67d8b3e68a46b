-- `bench_exports::phase_number` meets its contract. Assumes nothing.
use Rattle.bench_exports.specs.Lent.{phase_number}
use Rattle.bench_exports.proofs.phase_number.Goals as goal

pub returns-in-Rising : goal.returns-in-Rising
unfolding phase_number
returns-in-Rising c = simp c.in-Rising.is

pub returns-in-Falling : goal.returns-in-Falling
unfolding phase_number
returns-in-Falling c = simp c.in-Falling.is

pub returns-in-Closed : goal.returns-in-Closed
unfolding phase_number
returns-in-Closed c = simp c.in-Closed.is
