-- `bench_exports::phase_of` meets its contract. Assumes nothing.
use native.Mathlib.Omega.{arith}
use Rattle.bench_exports.proofs.Lent.{beyond}
use Rattle.bench_exports.specs.Lent.{phase_of}
use Rattle.bench_exports.proofs.phase_of.Goals as goal

pub returns-in-0 : goal.returns-in-0
unfolding phase_of
returns-in-0 c = simp c.in-0.is

pub returns-in-1 : goal.returns-in-1
unfolding phase_of
returns-in-1 c = simp c.in-1.is

pub returns-in_default : goal.returns-in_default
returns-in_default c = beyond c.args.number (omega arith) (omega arith)
