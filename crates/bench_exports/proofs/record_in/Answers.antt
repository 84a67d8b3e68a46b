-- `bench_exports::record_in` meets its contract. Assumes nothing.
use Rattle.bench_exports.specs.Lent.{record_in}
use Rattle.bench_exports.proofs.record_in.Goals as goal

pub returns : goal.returns
unfolding record_in
returns c = simp c.phase_of.ensures
