-- `bench_exports::bench_open` meets its contract. Assumes nothing.
use mathlib.Core.Path.{ap}
use Rattle.live.specs.declared.Reply.{Reply}
use Rattle.bench_exports.proofs.Lent.{stands}
use Rattle.bench_exports.proofs.bench_open.Goals as goal

pub returns : goal.returns
returns c =
    let x = c.open-opened.ensures in
    record { number = ap (λ (r : Reply). r.number) x.0; «record» = stands _ _ _ _ _ _ _ (ap (λ (r : Reply). r.next) x.0) c.leave.ensures; tables = x.1 }
