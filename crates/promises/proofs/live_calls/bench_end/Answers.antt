-- `promises::live_calls::bench_end` meets its contract. Assumes nothing.
use Rattle.promises.proofs.Calls.{in-lists}
use Rattle.promises.proofs.live_calls.bench_end.Goals as goal

pub returns : goal.returns
returns c =
    let e = c.bench_end.ensures in
    record { number = e.number; moved = e.moved; «record» = in-lists _ _ _ _ _ _ e.«record»; tables = e.tables }
