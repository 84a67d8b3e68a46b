-- `promises::live_calls::bench_open_above` meets its contract. Assumes nothing.
use Rattle.promises.proofs.Calls.{in-lists}
use Rattle.promises.proofs.live_calls.bench_open_above.Goals as goal

pub returns : goal.returns
returns c =
    let e = c.bench_open_above.ensures in
    record { number = e.number; «record» = in-lists _ _ _ _ _ _ e.«record»; tables = e.tables }
