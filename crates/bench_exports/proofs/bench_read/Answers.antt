-- `bench_exports::bench_read` meets its contract. Assumes nothing.
use mathlib.Core.Path.{ap, ◌∙◌}
use Rattle.live.specs.Reading.{read_number, read_bytes}
use Rattle.live.specs.declared.Auction.{Auction}
use Rattle.bench_exports.proofs.bench_read.Goals as goal

pub returns : goal.returns
returns c =
    let out = c.args.out.now in
    let e = c.record_in.ensures in
    record { number = c.read.ensures.0 ∙ ap (λ (r : Auction). read_number r out) e; bytes = c.read.ensures.1 ∙ ap (λ (r : Auction). read_bytes r out) e }
