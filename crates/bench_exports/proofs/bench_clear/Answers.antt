-- `bench_exports::bench_clear` meets its contract. Assumes nothing.
use mathlib.Core.Path.{ap, ◌∙◌}
use Rattle.live.specs.Calls.{clear}
use Rattle.live.specs.declared.Auction.{Auction}
use Rattle.live.specs.declared.Reply.{Reply}
use Rattle.bench_exports.proofs.Lent.{stands}
use Rattle.bench_exports.proofs.bench_clear.Goals as goal

pub returns : goal.returns
returns c =
    let e = c.clear-cleared.ensures ∙ ap (λ (r : Auction). clear r) c.record_in.ensures in
    record { number = ap (λ (r : Reply). r.number) e; «record» = stands _ _ _ _ _ _ _ (ap (λ (r : Reply). r.next) e) c.leave.ensures }
