-- `bench_exports::bench_end` meets its contract. Assumes nothing.
use mathlib.Core.Path.{ap, ◌∙◌}
use Rattle.live.specs.Calls.{end_answer, end_next, end_tables}
use Rattle.live.specs.declared.Auction.{Auction}
use Rattle.bench_exports.specs.Lent.{end_number_of, move_in}
use Rattle.bench_exports.proofs.Lent.{stands}
use Rattle.bench_exports.proofs.bench_end.Goals as goal

pub returns : goal.returns
returns c =
    let tables = c.args.tables.now in
    let x = c.end-step.ensures in
    let e = c.record_in.ensures in
    let answer = x.0 ∙ ap (λ (r : Auction). end_answer r tables) e in
    record {
      number = c.end_number.ensures ∙ ap end_number_of answer;
      moved = c.put_move.ensures ∙ ap move_in answer;
      «record» = stands _ _ _ _ _ _ _ (x.1 ∙ ap (λ (r : Auction). end_next r tables) e) c.leave.ensures;
      tables = x.2 ∙ ap (λ (r : Auction). end_tables r tables) e;
    }
