-- `reports::misses` meets its contract. Assumes nothing.
use Prim.Native.Nat.{ℕ}
use mathlib.Core.Path.{ap, ◌∙◌}
use lib.Dec.{ltb}
use Rattle.reports.proofs.Laws.{missing-count}
use Rattle.reports.proofs.misses.Goals as goal

pub returns : goal.returns
returns c =
    let a = c.args in
    ap (λ (x : ℕ). ltb x a.bidders) c.bidder_count.ensures
    ∙ missing-count a.bidders a.reported c.first.result c.common-here.result c.ranges.reported.fits c.first.ensures c.common-here.ensures
