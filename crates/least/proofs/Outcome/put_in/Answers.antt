-- `least::Outcome::put_in` meets its contract. Assumes nothing.
use native.Mathlib.Omega.{arith}
use Rattle.least.proofs.Putting.{with_bidder, joins-with, level-small, chained, put}
use Rattle.least.proofs.Distances.{same_or}
use Rattle.least.proofs.Outcome.put_in.Goals as goal

pub raise-requires : goal.raise-requires
raise-requires c =
    let r = c.requires in
    let f = c.search-s in
    (r.table.max_items, level-small r f.ensures.1 f.ensures.0 c.at-level.result c.at-level.ensures, r.small)

pub shift-requires : goal.shift-requires
shift-requires c =
    let a = c.args in
    let r = c.requires in
    let f = c.search-s in
    chained r f.ensures.1 f.ensures.0 c.at-level.result c.at-level.ensures c.raise.new.prices c.raise.ensures c.if_same-first.result (same_or _ _ _ _ _ c.if_same-first.ensures)
    (with_bidder r.on a.k) (joins-with r.on a.k r.waits)

pub returns : goal.returns
returns c =
    let f = c.search-s in
    λ r on joins. put r f.ensures.1 f.ensures.0 c.at-level.result c.at-level.ensures c.raise.new.prices c.raise.ensures c.if_same-first.result (same_or _ _ _ _ _ c.if_same-first.ensures)
    on joins c.shift.new.own (omega arith) c.shift.ensures
