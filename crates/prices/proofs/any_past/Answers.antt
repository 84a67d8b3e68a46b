-- `prices::any_past` meets its contract. The largest so far is above the limit just where one of those passed is. Assumes nothing.
use native.Mathlib.Omega.{arith}
use lib.ListN.{get_or}
use borrow.Author.Tests.{le-ltb}
use Rattle.sets.specs.Count.{any_below}
use Rattle.prices.proofs.Amounts.{past_more}
use Rattle.prices.proofs.any_past.Goals as goal

pub loop-x-init : goal.loop-x-init
unfolding any_below
loop-x-init c = le-ltb c.args.limit 0 (omega arith)

pub loop-x-preserved : goal.loop-x-preserved
loop-x-preserved c =
    let at = c.loop-x in
    past_more c.args.limit (λ k. get_or c.args.xs.now k 0) at.x-index at.most c.larger-most.result at.invariant c.larger-most.ensures
