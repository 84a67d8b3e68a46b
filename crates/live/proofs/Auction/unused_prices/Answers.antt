-- `live::Auction::unused_prices` meets its contract. The prices from the count up to i are zero. Assumes nothing.
use mathlib.Core.Path.{sym}
use native.Mathlib.Omega.{arith}
use Rattle.sets.proofs.Tests.{is_false}
use Rattle.rule.specs.Sheet.{amount}
use Rattle.live.specs.Auction.{unused_prices}
use Rattle.live.proofs.Formed.{past-items-use, past-items-make}
use Rattle.live.proofs.Auction.unused_prices.Goals as goal

pub returns-then-self-i-ne0 : goal.returns-then-self-i-ne0
unfolding amount
returns-then-self-i-ne0 c =
    let at = c.loop-i in
    let r = c.args.self in
    sym (is_false (unused_prices r) (λ e. c.if-self-i-ne0.true (past-items-use r e at.i c.loop-i-test.true at.auto.i)))

pub returns : goal.returns
unfolding amount
returns c =
    let at = c.loop-i in
    let r = c.args.self in
    sym (past-items-make r (λ k l h. at.invariant k (omega (arith, l, c.loop-i-test.false)) h))
