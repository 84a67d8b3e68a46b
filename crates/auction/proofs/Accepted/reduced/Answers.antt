-- `auction::Accepted::reduced` meets its contract: each turn fills one line. Assumes nothing.
use Prim.Native.Nat.{ℕ}
use native.Mathlib.Omega.{arith}
use lib.ListN.{length-replicate}
use Rattle.auction.proofs.Reducing.{accepted-fit, line-fits, lines_none, lines_more}
use borrow.Author.Rules.{rules}
use Rattle.auction.proofs.Accepted.reduced.Goals as goal

pub loop-b-init : goal.loop-b-init
loop-b-init c = let a = c.args in (length-replicate {A = ℕ} 2048 0, lines_none (accepted-fit c.args.self.now) a.prices.now _)

pub overflow_cast-b : goal.overflow_cast-b
overflow_cast-b c = omega (arith, (accepted-fit c.args.self.now).max_bidders)

pub overflow_mul-b : goal.overflow_mul-b
overflow_mul-b c =
    let low = line-fits (accepted-fit c.args.self.now) c.args.prices.now c.loop-b.b (omega arith) c.row-line.result.now c.row-line.ensures.0 in
    search rules

pub reduce_line-requires : goal.reduce_line-requires
reduce_line-requires c = (c.loop-b.invariant.0, line-fits (accepted-fit c.args.self.now) c.args.prices.now c.loop-b.b (omega arith) c.row-line.result.now c.row-line.ensures.0)

pub loop-b-preserved : goal.loop-b-preserved
loop-b-preserved c =
    let a = c.args in
    let at = c.loop-b in
    let t = c.reduce_line in (
      t.ensures.long,
      lines_more (accepted-fit c.args.self.now) a.prices.now at.b (omega arith) c.row-line.result.now c.row-line.ensures.0 c.surplus_of-surplus.result c.surplus_of-surplus.ensures at.table t.new.table at.invariant.1 t.ensures,
    )
