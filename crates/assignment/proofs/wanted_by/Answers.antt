-- `assignment::wanted_by` meets its contract: each turn adds one bidder. Assumes nothing.
use Prim.Native.Nat.{◌+◌}
use mathlib.Core.Path.{◌∙◌}
use native.Mathlib.Omega.{arith}
use Rattle.sets.proofs.Members.{alone-with}
use Rattle.assignment.proofs.Demanding.{wanting-start, wanting-next}
use Rattle.assignment.proofs.wanted_by.Goals as goal

pub loop-b-init : goal.loop-b-init
loop-b-init c = wanting-start c.args.sets.now c.args.nulls

pub loop-b-preserved : goal.loop-b-preserved
loop-b-preserved c =
    let a = c.args in
    let s = c.only in
    let v = c.add_demand in
    wanting-next a.sets.now a.nulls c.loop-b.invariant (omega (arith, c.requires)) s.result (s.ensures ∙ alone-with 64 (c.loop-b.b + 1)) v.new.who (omega arith) v.ensures

pub returns : goal.returns
returns c = λ b p bn lp. c.loop-b.invariant.done b (omega (arith, bn)) p lp
