-- `assignment::options` meets its contract. The options so far fill their places, can be completed, and begin the names. Assumes nothing.
use Prim.Native.Nat.{ℕ}
use mathlib.Core.Path.{refl, ap₂, ◌∙◌}
use native.Mathlib.Omega.{arith}
use Rattle.sets.specs.Lists.{places}
use Rattle.sets.proofs.Words.{first-all}
use Rattle.rule.specs.Assignment.{assignment}
use Rattle.round.specs.Reports.{reports}
use Rattle.assignment.proofs.Assigning.{going_start, going-turn, going_next, going_end}
use Rattle.assignment.proofs.options.Goals as goal

pub loop-b-init : goal.loop-b-init
loop-b-init c =
    let a = c.args in
    let later = c.first in
    record {
      going = going_start a.n a.sets.now a.nulls a.above a.start c.requires.0 (omega arith) c.requires.1 later.result (later.ensures ∙ first-all 64 a.n c.requires.0);
      demanded = record { by_bidder = c.demands.ensures; by_place = c.wanted_by.ensures };
      same_n = refl;
      same_above = refl;
    }

pub option-i-requires : goal.option-i-requires
option-i-requires c =
    let at = c.loop-b.invariant in
    going-turn at.going (omega arith) c.without.result c.without.ensures at.demanded

pub loop-b-preserved : goal.loop-b-preserved
loop-b-preserved c =
    let at = c.loop-b.invariant in
    let l = c.without in
    let i = c.option-i in
    let u = c.without-in-loop-b in
    let v = c.with in
    record {
      going = going_next at.going (omega arith) l.result l.ensures at.demanded i.result i.new.x (omega arith) i.ensures.1 u.result u.ensures v.result v.ensures;
      demanded = at.demanded;
      same_n = at.same_n;
      same_above = at.same_above;
    }

pub returns : goal.returns
returns c =
    let a = c.args in
    let at = c.loop-b.invariant in
    going_end at.going (omega arith) ∙ ap₂ (λ (n above : ℕ). places 64 (assignment 32 above (reports n a.sets.now a.nulls))) at.same_n at.same_above
