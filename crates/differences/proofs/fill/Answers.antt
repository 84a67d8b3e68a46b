-- `differences::fill` meets its contract. Assumes nothing.
use mathlib.Core.Path.{◌≡◌, sym, ◌∙◌}
use mathlib.Core.Bool.{true, false}
use native.Mathlib.Omega.{arith}
use Rattle.differences.specs.Lent.{is_part, filled}
use Rattle.differences.specs.Constraint.{opening_place}
use Rattle.differences.proofs.Places.{part-use, part-start, part_end}
use Rattle.differences.proofs.Opening.{is-opening}
use Rattle.differences.proofs.fill.Goals as goal

pub returns-then-not-is_part : goal.returns-then-not-is_part
unfolding filled
returns-then-not-is_part c =
    let a = c.args in
    let e : is_part a.items a.part.now ≡ false = sym c.is_part.ensures ∙ c.if-not-is_part.true in
    simp e

pub loop-k-init : goal.loop-k-init
loop-k-init c =
    let fitted : is_part c.args.items c.args.part.now ≡ true = sym c.is_part.ensures ∙ c.if-not-is_part.false in
    let a = c.args in part-start (opening_place a.items) a.part.now (part-use a.items a.part.now fitted).0

pub returns : goal.returns
unfolding filled
returns c =
    let fitted : is_part c.args.items c.args.part.now ≡ true = sym c.is_part.ensures ∙ c.if-not-is_part.false in
    let a = c.args in
    let at = c.loop-k in
    let e = fitted in
    let few = (part-use a.items a.part.now e).1 in
    is-opening a.items few at.part at.invariant.long (part_end (opening_place a.items) at.part at.k at.invariant (omega arith)) ∙ (simp e)
