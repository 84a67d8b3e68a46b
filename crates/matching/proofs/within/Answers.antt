-- `matching::within` meets its contract: each set passed is what of the bidder's set lies in the items. Assumes nothing.
use mathlib.Core.Path.{◌∙◌, ap}
use mathlib.Core.Bool.{◌&&◌}
use Prim.Native.Nat.{ℕ}
use native.Mathlib.Omega.{arith}
use lib.ListN.{get_or, length-set}
use lib.Seq.{get_or-set_same, get_or-set_other}
use borrow.Author.Count.{below_more}
use Rattle.sets.specs.Bit.{is_set, has}
use Rattle.sets.proofs.Members.{is_set-set_of}
use Rattle.matching.proofs.within.Goals as goal

pub loop-set-preserved : goal.loop-set-preserved
unfolding has
loop-set-preserved c =
    let at = c.loop-set in
    let v = c.common.result in
    let s = get_or at.set-items at.set-index 0 in
    let h = at.invariant in
    record {
      long = length-set at.set-items at.set-index v ∙ h.long;
      left = λ b lb. get_or-set_other at.set-items at.set-index b v 0 (λ q. omega arith) ∙ h.left b (omega arith);
      cut = below_more _ _
          (λ b lb i li. ap (λ (x : ℕ). is_set x i) (get_or-set_other at.set-items at.set-index b v 0 (λ q. omega arith)) ∙ h.cut b lb i li)
          (λ i li. ap (λ (x : ℕ). is_set x i) (get_or-set_same at.set-items at.set-index v 0 (omega (arith, h.long)) ∙ c.common.ensures)
          ∙ is_set-set_of 32 (λ j. has s j && has c.args.items j) i li
          ∙ ap (λ (x : ℕ). is_set x i && is_set c.args.items i) (h.left at.set-index (omega arith)));
    }
