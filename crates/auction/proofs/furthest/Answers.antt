-- `auction::furthest` meets its contract. The most so far is the greatest of the places passed. Assumes nothing.
use Prim.Native.Nat.{ℕ, ◌-◌}
use mathlib.Core.Path.{sym, ap, ap₂, ◌∙◌}
use lib.ListN.{length, length-append}
use Rattle.std.proofs.Common.{rules}
use Rattle.std.proofs.lemmas.Slice.Zip.{zip_turn}
use Rattle.rule.specs.Sheet.{amount, greatest}
use Rattle.rule.proofs.Greatest.{greatest-next}
use Rattle.auction.proofs.furthest.Goals as goal

pub loop-x-preserved : goal.loop-x-preserved
unfolding amount
loop-x-preserved c =
    let a = c.args in
    let at = c.loop-x in
    let here = zip_turn a.a.now a.b.now at.yielded c.into_iter-x-iterator.result at.x-iterator c.next.new.self c.next.result (search rules) (search rules) at.yielded_by _ c.in-Some.is c.next.ensures.steps in
    greatest-next (λ j. amount a.a.now j - amount a.b.now j) (length at.yielded) at.most c.over.result c.larger-most.result at.invariant
    (c.over.ensures ∙ ap₂ ◌-◌ (here.2 0) (here.3 0)) c.larger-most.ensures
    ∙ sym (ap (λ (k : ℕ). greatest k (λ j. amount a.a.now j - amount a.b.now j)) (length-append at.yielded _))
