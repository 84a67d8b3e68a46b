-- `prices::first_under` meets its contract. The furthest so far that a floor is above its price is above 0 just where one of those passed is. Assumes nothing.
use Prim.Native.Nat.{ℕ, ◌-◌, max}
use mathlib.Core.Path.{refl, sym, ap, ap₂, ◌∙◌}
use lib.Dec.{ltb}
use lib.ListN.{length, get_or, length-append}
use Rattle.std.proofs.Common.{rules}
use Rattle.std.proofs.lemmas.Slice.Zip.{zip_turn, zip_end}
use Rattle.sets.specs.Count.{any_below}
use Rattle.prices.proofs.Amounts.{past_more}
use Rattle.prices.proofs.first_under.Goals as goal

pub loop-price-init : goal.loop-price-init
unfolding any_below
loop-price-init c = refl

pub loop-price-preserved : goal.loop-price-preserved
loop-price-preserved c =
    let a = c.args in
    let at = c.loop-price in
    let far = λ (k : ℕ). get_or a.floors.now k 0 - get_or a.prices.now k 0 in
    let here = zip_turn a.prices.now a.floors.now at.yielded c.into_iter-price-iterator.result at.price-iterator c.next.new.self c.next.result (search rules) (search rules) at.yielded_by _ c.in-Some.is c.next.ensures.steps in
    past_more 0 far (length at.yielded) at.most c.larger-most.result at.invariant
    (c.larger-most.ensures ∙ ap (max at.most) (c.over.ensures ∙ ap₂ ◌-◌ (here.3 0) (here.2 0)))
    ∙ sym (ap (λ (n : ℕ). any_below n (λ k. ltb 0 (far k))) (length-append at.yielded _))

pub returns : goal.returns
returns c =
    let a = c.args in
    let at = c.loop-price in
    at.invariant
    ∙ ap (λ (n : ℕ). any_below n (λ k. ltb 0 (get_or a.floors.now k 0 - get_or a.prices.now k 0)))
    (zip_end a.prices.now a.floors.now at.yielded c.into_iter-price-iterator.result at.price-iterator c.next.new.self c.next.result (search rules) (search rules) at.yielded_by c.in-None.is c.next.ensures.steps)
