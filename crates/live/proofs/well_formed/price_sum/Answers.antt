-- `live::well_formed::price_sum` meets its contract. Assumes nothing.
use mathlib.Core.Path.{◌≡◌, refl, sym, ap, ◌∙◌}
use mathlib.Core.List.{List}
use Prim.Native.Nat.{ℕ, ◌+◌, ◌≤◌, ◌<◌}
use native.Mathlib.Omega.{arith}
use native.Mathlib.Numerals.{add-one}
use lib.ListN.{length, get_or, take}
use lib.Seq.{length-take-le}
use Rattle.std.proofs.lemmas.List.{get_or-take}
use Rattle.sets.specs.Sum.{sum}
use Rattle.rule.specs.Sheet.{amount, price_sum}
use Rattle.live.proofs.well_formed.price_sum.Invariants.{sum_of}
use Rattle.live.proofs.well_formed.price_sum.Goals as goal

module _ (p : List ℕ) (m : ℕ) where
  sum_more : (k : ℕ) → k < m → sum_of (k + 1) p ≡ sum_of k p + get_or (take m p) k 0
  unfolding sum amount
  sum_more k l = ap (λ (n : ℕ). sum_of n p) (add-one k) ∙ ap (λ (x : ℕ). sum_of k p + x) (sym (get_or-take m p k 0 l))

  long : length p ≡ 32 → m ≤ 32 → length (take m p) ≡ m
  long e l = length-take-le m p (omega (arith, e, l))

pub loop-price-init : goal.loop-price-init
unfolding sum
loop-price-init c = (refl, omega arith)

pub loop-price-preserved : goal.loop-price-preserved
loop-price-preserved c =
    let at = c.loop-price in
    let p : List ℕ = c.args.prices.now in
    let n = long p c.args.items c.told-prices c.requires in
    let l : at.price-index < c.args.items = omega (arith, n, c.loop-price-test.true) in
    let e = c.wide-sum.ensures in
    let small = c.fits-prices at.price-index in
    (omega (arith, at.invariant.0, e, sum_more p c.args.items at.price-index l), omega (arith, at.invariant.1, e, small, get_or-take c.args.items p at.price-index 0 l))

pub returns : goal.returns
unfolding price_sum
returns c =
    let at = c.loop-price in
    let a = c.args in
    let n = long a.prices.now a.items c.told-prices c.requires in
    let e : at.price-index ≡ a.items = omega (arith, n) in
    (at.invariant.0 ∙ ap (λ (n : ℕ). sum_of n a.prices.now) e, omega (arith, at.invariant.1, e))
