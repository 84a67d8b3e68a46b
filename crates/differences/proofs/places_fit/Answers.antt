-- `differences::places_fit` meets its contract. The places passed so far hold what they may. Assumes nothing.
use Prim.Native.Nat.{◌/◌, ◌%◌}
use mathlib.Core.Path.{◌≡◌, sym, ap, ◌∙◌}
use mathlib.Core.Bool.{true}
use native.Mathlib.Omega.{arith}
use lib.ListN.{get_or}
use lib.IntN.{pos}
use borrow.Author.Count.{below_more}
use borrow.Author.Rules.{rules}
use Rattle.differences.specs.Table.{place_fits}
use Rattle.differences.specs.Lent.{is_part}
use Rattle.differences.proofs.Signs.{read}
use Rattle.differences.proofs.Places.{part-use}
use Rattle.differences.proofs.Fitting.{places-none, places-all, place-not}
use Rattle.differences.proofs.places_fit.Goals as goal

pub returns-then-not-is_part : goal.returns-then-not-is_part
returns-then-not-is_part c = let a = c.args in sym (places-none a.items a.part.now (sym c.is_part.ensures ∙ c.if-not-is_part.true))

pub returns-then-not-place_fits : goal.returns-then-not-place_fits
returns-then-not-place_fits c =
    let fitted : is_part c.args.items c.args.part.now ≡ true = sym c.is_part.ensures ∙ c.if-not-is_part.false in
    let here : place_fits c.args.items (c.loop-k.k / 33) (c.loop-k.k % 33) (get_or c.args.part.now c.loop-k.k (pos 0)) ≡ c.place_fits.result =
    let a = c.args in
    let k = c.loop-k.k in
    let e : read (get_or a.part.now k (pos 0)) ≡ get_or a.part.now k (pos 0) = search rules in
    sym (c.place_fits.ensures ∙ ap (place_fits a.items (k / 33) (k % 33)) e) in
    let a = c.args in
    let long = (part-use a.items a.part.now fitted).0 in
    sym (place-not a.items a.part.now fitted c.loop-k.k (omega arith) (here ∙ c.if-not-place_fits.true))

pub loop-k-preserved : goal.loop-k-preserved
loop-k-preserved c =
    let here : place_fits c.args.items (c.loop-k.k / 33) (c.loop-k.k % 33) (get_or c.args.part.now c.loop-k.k (pos 0)) ≡ c.place_fits.result =
    let a = c.args in
    let k = c.loop-k.k in
    let e : read (get_or a.part.now k (pos 0)) ≡ get_or a.part.now k (pos 0) = search rules in
    sym (c.place_fits.ensures ∙ ap (place_fits a.items (k / 33) (k % 33)) e) in
    let at = c.loop-k in
    below_more _ at.k at.invariant (here ∙ c.if-not-place_fits.false)

pub returns : goal.returns
returns c =
    let fitted : is_part c.args.items c.args.part.now ≡ true = sym c.is_part.ensures ∙ c.if-not-is_part.false in
    let a = c.args in
    let long = (part-use a.items a.part.now fitted).0 in
    sym (places-all a.items a.part.now fitted (λ k l. c.loop-k.invariant k (omega arith)))
