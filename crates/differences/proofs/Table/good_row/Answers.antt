-- `differences::Table::good_row` meets its contract. Assumes nothing.
use mathlib.Core.Path.{◌≡◌, sym, ap, ◌∙◌}
use mathlib.Core.List.{[]}
use native.Mathlib.Omega.{arith}
use lib.Dec.{eqb}
use lib.ListN.{get_or}
use lib.IntN.{ℤ, pos}
use borrow.Author.Count.{below_more}
use Rattle.sets.proofs.Tests.{all-make}
use Rattle.differences.specs.Table.{entry}
use Rattle.differences.specs.Shifted.{up, shifted, good_place, good_row}
use Rattle.differences.proofs.Signs.{back, again, place-small}
use Rattle.differences.proofs.Goodness.{all-not}
use Rattle.differences.proofs.Table.good_row.Goals as goal

pub good_place-requires : goal.good_place-requires
good_place-requires c =
    let a = c.args in
    let s = a.self.now in
    again (get_or (get_or s.rows a.i []) c.loop-j.j (pos 0)) (place-small s.rows s.small a.i c.loop-j.j)

pub returns-then-not-good_place : goal.returns-then-not-good_place
unfolding good_row shifted entry
returns-then-not-good_place c =
    let a = c.args in
    let s = a.self.now in
    let j = c.loop-j.j in
    let x = get_or (get_or s.rows a.i []) j (pos 0) in
    let here : good_place (eqb a.i j) (up x) ≡ c.good_place.result =
    sym (c.good_place.ensures ∙ ap (λ (z : ℤ). good_place (eqb a.i j) (up z)) (back x (place-small s.rows s.small a.i j))) in
    sym (all-not s.options (λ h. good_place (eqb a.i h) (shifted s.rows a.i h)) j (omega arith) (here ∙ c.if-not-good_place.true))

pub loop-j-preserved : goal.loop-j-preserved
unfolding shifted entry
loop-j-preserved c =
    let a = c.args in
    let s = a.self.now in
    let j = c.loop-j.j in
    let x = get_or (get_or s.rows a.i []) j (pos 0) in
    let here : good_place (eqb a.i j) (up x) ≡ c.good_place.result =
    sym (c.good_place.ensures ∙ ap (λ (z : ℤ). good_place (eqb a.i j) (up z)) (back x (place-small s.rows s.small a.i j))) in
    below_more _ j c.loop-j.invariant (here ∙ c.if-not-good_place.false)

pub returns : goal.returns
unfolding good_row
returns c =
    let a = c.args in
    let s = a.self.now in
    sym (all-make s.options (λ h. good_place (eqb a.i h) (shifted s.rows a.i h)) (λ k l. c.loop-j.invariant k (omega arith)))
