-- `differences::place_fits` meets its contract. Assumes nothing.
use mathlib.Core.Path.{◌≡◌, sym, ap, ◌∙◌}
use mathlib.Core.Bool.{true, false}
use lib.IntN.{ℤ, pos, negsuc}
use lib.Signed.{le_z, lt_z}
use borrow.Author.Rules.{rules}
use Rattle.differences.specs.Table.{is_difference}
use Rattle.differences.proofs.Signs.{read, zero_test, not-below}
use Rattle.differences.proofs.Fitting.{fits-beyond, fits-inside}
use Rattle.differences.proofs.place_fits.Goals as goal

pub returns-then-is_beyond : goal.returns-then-is_beyond
returns-then-is_beyond c =
    let a = c.args in
    let e : read a.x ≡ a.x = search rules in
    zero_test a.x e ∙ sym (fits-beyond a.items a.i a.j a.x (sym c.is_beyond.ensures ∙ c.if-is_beyond.true))

pub returns-then-x-ltminus4095 : goal.returns-then-x-ltminus4095
unfolding is_difference
returns-then-x-ltminus4095 c =
    let a = c.args in
    let e : read a.x ≡ a.x = search rules in
    let low : le_z (negsuc 4094) a.x ≡ false = not-below a.x true (ap (λ (z : ℤ). lt_z z (negsuc 4094)) (sym e) ∙ c.if-x-ltminus4095.true) in
    let f = fits-inside a.items a.i a.j a.x (sym c.is_beyond.ensures ∙ c.if-is_beyond.false) in
    simp (f, low)

pub returns : goal.returns
unfolding is_difference
returns c =
    let a = c.args in
    let e : read a.x ≡ a.x = search rules in
    let low : le_z (negsuc 4094) a.x ≡ true = not-below a.x false (ap (λ (z : ℤ). lt_z z (negsuc 4094)) (sym e) ∙ c.if-x-ltminus4095.false) in
    let f = fits-inside a.items a.i a.j a.x (sym c.is_beyond.ensures ∙ c.if-is_beyond.false) in
    ap (λ (z : ℤ). le_z z (pos 4095)) e ∙ simp (f, low)
