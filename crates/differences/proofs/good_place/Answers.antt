-- `differences::good_place` meets its contract. Assumes nothing.
use mathlib.Core.Path.{sym, ap, ◌∙◌}
use mathlib.Core.Bool.{Bool}
use Rattle.differences.specs.Shifted.{up, good_place}
use Rattle.differences.proofs.Signs.{from_null, from_lowest}
use Rattle.differences.proofs.good_place.Goals as goal

pub returns-then-own : goal.returns-then-own
unfolding good_place
returns-then-own c = let a = c.args in from_null a.x c.requires ∙ sym (ap (λ (b : Bool). good_place b (up a.x)) c.if-own.true)

pub returns-else-own : goal.returns-else-own
unfolding good_place
returns-else-own c = let a = c.args in from_lowest a.x c.requires ∙ sym (ap (λ (b : Bool). good_place b (up a.x)) c.if-own.false)
