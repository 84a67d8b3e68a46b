-- `round::add` meets its contract. Assumes nothing.
use mathlib.Core.Path.{◌≡◌, refl, ◌∙◌}
use mathlib.Core.Bool.{◌||◌}
use lib.Dec.{eqb}
use Rattle.sets.specs.Bit.{has, set_of}
use Rattle.round.proofs.Adding.{add-on, add-off}
use Rattle.round.proofs.add.Goals as goal

pub returns-then-on : goal.returns-then-on
returns-then-on g c =
    let a = c.args in
    let w = g.S.Set.width in
    let s = g.S.Set.bits a.set in
    let joined : g.S.Set.bits c.with.result ≡ set_of w (λ k. has s k || eqb k a.number) = c.with.ensures in
    joined ∙ add-on w s a.number a.on c.if-on.true

pub returns-else-on : goal.returns-else-on
returns-else-on g c = let a = c.args in c.with-else-on.ensures ∙ add-off g.S.Set.width (g.S.Set.bits a.set) a.number 0 a.on refl c.if-on.false
