-- `sheet::ends_at` meets its contract. Assumes nothing.
use Prim.Native.Nat.{ℕ}
use mathlib.Core.Path.{refl, sym, ap, ◌∙◌}
use lib.Dec.{eqb}
use lib.ListN.{length, get_or-eq_default}
use borrow.Author.Tests.{le-ltb}
use Rattle.lines.specs.Reading.{ends_at}
use Rattle.sheet.proofs.ends_at.Goals as goal

pub returns-then-at-s : goal.returns-then-at-s
unfolding ends_at
returns-then-at-s c = refl

pub returns-else-at-s : goal.returns-else-at-s
unfolding ends_at
returns-else-at-s c =
    let a = c.args in
    le-ltb a.at (length a.s.now) c.if-at-s.false ∙ ap (λ (b : ℕ). eqb b 10) (sym (get_or-eq_default a.s.now 0 c.if-at-s.false))
