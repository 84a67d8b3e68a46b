-- `console::amount_there` meets its contract. Assumes nothing.
use Prim.Native.Nat.{ℕ, ◌+◌, ◌*◌}
use mathlib.Core.Path.{refl, sym, ap, ◌∙◌}
use Rattle.std.specs.Prelude.{Option, is_some}
use native.Mathlib.Omega.{arith}
use Rattle.digits.proofs.Walking.{was-read}
use Rattle.console.proofs.amount_there.Goals as goal

pub returns : goal.returns
returns c =
    let a = c.args in
    c.is_some.ensures ∙ ap (λ (o : Option ℕ). is_some o) (sym (was-read 4 (5 + 4 * a.i) a.line.now c.number_at.result _ (omega arith) c.number_at.ensures refl))
