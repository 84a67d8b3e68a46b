-- `digits::digit_by_halves` meets its contract: a byte in the halves before this one has its value by then, and any other none yet. Assumes nothing.
use Prim.Native.Nat.{ℕ, ◌*◌}
use mathlib.Core.Path.{◌∙◌}
use mathlib.Core.Logic.{⊎_elim}
use native.Mathlib.Omega.{arith}
use Rattle.sets.proofs.Tests.{lt-or-le}
use Rattle.digits.proofs.Digits.{above, or-sixteen}
use Rattle.digits.proofs.digit_by_halves.Goals as goal

-- behind both halves no byte is a digit
pub returns : goal.returns
returns c =
    let l = c.loop-half in
    let byte : ℕ = c.args.byte in
    ⊎_elim l.invariant.0 (λ h. l.invariant.1 h ∙ or-sixteen (above byte (omega (arith, h)))) (lt-or-le byte (64 * l.half))
