-- `digits::digit_at` meets its contract. Assumes nothing.
use Prim.Native.Nat.{◌+◌, ◌≤◌}
use mathlib.Core.Path.{◌∙◌}
use native.Mathlib.Omega.{arith}
use lib.ListN.{length}
use Rattle.digits.proofs.Digits.{or-sixteen}
use Rattle.digits.proofs.Walking.{digit-there, digit-beyond}
use Rattle.digits.proofs.digit_at.Goals as goal

pub returns-then-s-at : goal.returns-then-s-at
returns-then-s-at c =
    let a = c.args in
    let l : length a.s.now ≤ a.at + a.further = omega arith in
    or-sixteen (digit-beyond a.s.now (a.at + a.further) l)

pub returns-then-here-s : goal.returns-then-here-s
returns-then-here-s c =
    let a = c.args in
    c.digit_by_halves.ensures ∙ or-sixteen (digit-there a.s.now (a.at + a.further) c.if-here-s.true)

pub returns : goal.returns
returns c =
    let a = c.args in
    or-sixteen (digit-beyond a.s.now (a.at + a.further) c.if-here-s.false)
