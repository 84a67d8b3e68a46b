-- What is written where there is room for it. Assumes nothing.
use Prim.Native.Nat.{ℕ, ◌+◌, ◌≤◌}
use mathlib.Core.Path.{◌≡◌, ap, ◌∙◌}
use mathlib.Core.Bool.{Bool, cond}
use mathlib.Core.List.{List}
use lib.Dec.{leb}
use lib.ListN.{length}
use lib.Seq.{sets}
use borrow.Author.Tests.{le-leb}
use Rattle.digits.specs.Digits.{hex}

-- a number that has room is written
pub written : (out after : List ℕ) (at n x : ℕ) → at + n ≤ length out → after ≡ cond (leb (at + n) (length out)) (sets out at (hex n x)) out → after ≡ sets out at (hex n x)
written out after at n x l e = e ∙ ap (λ (b : Bool). cond b (sets out at (hex n x)) out) (le-leb (at + n) (length out) l)
