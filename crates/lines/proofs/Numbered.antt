-- A number's two digits and its line, stored at the front where there is room. Assumes nothing.
use Prim.Native.Nat.{ℕ, ◌≤◌}
use mathlib.Core.Path.{◌≡◌, refl, ap, ◌∙◌}
use mathlib.Core.Bool.{Bool, cond}
use mathlib.Core.List.{List}
use lib.Dec.{ltb}
use lib.ListN.{length}
use lib.Seq.{sets}
use borrow.Author.Tests.{le-ltb}
use Rattle.lines.specs.Lines.{newline, number_text, number_line}

pub text-long : (x : ℕ) → length (number_text x) ≡ 2
unfolding number_text
text-long x = refl

pub number-long : (x : ℕ) → length (number_line x) ≡ 3
unfolding number_line number_text newline
number-long x = refl

-- where there is room for k bytes, they are stored
pub enough : (k : ℕ) (out vs : List ℕ) → k ≤ length out → cond (ltb (length out) k) out vs ≡ vs
enough k out vs l = ap (λ (t : Bool). cond t out vs) (le-ltb (length out) k l)

-- where there is room, they are there
pub two-put : (out after : List ℕ) (x : ℕ) → 2 ≤ length out → after ≡ cond (ltb (length out) 2) out (sets out 0 (number_text x)) → after ≡ sets out 0 (number_text x)
two-put out after x l e = e ∙ enough 2 out (sets out 0 (number_text x)) l

pub refusal-put : (out after : List ℕ) (x : ℕ) → 3 ≤ length out → after ≡ cond (ltb (length out) 3) out (sets out 0 (number_line x)) → after ≡ sets out 0 (number_line x)
refusal-put out after x l e = e ∙ enough 3 out (sets out 0 (number_line x)) l
