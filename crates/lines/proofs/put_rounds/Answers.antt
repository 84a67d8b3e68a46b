-- `lines::put_rounds` meets its contract. Assumes nothing.
use Prim.Native.Nat.{ℕ, ◌+◌}
use mathlib.Core.Path.{◌≡◌, ap, ◌∙◌}
use mathlib.Core.List.{List, ◌++◌}
use native.Mathlib.Omega.{arith}
use lib.ListN.{length, set, length-set, length-append}
use lib.Seq.{sets}
use Rattle.digits.specs.Digits.{hex}
use Rattle.digits.proofs.Digits.{hex-length}
use Rattle.digits.proofs.Room.{written}
use Rattle.lines.specs.Lines.{newline}
use Rattle.lines.proofs.Stores.{sets_then}
use Rattle.lines.proofs.put_rounds.Goals as goal

-- two numbers and the line's end, one after the other
line : (l a b : List ℕ) (u d : ℕ) → a ≡ sets l 0 (hex 6 u) → b ≡ sets a 6 (hex 6 d) → set b 12 10 ≡ sets l 0 (hex 6 u ++ hex 6 d ++ newline)
unfolding newline
line l a b u d e f =
    let j : 0 + length (hex 6 u) ≡ 6 = omega (arith, hex-length 6 u) in
    let k : 0 + length (hex 6 u ++ hex 6 d) ≡ 12 = omega (arith, length-append (hex 6 u) (hex 6 d), hex-length 6 u, hex-length 6 d) in
    let both : b ≡ sets l 0 (hex 6 u ++ hex 6 d) = f ∙ ap (λ (r : List ℕ). sets r 6 (hex 6 d)) e ∙ sets_then l 0 6 (hex 6 u) (hex 6 d) j in
    ap (λ (r : List ℕ). set r 12 10) both ∙ sets_then l 0 12 (hex 6 u ++ hex 6 d) newline k

pub shape_of-out : goal.shape_of-out
shape_of-out c = simp length-set (omega arith)

pub returns : goal.returns
returns c =
    let a = c.args in
    let first = c.write_number in
    let second = c.write_number-2 in
    line a.out.now first.new.out second.new.out a.raised a.lowered
    (written a.out.now first.new.out 0 6 a.raised (omega arith) first.ensures.1)
    (written first.new.out second.new.out 6 6 a.lowered (omega arith) second.ensures.1)
