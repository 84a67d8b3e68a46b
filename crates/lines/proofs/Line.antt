-- A line: what stands in a sheet is what reading it gives, and the other way round. Assumes nothing.
use Prim.Native.Nat.{ℕ, zero, suc, ◌+◌, ◌*◌, ◌^◌, ◌≤◌, ◌<◌}
use mathlib.Core.Path.{◌≡◌, refl, sym, ap, ◌∙◌, subst}
use mathlib.Core.Bool.{Bool, true, false, cond}
use mathlib.Core.List.{List, [], ◌∷◌, ◌++◌}
use Rattle.std.specs.Prelude.{None, Some}
use native.Mathlib.Omega.{arith}
use native.Mathlib.Nat.{not-suc-le-zero, add-zero}
use native.Mathlib.Decide.{dec_lt}
use lib.ListN.{length, get_or, get_or-eq_default}
use borrow.Author.Tests.{eq-eqb, eqb-true}
use Rattle.sets.specs.Lists.{tabulate}
use Rattle.digits.specs.Digits.{hex}
use Rattle.digits.proofs.Digits.{hex-length}
use Rattle.digits.proofs.Stands.{Stands, front, back, both, one}
use Rattle.digits.proofs.Gives.{gives, gave}
use Rattle.lines.specs.Lines.{newline, joined}
use Rattle.lines.specs.Reading.{numbers_at, ends_at, line_at}
use Rattle.lines.proofs.Lengths.{joined_length}
use Rattle.lines.proofs.Numbers.{Read, numbers-at, numbers-read}
use Rattle.std.proofs.lemmas.Option.{none-some}

-- k numbers of c digits each take c * k bytes
digits : (k c : ℕ) (g : ℕ → ℕ) → length (joined k (λ i. hex c (g i))) ≡ c * k
digits k c g = joined_length k c (λ i. hex c (g i)) (λ i. hex-length c (g i))

kept : (t : Bool) (xs ys : List ℕ) → cond t (Some xs) None ≡ Some ys → (t ≡ true) × (xs ≡ ys)
kept true xs ys e = (refl, cc)
kept false xs ys e = absurd (none-some ys e)

-- byte 0a stands where a line ends
ended : (bytes : List ℕ) (at : ℕ) → ends_at bytes at ≡ true → Stands bytes at newline
unfolding ends_at newline
ended bytes at e = go (dec_lt at (length bytes))
  where
    ten : get_or bytes at 0 ≡ 10
    ten = eqb-true (get_or bytes at 0) 10 e

    go : Dec (at < length bytes) → Stands bytes at (10 ∷ [])
    go (yes l) = one bytes at 10 l ten
    go (no l) =
        let none-there : get_or bytes at 0 ≡ 0 = get_or-eq_default bytes 0 (omega arith) in
        absurd (let f : ⊥ = omega (arith, ten, none-there) in f)

pub ends : (bytes : List ℕ) (at : ℕ) → Stands bytes at newline → ends_at bytes at ≡ true
unfolding ends_at newline
ends bytes at s = eq-eqb (get_or bytes at 0) 10 (sym (ap (λ (j : ℕ). get_or bytes j 0) (add-zero at)) ∙ s.same 0 (omega arith))

-- of joined lists of c bytes each, every one stands c bytes behind the one before
pub each_stands : (bytes : List ℕ) (c n : ℕ) (f : ℕ → List ℕ) → ((k : ℕ) → length (f k) ≡ c) → (at : ℕ) → Stands bytes at (joined n f)
    → (k : ℕ) → k < n → Stands bytes (at + c * k) (f k)
unfolding joined
each_stands bytes c zero f h at s k l = absurd (not-suc-le-zero l)
each_stands bytes c (suc n) f h at s zero l =
    let e : at ≡ at + c * 0 = omega arith in
    subst (λ (j : ℕ). Stands bytes j (f 0)) e (front bytes at (f 0) (joined n (λ k. f (suc k))) s)
each_stands bytes c (suc n) f h at s (suc k) l =
    let e : at + length (f 0) + c * k ≡ at + c * suc k = omega (arith, h 0) in
    subst (λ (j : ℕ). Stands bytes j (f (suc k))) e
    (each_stands bytes c n (λ j. f (suc j)) (λ j. h (suc j)) (at + length (f 0)) (back bytes at (f 0) (joined n (λ j. f (suc j))) s) k (omega arith))

module _ (bytes : List ℕ) (k c at : ℕ) where
  pub line-at : (g : ℕ → ℕ) → ((i : ℕ) → i < k → g i < 16 ^ c) → Stands bytes at (joined k (λ i. hex c (g i)) ++ newline)
      → line_at k c bytes at ≡ Some (tabulate k g 0)
  unfolding line_at
  line-at g h s =
      let xs : List ℕ = tabulate k g 0 in
      let f = front bytes at (joined k (λ i. hex c (g i))) newline s in
      let b : Stands bytes (at + c * k) newline =
      subst (λ (j : ℕ). Stands bytes (at + j) newline) (digits k c g) (back bytes at (joined k (λ i. hex c (g i))) newline s) in
      gives (numbers_at k c bytes at) (λ ys. cond (ends_at bytes (at + c * k)) (Some ys) None) xs (numbers-at bytes k c at g h f)
      ∙ ap (λ (t : Bool). cond t (Some xs) None) (ends bytes (at + c * k) b)

  pub line_read : (xs : List ℕ) → at ≤ length bytes → line_at k c bytes at ≡ Some xs
      → Read bytes at k c xs × Stands bytes at (joined k (λ i. hex c (get_or xs i 0)) ++ newline)
  unfolding line_at
  line_read xs l e =
      let g = gave (numbers_at k c bytes at) (λ ys. cond (ends_at bytes (at + c * k)) (Some ys) None) xs e in
      let w = kept (ends_at bytes (at + c * k)) g.0 xs g.2 in
      let r : Read bytes at k c xs = subst (λ (zs : List ℕ). Read bytes at k c zs) w.1 (numbers-read bytes k c at g.0 l g.1) in (
        r,
        both bytes at (joined k (λ i. hex c (get_or xs i 0))) newline r.stands
            (subst (λ (j : ℕ). Stands bytes (at + j) newline) (sym (digits k c (λ i. get_or xs i 0))) (ended bytes (at + c * k) w.0)),
      )
