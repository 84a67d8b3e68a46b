-- The numbers of a line: what stands in a sheet is what reading it gives, and the other way round. Assumes nothing.
use Prim.Native.Nat.{ℕ, zero, suc, ◌+◌, ◌^◌, ◌≤◌, ◌<◌}
use mathlib.Core.Path.{◌≡◌, refl, sym, ap, ◌∙◌, subst}
use mathlib.Core.List.{List, [], ◌∷◌}
use Rattle.std.specs.Prelude.{Option, Some}
use native.Mathlib.Omega.{arith}
use native.Mathlib.Nat.{not-suc-le-zero}
use lib.ListN.{length, get_or}
use Rattle.sets.specs.Lists.{tabulate}
use Rattle.sets.proofs.Lists.{tabulate-shift}
use Rattle.digits.specs.Digits.{hex}
use Rattle.digits.specs.Reading.{◌>>=◌, number_at}
use Rattle.digits.proofs.Digits.{hex-length}
use Rattle.digits.proofs.Stands.{Stands, front, back, both, nothing}
use Rattle.digits.proofs.Gives.{gives, gave}
use Rattle.digits.proofs.Numbers.{number-at, number_read}
use Rattle.lines.specs.Lines.{joined}
use Rattle.lines.specs.Reading.{numbers_at}

-- the numbers xs were read: so many, in so many digits each
pub record Read (bytes : List ℕ) (at k c : ℕ) (xs : List ℕ) : Type 0 where
  pub many : length xs ≡ k
  pub small : (i : ℕ) → i < k → get_or xs i 0 < 16 ^ c
  pub stands : Stands bytes at (joined k (λ i. hex c (get_or xs i 0)))

module _ (bytes : List ℕ) where
  pub numbers-at : (k c at : ℕ) (g : ℕ → ℕ) → ((i : ℕ) → i < k → g i < 16 ^ c) → Stands bytes at (joined k (λ i. hex c (g i)))
      → numbers_at k c bytes at ≡ Some (tabulate k g 0)
  unfolding numbers_at joined tabulate
  numbers-at zero c at g h s = refl
  numbers-at (suc k) c at g h s =
      let rest : List ℕ = joined k (λ i. hex c (g (suc i))) in
      let f = front bytes at (hex c (g 0)) rest s in
      let b = subst (λ (j : ℕ). Stands bytes (at + j) rest) (hex-length c (g 0)) (back bytes at (hex c (g 0)) rest s) in
      let more : numbers_at k c bytes (at + c) ≡ Some (tabulate k (λ i. g (suc i)) 0) =
      numbers-at k c (at + c) (λ i. g (suc i)) (λ i l. h (suc i) (omega arith)) b in
      gives (number_at c bytes at) (λ x. numbers_at k c bytes (at + c) >>= λ xs. Some (x ∷ xs)) (g 0) (number-at bytes c at (g 0) (h 0 (omega arith)) f)
      ∙ gives (numbers_at k c bytes (at + c)) (λ xs. Some (g 0 ∷ xs)) (tabulate k (λ i. g (suc i)) 0) more
      ∙ ap {B = Option (List ℕ)} (λ r. Some (g 0 ∷ r)) (tabulate-shift k g 0)

  pub numbers-read : (k c at : ℕ) (xs : List ℕ) → at ≤ length bytes → numbers_at k c bytes at ≡ Some xs → Read bytes at k c xs
  unfolding numbers_at joined
  numbers-read zero c at xs l e =
      let z : [] ≡ xs = cc (e) in
      record { many = sym (ap length z); small = λ i h. absurd (not-suc-le-zero h); stands = nothing bytes at l }
  numbers-read (suc k) c at xs l e =
      let g = gave (number_at c bytes at) (λ x. numbers_at k c bytes (at + c) >>= λ ys. Some (x ∷ ys)) xs e in
      let x : ℕ = g.0 in
      let h = gave (numbers_at k c bytes (at + c)) (λ ys. Some (x ∷ ys)) xs g.2 in
      let ys : List ℕ = h.0 in
      let r = number_read bytes c at x l g.1 in
      let next : at + c ≤ length bytes = omega (arith, r.1.fits, hex-length c x) in
      let w : Read bytes (at + c) k c ys = numbers-read k c (at + c) ys next h.1 in
      let s : Stands bytes (at + length (hex c x)) (joined k (λ i. hex c (get_or ys i 0))) =
      subst (λ (j : ℕ). Stands bytes (at + j) (joined k (λ i. hex c (get_or ys i 0)))) (sym (hex-length c x)) w.stands in
      subst (λ (zs : List ℕ). Read bytes at (suc k) c zs) (let same : x ∷ ys ≡ xs = cc (h.2) in same)
      (record {
        many = ap suc w.many;
        small = elim [ zero ↦ λ _. r.0 | suc i ↦ λ m. w.small i (omega arith) ];
        stands = both bytes at (hex c x) (joined k (λ i. hex c (get_or ys i 0))) r.1 s;
      })
