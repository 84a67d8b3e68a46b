-- A number: what stands in digits is what reading gives, and the other way round. Assumes nothing.
use Prim.Native.Nat.{ℕ, zero, suc, ◌+◌, ◌*◌, ◌/◌, ◌%◌, ◌^◌, ◌≤◌, ◌<◌}
use mathlib.Core.Path.{◌≡◌, sym, ap, ◌∙◌, subst}
use mathlib.Core.List.{List, [], ◌∷◌}
use Rattle.std.specs.Prelude.{Option, Some}
use native.Mathlib.Omega.{arith}
use native.Mathlib.Nat.{pow-succ'}
use lib.ListN.{length}
use Rattle.digits.specs.Digits.{digit, hex}
use Rattle.digits.specs.Reading.{◌>>=◌, digit_at, number_at}
use Rattle.digits.proofs.Digits.{hex-length}
use Rattle.digits.proofs.Stands.{Stands, front, back, both, nothing}
use Rattle.digits.proofs.Gives.{gives, gave, digit-at, digit-read}

module _ (bytes : List ℕ) where
  pub number-at : (n at x : ℕ) → x < 16 ^ n → Stands bytes at (hex n x) → number_at n bytes at ≡ Some x
  unfolding number_at hex
  number-at zero at x h s = let e : 0 ≡ x = omega arith in ap {B = Option ℕ} Some e
  number-at (suc n) at x h s =
      let l : x / 16 < 16 ^ n = omega (arith, pow-succ' 16 n) in
      let f = front bytes at (hex n (x / 16)) (digit (x % 16) ∷ []) s in
      let b = subst (λ (j : ℕ). Stands bytes (at + j) (digit (x % 16) ∷ [])) (hex-length n (x / 16)) (back bytes at (hex n (x / 16)) (digit (x % 16) ∷ []) s) in
      let e : 16 * (x / 16) + x % 16 ≡ x = omega arith in
      gives (number_at n bytes at) (λ y. digit_at bytes (at + n) >>= λ d. Some (16 * y + d)) (x / 16) (number-at n at (x / 16) l f)
      ∙ gives (digit_at bytes (at + n)) (λ d. Some (16 * (x / 16) + d)) (x % 16) (digit-at bytes (at + n) (x % 16) (omega arith) b)
      ∙ ap {B = Option ℕ} Some e

  pub number_read : (n at x : ℕ) → at ≤ length bytes → number_at n bytes at ≡ Some x → (x < 16 ^ n) × Stands bytes at (hex n x)
  unfolding number_at hex
  number_read zero at x l e =
      let z : 0 ≡ x = cc (e) in
      (omega arith, nothing bytes at l)
  number_read (suc n) at x l e =
      let g = gave (number_at n bytes at) (λ y. digit_at bytes (at + n) >>= λ d. Some (16 * y + d)) x e in
      let y : ℕ = g.0 in
      let h = gave (digit_at bytes (at + n)) (λ d. Some (16 * y + d)) x g.2 in
      let d : ℕ = h.0 in
      let v : 16 * y + d ≡ x = cc (h.2) in
      let r = number_read n at y l g.1 in
      let w = digit-read bytes (at + n) d h.1 in
      let small : d < 16 = w.0 in
      let less : y < 16 ^ n = r.0 in
      let p : y ≡ x / 16 = omega arith in
      let q : d ≡ x % 16 = omega arith in
      let s = subst (λ (z : ℕ). Stands bytes at (hex n z)) p r.1 in
      let t = subst (λ (z : ℕ). Stands bytes (at + n) (digit z ∷ [])) q w.1 in (
        omega (arith, pow-succ' 16 n),
        both bytes at (hex n (x / 16)) (digit (x % 16) ∷ []) s
            (subst (λ (j : ℕ). Stands bytes (at + j) (digit (x % 16) ∷ [])) (sym (hex-length n (x / 16))) t),
      )
