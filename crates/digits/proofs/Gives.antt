-- What stands in digits is what a reading gives, and the other way round. Assumes nothing.
use Prim.Native.Nat.{ℕ, ◌+◌, ◌-◌, ◌≤◌, ◌<◌}
use mathlib.Core.Path.{◌≡◌, refl, sym, ap, ◌∙◌, subst}
use mathlib.Core.List.{List, [], ◌∷◌}
use Rattle.std.specs.Prelude.{Option, None, Some, slice_get}
use native.Mathlib.Omega.{arith}
use native.Mathlib.Nat.{add-zero}
use native.Mathlib.Decide.{dec_lt}
use lib.ListN.{length, get_or}
use Rattle.digits.specs.Digits.{digit}
use Rattle.digits.specs.Reading.{◌>>=◌, digit_value, digit_at}
use Rattle.digits.proofs.Digits.{decimal, letter, below, between, above, digit_low, digit-high}
use Rattle.digits.proofs.Stands.{Stands, there, beyond, one}
use Rattle.std.proofs.lemmas.Option.{none-some}

-- ---- two readings, one after the other

pub gives : {A B : Type 0} (o : Option A) (f : A → Option B) (a : A) → o ≡ Some a → o >>= f ≡ f a
gives o f a e = ap (λ x. x >>= f) e

pub stops : {A B : Type 0} (o : Option A) (f : A → Option B) → o ≡ None → o >>= f ≡ None
stops o f e = ap (λ x. x >>= f) e

pub gave : {A B : Type 0} (o : Option A) (f : A → Option B) (b : B) → o >>= f ≡ Some b → (a : A) × (o ≡ Some a) × (f a ≡ Some b)
gave None f b e = absurd (none-some b e)
gave (Some a) f b e = (a, refl, e)

-- ---- a digit

pub worth : (d : ℕ) → d < 16 → digit_value (digit d) ≡ Some d
worth d h = go (dec_lt d 10)
  where
    go : Dec (d < 10) → digit_value (digit d) ≡ Some d
    go (yes l) =
        let e : 48 + d - 48 ≡ d = omega arith in
        ap digit_value (digit_low d l) ∙ decimal (48 + d) (omega arith) (omega arith) ∙ ap {B = Option ℕ} Some e
    go (no l) =
        let e : 87 + d - 87 ≡ d = omega arith in
        ap digit_value (digit-high d (omega arith)) ∙ letter (87 + d) (omega arith) (omega arith) ∙ ap {B = Option ℕ} Some e

-- no other byte is worth that
pub only : (b d : ℕ) → digit_value b ≡ Some d → (d < 16) × (b ≡ digit d)
only b d e = go (dec_lt b 48) (dec_lt 57 b) (dec_lt b 97) (dec_lt 102 b)
  where
    never : digit_value b ≡ None → (d < 16) × (b ≡ digit d)
    never n = absurd (none-some d (sym n ∙ e))

    low : 48 ≤ b → b ≤ 57 → (d < 16) × (b ≡ digit d)
    low l h =
        let f : b - 48 ≡ d = cc (decimal b l h, e) in
        let g : b ≡ 48 + d = omega arith in
        (omega arith, g ∙ sym (digit_low d (omega arith)))

    high : 97 ≤ b → b ≤ 102 → (d < 16) × (b ≡ digit d)
    high l h =
        let f : b - 87 ≡ d = cc (letter b l h, e) in
        let g : b ≡ 87 + d = omega arith in
        (omega arith, g ∙ sym (digit-high d (omega arith)))

    go : Dec (b < 48) → Dec (57 < b) → Dec (b < 97) → Dec (102 < b) → (d < 16) × (b ≡ digit d)
    go (yes l) q r s = never (below b l)
    go (no l) (no q) r s = low (omega arith) (omega arith)
    go (no l) (yes q) (yes r) s = never (between b q r)
    go (no l) (yes q) (no r) (yes s) = never (above b s)
    go (no l) (yes q) (no r) (no s) = high (omega arith) (omega arith)

module _ (bytes : List ℕ) where
  pub digit-at : (at d : ℕ) → d < 16 → Stands bytes at (digit d ∷ []) → digit_at bytes at ≡ Some d
  unfolding digit_at
  digit-at at d h s =
      let l : at < length bytes = omega (arith, s.fits) in
      let e : get_or bytes at 0 ≡ digit d = sym (ap (λ (j : ℕ). get_or bytes j 0) (add-zero at)) ∙ s.same 0 (omega arith) in
      gives (slice_get bytes at) digit_value (get_or bytes at 0) (there bytes at l) ∙ ap digit_value e ∙ worth d h

  -- a byte that is read is there
  pub byte-read : (at b : ℕ) → slice_get bytes at ≡ Some b → Stands bytes at (b ∷ [])
  byte-read at b e = go (dec_lt at (length bytes))
    where
      go : Dec (at < length bytes) → Stands bytes at (b ∷ [])
      go (yes l) = one bytes at b l (cc (there bytes at l, e))
      go (no l) = absurd (none-some b (sym (beyond bytes at (omega arith)) ∙ e))

  pub digit-read : (at d : ℕ) → digit_at bytes at ≡ Some d → (d < 16) × Stands bytes at (digit d ∷ [])
  unfolding digit_at
  digit-read at d e =
      let g = gave (slice_get bytes at) digit_value d e in
      let w = only g.0 d g.2 in
      (w.0, subst (λ (b : ℕ). Stands bytes at (b ∷ [])) w.1 (byte-read at g.0 g.1))
