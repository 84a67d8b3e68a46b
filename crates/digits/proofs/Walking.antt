-- Reading digit after digit: one more, and what is left. Assumes nothing.
use Prim.Native.Nat.{ℕ, zero, suc, ◌+◌, ◌*◌, ◌^◌, ◌≤◌, ◌<◌}
use mathlib.Core.Path.{◌≡◌, refl, sym, ap, ◌∙◌}
use mathlib.Core.Bool.{Bool, cond}
use mathlib.Core.List.{List}
use Rattle.std.specs.Prelude.{Option, None, Some, unwrap_or, slice_get}
use native.Mathlib.Omega.{arith}
use native.Mathlib.Nat.{not-suc-le-zero, pow-le-pow_right}
use native.Mathlib.Numerals.{add-one}
use native.Mathlib.Decide.{ℕ_discrete}
use lib.ListN.{length, get_or}
use borrow.Author.Tests.{le-leb, lt-leb}
use Rattle.digits.specs.Reading.{◌>>=◌, digit_value, digit_at, number_at, number_in}
use Rattle.digits.proofs.Stands.{there, beyond}
use Rattle.digits.proofs.Gives.{gives, digit-read}

-- ---- a digit

pub digit-there : (bytes : List ℕ) (at : ℕ) → at < length bytes → digit_at bytes at ≡ digit_value (get_or bytes at 0)
unfolding digit_at
digit-there bytes at l = gives (slice_get bytes at) digit_value (get_or bytes at 0) (there bytes at l)

pub digit-beyond : (bytes : List ℕ) (at : ℕ) → length bytes ≤ at → digit_at bytes at ≡ None
unfolding digit_at
digit-beyond bytes at l = ap (λ o. o >>= digit_value) (beyond bytes at l)

pub is_digit : (o : Option ℕ) (d : ℕ) → d ≡ unwrap_or o 16 → d ≤ 15 → o ≡ Some d
is_digit None d e l = absurd (let f : ⊥ = omega (arith, e, l) in f)
is_digit (Some x) d e l = ap {B = Option ℕ} Some (sym e)

pub no_digit : (bytes : List ℕ) (at d : ℕ) → d ≡ unwrap_or (digit_at bytes at) 16 → 15 < d → digit_at bytes at ≡ None
no_digit bytes at d e l = go (digit_at bytes at) refl
  where
    go : (o : Option ℕ) → digit_at bytes at ≡ o → digit_at bytes at ≡ None
    go None f = f
    go (Some x) f =
        let same : d ≡ x = e ∙ ap (λ (o : Option ℕ). unwrap_or o 16) f in
        absurd (let g : ⊥ = omega (arith, same, (digit-read bytes at x f).0) in g)

-- ---- a number

module _ (bytes : List ℕ) (at : ℕ) where
  pub number-none : number_at 0 bytes at ≡ Some 0
  unfolding number_at
  number-none = refl

  -- one more digit
  pub number_more : (k x d : ℕ) → number_at k bytes at ≡ Some x → digit_at bytes (at + k) ≡ Some d → number_at (k + 1) bytes at ≡ Some (16 * x + d)
  unfolding number_at
  number_more k x d e f =
      ap (λ (j : ℕ). number_at j bytes at) (add-one k)
      ∙ gives (number_at k bytes at) (λ y. digit_at bytes (at + k) >>= λ z. Some (16 * y + z)) x e
      ∙ gives (digit_at bytes (at + k)) (λ z. Some (16 * x + z)) d f

  -- a place that is no digit
  last : (o : Option ℕ) → (o >>= λ y. None >>= λ z. Some (16 * y + z)) ≡ None
  last None = refl
  last (Some y) = refl

  stops : (n k : ℕ) → digit_at bytes (at + k) ≡ None → (k < n → number_at n bytes at ≡ None) → k < suc n → Dec (k ≡ n) → number_at (suc n) bytes at ≡ None
  unfolding number_at
  stops n k e before l (yes q) =
      ap (λ (o : Option ℕ). number_at n bytes at >>= λ y. o >>= λ z. Some (16 * y + z)) (sym (ap (λ (j : ℕ). digit_at bytes (at + j)) q) ∙ e)
      ∙ last (number_at n bytes at)
  stops n k e before l (no q) = ap (λ (o : Option ℕ). o >>= λ y. digit_at bytes (at + n) >>= λ z. Some (16 * y + z)) (before (omega arith))

  pub number-stops : (n k : ℕ) → k < n → digit_at bytes (at + k) ≡ None → number_at n bytes at ≡ None
  number-stops zero k l e = absurd (not-suc-le-zero l)
  number-stops (suc n) k l e = stops n k e (λ h. number-stops n k h e) l (ℕ_discrete k n)

  -- ---- at most 8 digits

  pub many-digits : (n : ℕ) → 8 < n → number_in n bytes at ≡ None
  unfolding number_in
  many-digits n l = ap (λ (b : Bool). cond b (number_at n bytes at) None) (lt-leb n 8 l)

  pub few-digits : (n : ℕ) → n ≤ 8 → number_in n bytes at ≡ number_at n bytes at
  unfolding number_in
  few-digits n l = ap (λ (b : Bool). cond b (number_at n bytes at) None) (le-leb n 8 l)

-- a number in k digits is below 16 ^ k
pub one-more-digit : (k x d : ℕ) → x < 16 ^ k → d < 16 → 16 * x + d < 16 ^ (k + 1)
one-more-digit k x d l h = let e : 16 ^ (k + 1) ≡ 16 * 16 ^ k = simp add-one (omega arith) in omega arith

pub within-digits : (k n x : ℕ) → k ≤ n → x < 16 ^ k → x < 16 ^ n
within-digits k n x l h = omega (arith, h, pow-le-pow_right {n = 16} (omega arith) l)

-- what the code read of at most 8 digits
pub was-read : (n at : ℕ) (bytes : List ℕ) (o p : Option ℕ) → n ≤ 8 → o ≡ number_in n bytes at → o ≡ p → number_at n bytes at ≡ p
was-read n at bytes o p l e q = sym (few-digits bytes at n l) ∙ (sym e ∙ q)
