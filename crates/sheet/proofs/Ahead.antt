-- What has been read stands ahead of what is left to read: numbers of a line, and lines of bids. Assumes nothing.
use Prim.Native.Nat.{ℕ, zero, suc, ◌+◌, ◌*◌, ◌-◌, ◌≤◌, ◌<◌}
use mathlib.Core.Path.{◌≡◌, refl, sym, ap, ◌∙◌}
use mathlib.Core.Bool.{Bool, true, false, cond}
use mathlib.Core.List.{List, [], ◌∷◌, ◌++◌, append_assoc, append-nil}
use Rattle.std.specs.Prelude.{Option, None, Some}
use native.Mathlib.Omega.{arith}
use native.Mathlib.Nat.{lt_irrefl}
use Rattle.digits.specs.Reading.{◌>>=◌, number_at}
use Rattle.lines.specs.Reading.{numbers_at, ends_at, line_at}
use Rattle.digits.proofs.Gives.{gives}
use Rattle.sheet.specs.Steps.{read_as}

-- xs, and then what a reading gives
abbrev pub ahead : List ℕ → Option (List ℕ) → Option (List ℕ)
ahead xs o = o >>= λ ys. Some (xs ++ ys)

pub ahead_none : (o : Option (List ℕ)) → o ≡ ahead [] o
ahead_none None = refl
ahead_none (Some ys) = refl

pub ahead-both : (xs ys : List ℕ) (o : Option (List ℕ)) → ahead xs (ahead ys o) ≡ ahead (xs ++ ys) o
ahead-both xs ys None = refl
ahead-both xs ys (Some zs) = ap {B = Option (List ℕ)} Some (sym (append_assoc xs ys zs))

-- ---- what was read, by the answer of the call that reads: no is none, and yes is some

pub said-no : (o : Option (List ℕ)) (t : Bool) (xs : List ℕ) → o ≡ read_as t xs → t ≡ false → o ≡ None
said-no o t xs e n = e ∙ ap (λ (b : Bool). read_as b xs) n

pub said-yes : (o : Option (List ℕ)) (t : Bool) (xs : List ℕ) → o ≡ read_as t xs → t ≡ true → o ≡ Some xs
said-yes o t xs e n = e ∙ ap (λ (b : Bool). read_as b xs) n

-- ---- the numbers of a line

module _ (bytes : List ℕ) where
  -- n − i numbers are left from a place on, and the first of them is none
  pub numbers-stop : (j here : ℕ) → 0 < j → number_at 4 bytes here ≡ None → numbers_at j 4 bytes here ≡ None
  unfolding numbers_at
  numbers-stop zero here l e = absurd (lt_irrefl 0 l)
  numbers-stop (suc j) here l e = ap (λ (o : Option ℕ). o >>= λ x. numbers_at j 4 bytes (here + 4) >>= λ xs. Some (x ∷ xs)) e

  -- or it is x
  first_of : (j here x : ℕ) → 0 < j → number_at 4 bytes here ≡ Some x → numbers_at j 4 bytes here ≡ ahead (x ∷ []) (numbers_at (j - 1) 4 bytes (here + 4))
  unfolding numbers_at
  first_of zero here x l e = absurd (lt_irrefl 0 l)
  first_of (suc j) here x l e =
      let f : suc j - 1 ≡ j = omega arith in
      rw f (gives (number_at 4 bytes here) (λ y. numbers_at j 4 bytes (here + 4) >>= λ xs. Some (y ∷ xs)) x e)

  pub numbers-step : (all : Option (List ℕ)) (xs : List ℕ) (n i here x : ℕ) → i < n → number_at 4 bytes here ≡ Some x
      → all ≡ ahead xs (numbers_at (n - i) 4 bytes here) → all ≡ ahead (xs ++ x ∷ []) (numbers_at (n - (i + 1)) 4 bytes (here + 4))
  numbers-step all xs n i here x l e h =
      let f : n - i - 1 ≡ n - (i + 1) = omega arith in
      h
      ∙ ap (ahead xs) (first_of (n - i) here x (omega arith) e)
      ∙ ahead-both xs (x ∷ []) (numbers_at (n - i - 1) 4 bytes (here + 4))
      ∙ ap (λ (j : ℕ). ahead (xs ++ x ∷ []) (numbers_at j 4 bytes (here + 4))) f

  -- none is left
  pub numbers-done : (all : Option (List ℕ)) (xs : List ℕ) (n i here : ℕ) → n ≤ i → all ≡ ahead xs (numbers_at (n - i) 4 bytes here) → all ≡ Some xs
  unfolding numbers_at
  numbers-done all xs n i here l h =
      let f : n - i ≡ 0 = omega arith in
      h ∙ ap (λ (j : ℕ). ahead xs (numbers_at j 4 bytes here)) f ∙ ap {B = Option (List ℕ)} Some (append-nil xs)

  -- a line whose numbers are none, and one whose numbers are there
  pub no_line : (n at : ℕ) → numbers_at n 4 bytes at ≡ None → line_at n 4 bytes at ≡ None
  unfolding line_at
  no_line n at e = ap (λ (o : Option (List ℕ)). o >>= λ xs. cond (ends_at bytes (at + 4 * n)) (Some xs) None) e

  pub line-by-end : (n at : ℕ) (xs : List ℕ) (t : Bool) → numbers_at n 4 bytes at ≡ Some xs → t ≡ ends_at bytes (at + 4 * n) → line_at n 4 bytes at ≡ read_as t xs
  unfolding line_at
  line-by-end n at xs t e f =
      gives (numbers_at n 4 bytes at) (λ ys. cond (ends_at bytes (at + 4 * n)) (Some ys) None) xs e ∙ ap (λ (b : Bool). cond b (Some xs) None) (sym f)
