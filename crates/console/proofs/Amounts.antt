-- The amounts of a line, number after number. Assumes nothing.
use Prim.Native.Nat.{ℕ, zero, suc, ◌+◌, ◌*◌, ◌-◌, ◌/◌, ◌%◌, ◌≤◌, ◌<◌, min}
use mathlib.Core.Path.{◌≡◌, refl, sym, ap, ◌∙◌, subst}
use mathlib.Core.Bool.{Bool, true, false, cond, false≢true, true≢false}
use mathlib.Core.List.{List, [], ◌∷◌}
use Rattle.std.specs.Prelude.{Option, None, Some, unwrap_or, is_some}
use native.Mathlib.Omega.{arith}
use native.Mathlib.Nat.{not-suc-le-zero}
use lib.Dec.{eqb}
use lib.ListN.{length, get_or, get_or-eq_default}
use borrow.Author.Tests.{eq-eqb, ne_eqb, eqb-true}
use Rattle.digits.specs.Reading.{◌>>=◌, number_at}
use Rattle.lines.specs.Reading.{numbers_at}
use Rattle.digits.proofs.Gives.{gives, gave}
use Rattle.console.specs.Orders.{amounts_at, amounts_of}

-- what was read
read_some : {A : Type 0} (o : Option A) → is_some o ≡ true → (a : A) × (o ≡ Some a)
read_some None e = absurd (false≢true e)
read_some (Some a) e = (a, refl)

pub not-read : {A : Type 0} (o : Option A) → is_some o ≡ false → o ≡ None
not-read None e = refl
not-read (Some a) e = absurd (true≢false e)

module _ (bytes : List ℕ) where
  -- all numbers stand there
  pub all_there : (k at : ℕ) → ((i : ℕ) → i < k → is_some (number_at 4 bytes (at + 4 * i)) ≡ true) → is_some (numbers_at k 4 bytes at) ≡ true
  unfolding numbers_at
  all_there zero at h = refl
  all_there (suc k) at h =
      let one = read_some (number_at 4 bytes at) (subst (λ (j : ℕ). is_some (number_at 4 bytes j) ≡ true) (omega arith) (h 0 (omega arith))) in
      let more = read_some (numbers_at k 4 bytes (at + 4))
      (all_there k (at + 4) (λ i l. subst (λ (j : ℕ). is_some (number_at 4 bytes j) ≡ true) (omega arith) (h (suc i) (omega arith)))) in
      ap is_some
      (gives (number_at 4 bytes at) (λ x. numbers_at k 4 bytes (at + 4) >>= λ xs. Some (x ∷ xs)) one.0 one.1
      ∙ gives (numbers_at k 4 bytes (at + 4)) (λ xs. Some (one.0 ∷ xs)) more.0 more.1)

  -- each of the numbers that were read
  pub each-there : (k at : ℕ) (xs : List ℕ) → numbers_at k 4 bytes at ≡ Some xs
      → (length xs ≡ k) × ((i : ℕ) → i < k → number_at 4 bytes (at + 4 * i) ≡ Some (get_or xs i 0))
  unfolding numbers_at
  each-there zero at xs e = let none-left : [] ≡ xs = cc (e) in (sym (ap length none-left), λ i l. absurd (not-suc-le-zero l))
  each-there (suc k) at xs e = go (each-there k (at + 4)) xs g.0 h.0 g.1 h.1 all
    where
      g : (x : ℕ) × (number_at 4 bytes at ≡ Some x) × (numbers_at k 4 bytes (at + 4) >>= (λ ys. Some (x ∷ ys)) ≡ Some xs)
      g = gave (number_at 4 bytes at) (λ x. numbers_at k 4 bytes (at + 4) >>= λ ys. Some (x ∷ ys)) xs e

      h : (ys : List ℕ) × (numbers_at k 4 bytes (at + 4) ≡ Some ys) × (Some (g.0 ∷ ys) ≡ Some xs)
      h = gave (numbers_at k 4 bytes (at + 4)) (λ ys. Some (g.0 ∷ ys)) xs g.2

      all : g.0 ∷ h.0 ≡ xs
      all = cc (h.2)

      go : ((ys : List ℕ) → numbers_at k 4 bytes (at + 4) ≡ Some ys → (length ys ≡ k) × ((i : ℕ) → i < k → number_at 4 bytes (at + 4 + 4 * i) ≡ Some (get_or ys i 0)))
          → (zs : List ℕ) (x : ℕ) (ys : List ℕ) → number_at 4 bytes at ≡ Some x → numbers_at k 4 bytes (at + 4) ≡ Some ys → x ∷ ys ≡ zs
          → (length zs ≡ suc k) × ((i : ℕ) → i < suc k → number_at 4 bytes (at + 4 * i) ≡ Some (get_or zs i 0))
      go more zs x ys a b q =
          subst (λ (l : List ℕ). (length l ≡ suc k) × ((i : ℕ) → i < suc k → number_at 4 bytes (at + 4 * i) ≡ Some (get_or l i 0))) q
          (ap suc (more ys b).0, at_each)
        where
          at_each : (i : ℕ) → i < suc k → number_at 4 bytes (at + 4 * i) ≡ Some (get_or (x ∷ ys) i 0)
          at_each zero l = ap (number_at 4 bytes) (omega arith) ∙ a
          at_each (suc i) l = ap (number_at 4 bytes) (omega arith) ∙ (more ys b).1 i (omega arith)

  -- one that is not there
  pub one-gone : (k at i : ℕ) → i < k → is_some (number_at 4 bytes (at + 4 * i)) ≡ false → is_some (numbers_at k 4 bytes at) ≡ false
  one-gone k at i l e = go (numbers_at k 4 bytes at) refl
    where
      go : (o : Option (List ℕ)) → numbers_at k 4 bytes at ≡ o → is_some (numbers_at k 4 bytes at) ≡ false
      go None q = ap is_some q
      go (Some xs) q = absurd (true≢false (sym (ap is_some ((each-there k at xs q).1 i l)) ∙ e))

-- ---- of a line

module _ (line : List ℕ) where
  abbrev pub many : ℕ
  many = (length line - 5) / 4

  pub odd-amounts : ((length line - 5) % 4 ≡ 0 → ⊥) → false ≡ is_some (amounts_at line)
  unfolding amounts_at
  odd-amounts ne = sym (ap (λ (b : Bool). is_some (cond b (numbers_at many 4 line 5) None)) (ne_eqb ((length line - 5) % 4) 0 ne))

  amounts_are : (length line - 5) % 4 ≡ 0 → amounts_at line ≡ numbers_at many 4 line 5
  unfolding amounts_at
  amounts_are e = ap (λ (b : Bool). cond b (numbers_at many 4 line 5) None) (eq-eqb ((length line - 5) % 4) 0 e)

  pub amounts-gone : (length line - 5) % 4 ≡ 0 → (i : ℕ) → i < many → is_some (number_at 4 line (5 + 4 * i)) ≡ false → false ≡ is_some (amounts_at line)
  amounts-gone e i l h = sym (ap is_some (amounts_are e) ∙ one-gone line many 5 i l h)

  pub amounts-read : (length line - 5) % 4 ≡ 0 → (k : ℕ) → k ≡ many → ((i : ℕ) → i < k → is_some (number_at 4 line (5 + 4 * i)) ≡ true) → true ≡ is_some (amounts_at line)
  amounts-read e k q h = sym (ap is_some (amounts_are e) ∙ all_there line many 5 (λ i l. h i (subst (λ (n : ℕ). i < n) (sym q) l)))

  -- the amounts of a line in which they were read
  even : is_some (amounts_at line) ≡ true → (length line - 5) % 4 ≡ 0
  unfolding amounts_at
  even e = go (eqb ((length line - 5) % 4) 0) refl e
    where
      go : (b : Bool) → eqb ((length line - 5) % 4) 0 ≡ b → is_some (cond b (numbers_at many 4 line 5) None) ≡ true → (length line - 5) % 4 ≡ 0
      go true q h = eqb-true ((length line - 5) % 4) 0 q
      go false q h = absurd (false≢true h)

  pub all-amounts : is_some (amounts_at line) ≡ true → (length (amounts_of line) ≡ many) × ((i : ℕ) → i < many → number_at 4 line (5 + 4 * i) ≡ Some (get_or (amounts_of line) i 0))
  unfolding amounts_of
  all-amounts e =
      let s = read_some (amounts_at line) e in
      let same : unwrap_or (amounts_at line) [] ≡ s.0 = ap (λ (o : Option (List ℕ)). unwrap_or o []) s.1 in
      let r = each-there line many 5 s.0 (sym (amounts_are (even e)) ∙ s.1) in
      (ap length same ∙ r.0, λ i l. r.1 i l ∙ ap (λ (xs : List ℕ). Some (get_or xs i 0)) (sym same))

  pub past-amounts : is_some (amounts_at line) ≡ true → (i : ℕ) → many ≤ i → 0 ≡ get_or (amounts_of line) i 0
  past-amounts e i l = sym (get_or-eq_default (amounts_of line) 0 {n = i} (omega (arith, (all-amounts e).0)))

  -- how many are read into 65 places
  pub read_count : is_some (amounts_at line) ≡ true → (rest k : ℕ) → rest ≡ length line - 5 → k ≡ min (rest / 4) 65 → k ≡ min (length (amounts_of line)) 65
  read_count e rest k r q = q ∙ ap (λ (n : ℕ). min (n / 4) 65) r ∙ ap (λ (n : ℕ). min n 65) (sym (all-amounts e).0)
