-- The digits by the ASCII table are the digits by the rule, at each of the 256 bytes: document 02, #105. Assumes nothing.
use Prim.Native.Nat.{ℕ, ◌+◌, ◌-◌, ◌≤◌, ◌<◌}
use mathlib.Core.Path.{◌≡◌, refl, sym, ap, ◌∙◌}
use mathlib.Core.Bool.{Bool, false, cond}
use mathlib.Core.List.{List, [], ◌∷◌}
use mathlib.Core.Logic.{inl, inr, ⊎_elim}
use Rattle.std.specs.Prelude.{Option, None, Some}
use native.Mathlib.Omega.{arith}
use native.Mathlib.Nat.{zero-add}
use native.Mathlib.Decide.{dec_lt}
use lib.Dec.{eqb}
use lib.ListN.{get_or}
use borrow.Author.Tests.{ne_eqb}
use Rattle.sets.specs.Lists.{tabulate}
use Rattle.sets.proofs.Lists.{tabulate-at}
use Rattle.digits.specs.Reading.{digit_value}
use Rattle.digits.specs.Table.{beside, by_table, AsciiDigits}
use Rattle.digits.proofs.Digits.{decimal, letter, below, between, above}

-- the values of all 256 bytes, by the table and by the rule, computed: the same list
whole-table : tabulate 256 by_table 0 ≡ tabulate 256 digit_value 0
unfolding tabulate beside by_table digit_value
whole-table = refl

-- two lists of 256 values that are the same have the same value at each byte
pub digit-table : (b : ℕ) → b < 256 → by_table b ≡ digit_value b
digit-table b l = sym (at by_table) ∙ ap (λ (values : List (Option ℕ)). get_or values b None) whole-table ∙ at digit_value
  where
    at : (value : ℕ → Option ℕ) → get_or (tabulate 256 value 0) b None ≡ value b
    at value = tabulate-at 256 value 0 b None l ∙ ap value (zero-add b)

-- so the table shows what document 02 says of the bytes
pub ascii-digits : AsciiDigits by_table
ascii-digits = record {
  numerals = λ d l.
      let e : 48 + d - 48 ≡ d = omega arith in
      digit-table (48 + d) (omega arith) ∙ decimal (48 + d) (omega arith) (omega arith) ∙ ap {B = Option ℕ} Some e;
  letters = λ d l.
      let e : 97 + d - 87 ≡ 10 + d = omega arith in
      digit-table (97 + d) (omega arith) ∙ letter (97 + d) (omega arith) (omega arith) ∙ ap {B = Option ℕ} Some e;
  no_other = λ b l h.
      digit-table b (omega (arith, l)) ∙ ⊎_elim (λ k. below b (omega (arith, k))) (⊎_elim (λ k. between b (omega (arith, k.0)) (omega (arith, k.1))) (λ k. above b (omega (arith, k)))) h;
}

-- and leaves no byte open: whatever shows that gives the same values
pub ascii-only : (value : ℕ → Option ℕ) → AsciiDigits value → (b : ℕ) → b < 256 → value b ≡ digit_value b
ascii-only value shows b l = go (dec_lt b 48) (dec_lt 57 b) (dec_lt b 97) (dec_lt 102 b)
  where
    numeral : 48 ≤ b → b ≤ 57 → value b ≡ digit_value b
    numeral lo hi =
        let e : b ≡ 48 + (b - 48) = omega arith in
        ap value e ∙ shows.numerals (b - 48) (omega arith) ∙ sym (decimal b lo hi)

    small-letter : 97 ≤ b → b ≤ 102 → value b ≡ digit_value b
    small-letter lo hi =
        let e : b ≡ 97 + (b - 97) = omega arith in
        let f : 10 + (b - 97) ≡ b - 87 = omega arith in
        ap value e ∙ shows.letters (b - 97) (omega arith) ∙ ap {B = Option ℕ} Some f ∙ sym (letter b lo hi)

    go : Dec (b < 48) → Dec (57 < b) → Dec (b < 97) → Dec (102 < b) → value b ≡ digit_value b
    go (yes p) q r s = shows.no_other b (omega arith) (inl (omega (arith, p))) ∙ sym (below b p)
    go (no p) (no q) r s = numeral (omega arith) (omega arith)
    go (no p) (yes q) (yes r) s = shows.no_other b (omega arith) (inr (inl (omega (arith, q), omega (arith, r)))) ∙ sym (between b q r)
    go (no p) (yes q) (no r) (no s) = small-letter (omega arith) (omega arith)
    go (no p) (yes q) (no r) (yes s) = shows.no_other b (omega arith) (inr (inr (omega (arith, s)))) ∙ sym (above b s)

-- ---- a byte that is in no row

module _ (b : ℕ) where
  -- what a `match` with a case for each row leaves to its rest, where P is what came before: a fact for each case, the last one's outermost
  abbrev pub Rest : Type 0 → List (ℕ × ℕ) → Type 0
  Rest P [] = P
  Rest P (row ∷ rows) = Rest (P × (b ≡ row.0 → ⊥)) rows

  pub in-no-row : (P : Type 0) (rows : List (ℕ × ℕ)) → Rest P rows → P × (beside rows b ≡ None)
  unfolding beside
  in-no-row P [] h = (h, refl)
  in-no-row P (row ∷ rows) h =
      let k = in-no-row (P × (b ≡ row.0 → ⊥)) rows h in
      let e : eqb b row.0 ≡ false = ne_eqb b row.0 k.0.1 in
      (k.0.0, ap (λ (t : Bool). cond t (Some row.1) (beside rows b)) e ∙ k.1)
