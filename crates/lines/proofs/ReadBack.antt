-- The closing sheet determines its contents: reading its lines gives the rounds, the prices, the options and, in a sealed auction's, the gains that were written.
-- Assumes nothing.
use Prim.Native.Nat.{ℕ, zero, suc, ◌+◌, ◌*◌, ◌^◌, ◌<◌}
use mathlib.Core.Path.{◌≡◌, sym, ap, ◌∙◌, subst}
use mathlib.Core.List.{List, [], ◌∷◌, ◌++◌, append-nil}
use Rattle.std.specs.Prelude.{Option, Some}
use native.Mathlib.Omega.{arith}
use native.Mathlib.Nat.{not-suc-le-zero}
use lib.ListN.{length, get_or, length-append}
use Rattle.sets.specs.Lists.{tabulate, places}
use Rattle.digits.specs.Digits.{hex}
use Rattle.digits.specs.Reading.{◌>>=◌}
use Rattle.digits.proofs.Stands.{Stands, itself, front, back}
use Rattle.digits.proofs.Gives.{gives}
use Rattle.lines.specs.Lines.{newline, joined, amounts_line, closing_sheet, sealed_sheet, closing_length}
use Rattle.lines.specs.Reading.{Said, line_at, read_closing, read_sealed}
use Rattle.lines.proofs.Lengths.{rounds-length, line-length, by_lines, closing-length}
use Rattle.lines.proofs.Line.{line-at}

-- the first line is one of two numbers
two : (u d : ℕ) → hex 6 u ++ hex 6 d ++ newline ≡ joined 2 (λ i. hex 6 (get_or (u ∷ d ∷ []) i 0)) ++ newline
unfolding joined
two u d = ap (λ (r : List ℕ). hex 6 u ++ r ++ newline) (sym (append-nil (hex 6 d)))

both_small : (u d b : ℕ) → u < b → d < b → (i : ℕ) → i < 2 → get_or (u ∷ d ∷ []) i 0 < b
both_small u d b h l zero k = h
both_small u d b h l (suc zero) k = l
both_small u d b h l (suc (suc i)) k = absurd (not-suc-le-zero {n = i} (omega arith))

all_said : (a b c : Option (List ℕ)) (r p o : List ℕ) → a ≡ Some r → b ≡ Some p → c ≡ Some o
    → ◌≡◌ {A = Option Said} (a >>= λ r. b >>= λ p. c >>= λ o. Some (record { rounds = r; prices = p; options = o })) (Some (record { rounds = r; prices = p; options = o }))
all_said a b c r p o e f g = gives a _ r e ∙ gives b _ p f ∙ gives c _ o g

module _ (m n ups downs : ℕ) (prices options : List ℕ) (hu : ups < 16 ^ 6) (hd : downs < 16 ^ 6)
    (hp : (i : ℕ) → i < m → get_or prices i 0 < 16 ^ 4) (ho : (b : ℕ) → b < n → get_or options b 0 < 16 ^ 2) where
  abbrev three : List ℕ
  three = closing_sheet m n ups downs prices options

  abbrev says : Said
  says = record { rounds = ups ∷ downs ∷ []; prices = places m prices; options = places n options }

  -- in any bytes that begin with the three lines
  read-front : (bytes : List ℕ) → Stands bytes 0 (closing_sheet m n ups downs prices options)
      → read_closing m n bytes ≡ Some (record { rounds = ups ∷ downs ∷ []; prices = places m prices; options = places n options })
  unfolding read_closing places tabulate
  read-front bytes s =
      let first : List ℕ = hex 6 ups ++ hex 6 downs ++ newline in
      let second : List ℕ = joined m (λ k. hex 4 (get_or prices k 0)) ++ newline in
      let third : List ℕ = joined n (λ x. hex 2 (get_or options x 0)) ++ newline in
      let all : Stands bytes 0 (first ++ second ++ third) = subst (λ (vs : List ℕ). Stands bytes 0 vs) (by_lines m n ups downs prices options) s in
      let s₁ : Stands bytes 0 first = front bytes 0 first second (front bytes 0 (first ++ second) third all) in
      let e₂ : 0 + length first ≡ 13 = omega (arith, rounds-length ups downs) in
      let s₂ : Stands bytes 13 second = subst (λ (j : ℕ). Stands bytes j second) e₂ (back bytes 0 first second (front bytes 0 (first ++ second) third all)) in
      let e₃ : 0 + length (first ++ second) ≡ 14 + 4 * m =
      omega (arith, length-append first second, rounds-length ups downs, line-length m 4 prices) in
      let s₃ : Stands bytes (14 + 4 * m) third = subst (λ (j : ℕ). Stands bytes j third) e₃ (back bytes 0 (first ++ second) third all) in
      let l₁ : line_at 2 6 bytes 0 ≡ Some (ups ∷ downs ∷ []) =
      line-at bytes 2 6 0 (λ i. get_or (ups ∷ downs ∷ []) i 0) (both_small ups downs (16 ^ 6) hu hd)
      (subst (λ (vs : List ℕ). Stands bytes 0 vs) (two ups downs) s₁) in
      let l₂ : line_at m 4 bytes 13 ≡ Some (places m prices) = line-at bytes m 4 13 (λ k. get_or prices k 0) hp s₂ in
      let l₃ : line_at n 2 bytes (14 + 4 * m) ≡ Some (places n options) = line-at bytes n 2 (14 + 4 * m) (λ x. get_or options x 0) ho s₃ in
      all_said (line_at 2 6 bytes 0) (line_at m 4 bytes 13) (line_at n 2 bytes (14 + 4 * m)) (ups ∷ downs ∷ []) (places m prices) (places n options) l₁ l₂ l₃

  pub read_back : read_closing m n (closing_sheet m n ups downs prices options)
      ≡ Some (record { rounds = ups ∷ downs ∷ []; prices = places m prices; options = places n options })
  read_back = read-front three (itself three)

  -- and the four lines of a sealed auction say the gains too
  pub sealed_back : (gains : List ℕ) → ((b : ℕ) → b < n → get_or gains b 0 < 16 ^ 4)
      → read_sealed m n (sealed_sheet m n ups downs prices options gains)
      ≡ Some (record { said = record { rounds = ups ∷ downs ∷ []; prices = places m prices; options = places n options }; gains = places n gains })
  unfolding read_sealed sealed_sheet amounts_line closing_length places
  sealed_back gains hg =
      let fourth : List ℕ = joined n (λ b. hex 4 (get_or gains b 0)) ++ newline in
      let bytes : List ℕ = three ++ fourth in
      let e₄ : 0 + length three ≡ 15 + 4 * m + 2 * n = omega (arith, closing-length m n ups downs prices options) in
      let s₄ : Stands bytes (15 + 4 * m + 2 * n) fourth = subst (λ (j : ℕ). Stands bytes j fourth) e₄ (back bytes 0 three fourth (itself bytes)) in
      gives (read_closing m n bytes) _ says (read-front bytes (front bytes 0 three fourth (itself bytes)))
      ∙ gives (line_at n 4 bytes (15 + 4 * m + 2 * n)) _ (places n gains) (line-at bytes n 4 (15 + 4 * m + 2 * n) (λ b. get_or gains b 0) hg s₄)
