-- The digits of a number in two parts: those of its front and those of its rest. Assumes nothing.
use Prim.Native.Nat.{ℕ, zero, suc, ◌+◌, ◌*◌, ◌/◌, ◌%◌, ◌^◌, ◌<◌}
use mathlib.Core.Path.{◌≡◌, refl, sym, ap, ap₂, ◌∙◌}
use mathlib.Core.List.{List, [], ◌∷◌, ◌++◌, append_assoc, append-nil}
use native.Mathlib.Omega.{arith}
use native.Mathlib.Nat.{add-suc, add-zero, mul_assoc, div-one, div-div-eq-div-mul, div-add-mod, mod-lt, mod-eq_of_lt, add-mul-mod_self_left, one-le-pow, pow-succ'}
use Rattle.digits.specs.Digits.{digit, hex}

-- the last k digits go by the rest
low_parts : (x y : ℕ) → 0 < y → ((x % (16 * y)) / 16 ≡ (x / 16) % y) × ((x % (16 * y)) % 16 ≡ x % 16)
low_parts x y l =
    let q : ℕ = x / (16 * y) in
    let r : ℕ = x % (16 * y) in
    let z : ℕ = y * q in
    let e : 16 * y * q + r ≡ x = div-add-mod x (16 * y) in
    let a : 16 * y * q ≡ 16 * z = mul_assoc 16 y q in
    let s : r < 16 * y = mod-lt x (omega arith) in
    let f : x / 16 ≡ r / 16 + z = omega (arith, e, a) in
    (sym (ap (λ (k : ℕ). k % y) f ∙ add-mul-mod_self_left (r / 16) y q ∙ mod-eq_of_lt (omega (arith, s))), omega (arith, e, a))

hex-low : (k x : ℕ) → hex k (x % 16 ^ k) ≡ hex k x
unfolding hex
hex-low zero x = refl
hex-low (suc k) x =
    let p : 16 ^ suc k ≡ 16 * 16 ^ k = pow-succ' 16 k in
    let w = low_parts x (16 ^ k) (one-le-pow k 16 (omega arith)) in
    ap₂ (λ (a b : ℕ). hex k a ++ digit b ∷ []) (ap (λ (y : ℕ). (x % y) / 16) p ∙ w.0) (ap (λ (y : ℕ). (x % y) % 16) p ∙ w.1)
    ∙ ap (λ (xs : List ℕ). xs ++ digit (x % 16) ∷ []) (hex-low k (x / 16))

hex-both : (n k x : ℕ) → hex (n + k) x ≡ hex n (x / 16 ^ k) ++ hex k x
unfolding hex
hex-both n zero x = ap₂ hex (add-zero n) (sym (div-one x)) ∙ sym (append-nil (hex n (x / 1)))
hex-both n (suc k) x =
    let d : x / 16 / 16 ^ k ≡ x / 16 ^ suc k = div-div-eq-div-mul x 16 (16 ^ k) ∙ ap (λ (y : ℕ). x / y) (sym (pow-succ' 16 k)) in
    ap (λ (j : ℕ). hex j x) (add-suc n k)
    ∙ ap (λ (xs : List ℕ). xs ++ digit (x % 16) ∷ []) (hex-both n k (x / 16))
    ∙ append_assoc (hex n (x / 16 / 16 ^ k)) (hex k (x / 16)) (digit (x % 16) ∷ [])
    ∙ ap (λ (y : ℕ). hex n y ++ (hex k (x / 16) ++ digit (x % 16) ∷ [])) d

-- 16 digits, 8 at a time
pub hex-halves : (x : ℕ) → hex 8 (x / 4294967296) ++ hex 8 (x % 4294967296) ≡ hex 16 x
hex-halves x = ap (λ (xs : List ℕ). hex 8 (x / 4294967296) ++ xs) (hex-low 8 x) ∙ sym (hex-both 8 8 x)
