-- What the operations of machine words do to sets: `>>`, `<<`, `|`, `&`, `& !`, and the trailing zeros. At every width w. Assumes nothing.
use Prim.Native.Nat.{ℕ, zero, suc, ◌+◌, ◌-◌, ◌*◌, ◌/◌, ◌%◌, ◌^◌, ◌<◌, ◌≤◌}
use mathlib.Core.Path.{◌≡◌, refl, sym, ap, ◌∙◌}
use mathlib.Core.Bool.{Bool, true, ◌&&◌, ◌||◌, not}
use mathlib.Core.Logic.{◌⊎◌, inl, inr}
use native.Mathlib.Omega.{arith}
use native.Mathlib.Decide.{ℕ_discrete}
use native.Mathlib.Numerals.{add-one}
use lib.Bits.{bit_and, bit_or, or_lt, and_lt}
use lib.Count.{count_trailing_zeros}
use lib.Dec.{leb, eqb}
use lib.Pow.{pow-lt, pow_pos}
use borrow.Author.Tests.{le-leb, lt-leb, eq-eqb, ne_eqb}
use Rattle.sets.specs.Bit.{bit, is_set, has, set_of, lowest}
use Rattle.sets.proofs.Bits.{bit-one, bit-other, shl_one, shr_and_one}
use Rattle.sets.proofs.Counting.{lt-or-le}
use Rattle.sets.proofs.Members.{is_set-and, is_set-or, is_set-less, is_set-empty, is_set-above, is_set-full, is_set-small, is_set-set_of, set_of-lt, set_of-cong, is-set_of}
use Rattle.sets.proofs.Lowest.{trailing, lowest-unique}

-- ---- a number in a set

-- `(s >> (i - 1)) & 1 == 1`
pub word-has : (s i : ℕ) → (i ≡ 0 → ⊥) → eqb (bit_and (s / 2 ^ (i - 1)) 1) 1 ≡ has s i
unfolding has is_set
word-has s zero n = absurd (n refl)
word-has s (suc k) n = let e : suc k - 1 ≡ k = omega arith in rw e (ap (λ (x : ℕ). eqb x 1) (shr_and_one s k))

-- ---- one number

-- the set of number i alone; a number out of range makes none
abbrev pub only : ℕ → ℕ → ℕ
only w i = set_of w (λ k. eqb k i)

-- `1 << (i - 1)`
pub word-only : (w i : ℕ) → (i ≡ 0 → ⊥) → i ≤ w → (1 * 2 ^ (i - 1)) % 2 ^ w ≡ only w i
unfolding is_set
word-only w zero n l = absurd (n refl)
word-only w (suc i) n l =
    let e : suc i - 1 ≡ i = omega arith in
    rw (e, shl_one w i) (is-set_of w (2 ^ i) (λ k. eqb k (suc i)) (pow-lt l) (λ k lk. go k (ℕ_discrete k i)))
  where
    go : (k : ℕ) → Dec (k ≡ i) → is_set (2 ^ i) k ≡ eqb (suc k) (suc i)
    go k (yes e) = eq-eqb (bit (2 ^ i) k) 1 (ap (bit (2 ^ i)) e ∙ bit-one i) ∙ sym (eq-eqb (suc k) (suc i) (ap suc e))
    go k (no ne) = ap (λ (x : ℕ). eqb x 1) (bit-other i k ne) ∙ sym (ne_eqb (suc k) (suc i) (λ e. ne (omega arith)))

pub word-nobody : (w i : ℕ) → ((k : ℕ) → k < w → suc k ≡ i → ⊥) → 0 ≡ only w i
word-nobody w i h = is-set_of w 0 (λ k. eqb k i) (pow_pos w) (λ k lk. is_set-empty k ∙ sym (ne_eqb (suc k) i (h k lk)))

-- ---- the first numbers

-- `1 << n` is not 0
pub word-one : (w n : ℕ) → n < w → 1 ≤ (1 * 2 ^ n) % 2 ^ w
word-one w n l = omega (arith, shl_one w n l, pow_pos n)

-- `(1 << n) - 1`
pub word_first : (w n : ℕ) → n < w → (1 * 2 ^ n) % 2 ^ w - 1 ≡ set_of w (λ k. leb k n)
word_first w n l =
    ap (λ (x : ℕ). x - 1) (shl_one w n l)
    ∙ is-set_of w (2 ^ n - 1) (λ k. leb k n) (omega (arith, pow-lt l)) (λ k lk. go k (lt-or-le k n))
  where
    go : (k : ℕ) → (k < n) ⊎ (n ≤ k) → is_set (2 ^ n - 1) k ≡ leb (suc k) n
    go k (inl q) = is_set-full n k q ∙ sym (le-leb (suc k) n q)
    go k (inr q) = is_set-above n (2 ^ n - 1) k (omega (arith, pow_pos n)) q ∙ sym (lt-leb (suc k) n (omega arith))

-- all of them
pub word-all : (w n : ℕ) → w ≤ n → 2 ^ w - 1 ≡ set_of w (λ k. leb k n)
word-all w n l =
    is-set_of w (2 ^ w - 1) (λ k. leb k n) (omega (arith, pow_pos w)) (λ k lk. is_set-full w k lk ∙ sym (le-leb (suc k) n (omega arith)))

-- where there are no more than w, they are all of them
pub first-all : (w n : ℕ) → n ≤ w → set_of w (λ k. leb k n) ≡ set_of n (λ k. true)
first-all w n l =
    is-set_of n (set_of w (λ k. leb k n)) (λ k. true)
    (is_set-small w n (set_of w (λ k. leb k n)) l (set_of-lt w (λ k. leb k n)) (λ k h lk. is_set-set_of w (λ k. leb k n) k lk ∙ lt-leb (suc k) n (omega arith)))
    (λ k lk. is_set-set_of w (λ k. leb k n) k (omega arith) ∙ le-leb (suc k) n lk)

-- ---- two sets

-- `s & t`
pub word_and : (w s t : ℕ) → s < 2 ^ w → t < 2 ^ w → bit_and s t ≡ set_of w (λ k. has s k && has t k)
unfolding has
word_and w s t hs ht = is-set_of w (bit_and s t) (λ k. has s k && has t k) (and_lt w s t hs ht) (λ k lk. is_set-and s t k)

-- `s & !t`
pub word-less : (w s t : ℕ) → s < 2 ^ w → t < 2 ^ w → bit_and s ((2 ^ w - 1) - t) ≡ set_of w (λ k. has s k && not (has t k))
unfolding has
word-less w s t hs ht =
    is-set_of w (bit_and s ((2 ^ w - 1) - t)) (λ k. has s k && not (has t k)) (and_lt w s ((2 ^ w - 1) - t) hs (omega arith))
    (λ k lk. is_set-less w s t k hs ht)

-- `s | only`
pub word-with : (w s i : ℕ) → s < 2 ^ w → bit_or s (only w i) ≡ set_of w (λ k. has s k || eqb k i)
unfolding has
word-with w s i h =
    is-set_of w (bit_or s (only w i)) (λ k. has s k || eqb k i) (or_lt w s (only w i) h (set_of-lt w (λ k. eqb k i)))
    (λ k lk. is_set-or s (only w i) k ∙ ap (λ (b : Bool). is_set s k || b) (is_set-set_of w (λ k. eqb k i) k lk))

-- `s & !only`
pub word-without : (w s i : ℕ) → s < 2 ^ w → bit_and s ((2 ^ w - 1) - only w i) ≡ set_of w (λ k. has s k && not (eqb k i))
unfolding has
word-without w s i h =
    word-less w s (only w i) h (set_of-lt w (λ k. eqb k i))
    ∙ set_of-cong w (λ k. has s k && not (has (only w i) k)) (λ k. has s k && not (eqb k i))
    (λ k lk. ap (λ (b : Bool). is_set s k && not b) (is_set-set_of w (λ k. eqb k i) k lk))

-- ---- the lowest

-- the trailing zeros, and one more
pub word-lowest : (w s : ℕ) → (s ≡ 0 → ⊥) → s < 2 ^ w → count_trailing_zeros w s + 1 ≡ lowest w (has s)
word-lowest w s ne h = add-one (count_trailing_zeros w s) ∙ lowest-unique w (has s) (suc (count_trailing_zeros w s)) (trailing w s ne h)
