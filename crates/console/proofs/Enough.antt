-- An opening with a wrong count of starting prices or floors is turned down whatever they are, so the first 65 amounts are enough. Assumes nothing.
use Prim.Native.Nat.{ℕ, suc, ◌≤◌, ◌<◌, min}
use mathlib.Core.Path.{◌≡◌, refl, sym, ap, ◌∙◌}
use mathlib.Core.Bool.{Bool, true, false, false≢true}
use mathlib.Core.List.{List}
use mathlib.Core.Logic.{◌⊎◌, inl, inr}
use native.Mathlib.Omega.{arith}
use native.Mathlib.Nat.{min-eq_left, min-eq_right, min-le_right}
use lib.Dec.{eqb}
use lib.ListN.{length, take, drop, replicate, length-drop, drop_of_length-le}
use lib.IntN.{ℤ}
use lib.Seq.{length-take-le, take_all, drop-length}
use borrow.Author.Tests.{eqb-true, eq-eqb}
use Rattle.sets.specs.Lists.{places}
use Rattle.sets.proofs.Counting.{lt-or-le}
use Rattle.sets.proofs.Lists.{places-length, take_places}
use Rattle.rule.specs.Refusal.{bad_items, bad_live_bidders}
use Rattle.rule.proofs.Refusal.{in-range}
use Rattle.live.specs.Calls.{open_number, open_above_number, open_auction, open_above}
use Rattle.live.proofs.Opening.{one, two, three, three-floors, by-number, number-zero, zero-floors}

-- starting prices and floors that are not as many as the items, where so many items are allowed
abbrev Wrong : (m : ℕ) (start floors : List ℕ) → Type 0
Wrong m start floors = m ≤ 32 → length start ≡ m → length floors ≡ m → ⊥

-- they are turned down by 1, 2 or 3, whatever they are
abbrev late : (no_items no-bidders : Bool) → ℕ
late true b = 0
late false true = 1
late false false = 2

module _ (m n : ℕ) (ts : List ℤ) where
  wrong : (start floors : List ℕ) → Wrong m start floors → open_above_number m n start floors ts ≡ suc (late (bad_items m) (bad_live_bidders n))
  wrong start floors w = go (bad_items m) (bad_live_bidders n) refl refl
    where
      three-of : bad_items m ≡ false → bad_live_bidders n ≡ false → (t : Bool) → eqb (length start) m ≡ t → open_above_number m n start floors ts ≡ 3
      three-of a b true e =
          let q = eqb-true (length start) m e in
          three-floors m n start floors ts a b q (w (in-range 32 m (unfold bad_items in a)).1 q)
      three-of a b false e = three m n start floors ts a b (λ q. false≢true (sym e ∙ eq-eqb (length start) m q))

      go : (x y : Bool) → bad_items m ≡ x → bad_live_bidders n ≡ y → open_above_number m n start floors ts ≡ suc (late x y)
      go true y a b = one m n start floors ts a
      go false true a b = two m n start floors ts a b
      go false false a b = three-of a b (eqb (length start) m) refl

  -- so two such openings get the same number, and the same answer
  same_number : (xs zs ys ws : List ℕ) → Wrong m xs zs → Wrong m ys ws → open_above_number m n xs zs ts ≡ open_above_number m n ys ws ts
  same_number xs zs ys ws u v = wrong xs zs u ∙ sym (wrong ys ws v)

  same : (xs zs ys ws : List ℕ) → Wrong m xs zs → Wrong m ys ws → open_above m n xs zs ts ≡ open_above m n ys ws ts
  same xs zs ys ws u v = by-number m n xs zs ts _ (wrong xs zs u) ∙ sym (by-number m n ys ws ts _ (wrong ys ws v))

-- ---- the amounts that are read

-- the part has as many places as it is asked for
pub part_length : (xs ys : List ℕ) (n k : ℕ) → ys ≡ places 65 xs → k ≡ min n 65 → k ≡ length (take k ys)
part_length xs ys n k e q = sym (length-take-le k ys (omega (arith, ap length e, places-length 65 xs, q, min-le_right n 65)))

-- what is the same for any lists of 65 or more is the same for those that are read and for all
enough : {A : Type 0} (f : List ℕ → A) → ((xs ys : List ℕ) → 65 ≤ length xs → 65 ≤ length ys → f xs ≡ f ys)
    → (xs ys : List ℕ) (k : ℕ) → ys ≡ places 65 xs → k ≡ min (length xs) 65 → f (take k ys) ≡ f xs
enough f h xs ys k e q = go (lt-or-le 65 (length xs))
  where
    go : (65 < length xs) ⊎ (length xs ≤ 65) → f (take k ys) ≡ f xs
    go (inr l) = ap f (ap (take k) e ∙ ap (λ (j : ℕ). take j (places 65 xs)) (q ∙ min-eq_left l) ∙ take_places 65 xs l)
    go (inl l) =
        let at : k ≡ 65 = q ∙ min-eq_right (omega arith) in
        h (take k ys) xs (omega (arith, at, part_length xs ys (length xs) k e q)) (omega arith)

module _ (m n : ℕ) (ts : List ℤ) where
  many : (xs : List ℕ) → 65 ≤ length xs → Wrong m xs (replicate m 0)
  many xs l a e f = omega (arith, l, a, e)

  pub first-65 : (xs ys : List ℕ) (k : ℕ) → ys ≡ places 65 xs → k ≡ min (length xs) 65 → open_auction m n (take k ys) ts ≡ open_auction m n xs ts
  first-65 =
      enough (λ xs. open_auction m n xs ts) λ xs ys l h.
      sym (zero-floors m n xs ts) ∙ same m n ts xs (replicate m 0) ys (replicate m 0) (many xs l) (many ys h) ∙ zero-floors m n ys ts

  pub number-65 : (xs ys : List ℕ) (k : ℕ) → ys ≡ places 65 xs → k ≡ min (length xs) 65 → open_number m n (take k ys) ts ≡ open_number m n xs ts
  number-65 =
      enough (λ xs. open_number m n xs ts) λ xs ys l h.
      sym (number-zero m n xs ts) ∙ same_number m n ts xs (replicate m 0) ys (replicate m 0) (many xs l) (many ys h) ∙ number-zero m n ys ts

  -- the opening with floors: starting prices and floors together are at most 64
  many-floors : (xs : List ℕ) → 65 ≤ length xs → Wrong m (take m xs) (drop m xs)
  many-floors xs l a e f = omega (arith, l, a, f, length-drop m xs)

  pub first-65-above : (xs ys : List ℕ) (k : ℕ) → ys ≡ places 65 xs → k ≡ min (length xs) 65
      → open_above m n (take m (take k ys)) (drop m (take k ys)) ts ≡ open_above m n (take m xs) (drop m xs) ts
  first-65-above =
      enough (λ xs. open_above m n (take m xs) (drop m xs) ts) λ xs ys l h.
      same m n ts (take m xs) (drop m xs) (take m ys) (drop m ys) (many-floors xs l) (many-floors ys h)

  pub number-65-above : (xs ys : List ℕ) (k : ℕ) → ys ≡ places 65 xs → k ≡ min (length xs) 65
      → open_above_number m n (take m (take k ys)) (drop m (take k ys)) ts ≡ open_above_number m n (take m xs) (drop m xs) ts
  number-65-above =
      enough (λ xs. open_above_number m n (take m xs) (drop m xs) ts) λ xs ys l h.
      same_number m n ts (take m xs) (drop m xs) (take m ys) (drop m ys) (many-floors xs l) (many-floors ys h)

-- ---- the split: at the items, or where the amounts end before; of the tables at their bidders' last number

pub split-starts : {A : Type 0} (m : ℕ) (xs : List A) (s : ℕ) → s ≡ min m (length xs) → take s xs ≡ take m xs
split-starts m xs s q = go (lt-or-le m (length xs))
  where
    go : (m < length xs) ⊎ (length xs ≤ m) → take s xs ≡ take m xs
    go (inl l) = let h : m ≤ length xs = omega arith in ap (λ (j : ℕ). take j xs) (q ∙ min-eq_left h)
    go (inr l) = ap (λ (j : ℕ). take j xs) (q ∙ min-eq_right l) ∙ take_all (length xs) xs (omega arith) ∙ sym (take_all m xs l)

pub split_rest : {A : Type 0} (m : ℕ) (xs : List A) (s : ℕ) → s ≡ min m (length xs) → drop s xs ≡ drop m xs
split_rest m xs s q = go (lt-or-le m (length xs))
  where
    go : (m < length xs) ⊎ (length xs ≤ m) → drop s xs ≡ drop m xs
    go (inl l) = let h : m ≤ length xs = omega arith in ap (λ (j : ℕ). drop j xs) (q ∙ min-eq_left h)
    go (inr l) = ap (λ (j : ℕ). drop j xs) (q ∙ min-eq_right l) ∙ drop-length xs ∙ sym (drop_of_length-le xs {i = m} l)
