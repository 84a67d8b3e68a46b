-- The largest set over m items and n bidders is the one over 32 and 64, where the rest of the bidders want nothing and nobody wants the rest of the items.
-- Assumes nothing.
use Prim.Native.Nat.{ℕ, ◌-◌, ◌^◌, ◌≤◌, ◌<◌}
use mathlib.Core.Path.{◌≡◌, refl, sym, ap, ◌∙◌}
use mathlib.Core.Bool.{Bool, true, false}
use mathlib.Core.List.{List}
use mathlib.Core.Logic.{◌⊎◌, inl, inr}
use native.Mathlib.Nat.{lt_of_lt_of_le}
use native.Mathlib.Omega.{arith}
use lib.ListN.{get_or}
use lib.Pow.{pow_mono}
use Rattle.sets.specs.Bit.{is_set}
use Rattle.sets.specs.Count.{count}
use Rattle.sets.proofs.Counting.{lt-or-le, count-mono, count-cong, count-upto, count-trim, and_left, and_right, and_both}
use Rattle.sets.proofs.Members.{is_set-empty, is_set-above, is_set-small, bits_of, bits_of-lt, is_set-bits_of}
use Rattle.sets.proofs.Largest.{Largest}
use Rattle.matching.specs.Demand.{part, meets, excess, largest_excess}
use Rattle.matching.proofs.Largest.{part-use, part-make, meets-use, meets-make, wanting, excess-use, excess-make, largest-excess, is-largest}
use Rattle.matching.proofs.Holdings.{no_both, fair-is}
use Rattle.matching.proofs.Decomposition.{Decomposition, decompose, largest-holds}

module _ (m n : ℕ) (d : List ℕ) (lm : m ≤ 32) (ln : n ≤ 64)
    (idle : (b : ℕ) → n ≤ b → get_or d b 0 ≡ 0) (unwanted : (b i : ℕ) → m ≤ i → is_set (get_or d b 0) i ≡ false) where
  -- the items of a set below m
  below : ℕ → ℕ
  below s = bits_of m (is_set s)

  below-is : (s k : ℕ) → k < m → is_set (below s) k ≡ is_set s k
  unfolding below
  below-is s k l = is_set-bits_of m (is_set s) k l

  below-lt : (s : ℕ) → below s < 2 ^ m
  unfolding below
  below-lt s = bits_of-lt m (is_set s)

  below-small : (s : ℕ) → below s < 2 ^ 32
  below-small s = lt_of_lt_of_le (below-lt s) (pow_mono lm)

  -- who has it lies below
  below_in : (s k : ℕ) → is_set (below s) k ≡ true → (k < m) × (is_set s k ≡ true)
  below_in s k h = go (lt-or-le k m)
    where
      go : (k < m) ⊎ (m ≤ k) → (k < m) × (is_set s k ≡ true)
      go (inl q) = (q, sym (below-is s k q) ∙ h)
      go (inr q) = no_both h (is_set-above m (below s) k (below-lt s) q)

  wants-low : (b k : ℕ) → is_set (get_or d b 0) k ≡ true → k < m
  wants-low b k h = go (lt-or-le k m)
    where
      go : (k < m) ⊎ (m ≤ k) → k < m
      go (inl q) = q
      go (inr q) = no_both h (unwanted b k q)

  counts : (t : ℕ) → count 32 (is_set (below t)) ≡ count m (is_set t)
  counts t =
      count-trim 32 m (is_set (below t)) lm (λ k l u. is_set-above m (below t) k (below-lt t) l)
      ∙ count-cong m (is_set (below t)) (is_set t) (λ k l. below-is t k l)

  -- the same bidders count, for sets that agree below m
  wider : (s s' t t' : ℕ) → ((k : ℕ) → k < m → is_set s k ≡ true → is_set s' k ≡ true) → ((k : ℕ) → k < m → is_set t k ≡ true → is_set t' k ≡ true)
      → count n (wanting m d s t) ≤ count 64 (wanting 32 d s' t')
  wider s s' t t' up ut =
      let one =
      count-mono n (wanting m d s t) (wanting 32 d s' t') (λ b lb q.
      let w = meets-use m (get_or d b 0) t (and_right (part m (get_or d b 0) s) (meets m (get_or d b 0) t) q) in
      and_both (part 32 (get_or d b 0) s') (meets 32 (get_or d b 0) t')
      (part-make 32 (get_or d b 0) s' (λ k l h. up k (wants-low b k h) (part-use m (get_or d b 0) s (and_left (part m (get_or d b 0) s) (meets m (get_or d b 0) t) q) k (wants-low b k h) h)))
      (meets-make 32 (get_or d b 0) t' w.0 (omega (arith, w.1)) w.2 (ut w.0 w.1 w.3))) in
      let two = count-upto 64 n (wanting 32 d s' t') ln in
      omega arith

  narrower : (s s' t t' : ℕ) → ((k : ℕ) → k < m → is_set s k ≡ true → is_set s' k ≡ true) → ((k : ℕ) → k < m → is_set t k ≡ true → is_set t' k ≡ true)
      → count 64 (wanting 32 d s t) ≤ count n (wanting m d s' t')
  narrower s s' t t' up ut =
      let trim =
      count-trim 64 n (wanting 32 d s t) ln (λ b lb u. idles b lb (wanting 32 d s t b) refl) in
      let one =
      count-mono n (wanting 32 d s t) (wanting m d s' t') (λ b lb q.
      let w = meets-use 32 (get_or d b 0) t (and_right (part 32 (get_or d b 0) s) (meets 32 (get_or d b 0) t) q) in
      and_both (part m (get_or d b 0) s') (meets m (get_or d b 0) t')
      (part-make m (get_or d b 0) s' (λ k l h. up k l (part-use 32 (get_or d b 0) s (and_left (part 32 (get_or d b 0) s) (meets 32 (get_or d b 0) t) q) k (omega arith) h)))
      (meets-make m (get_or d b 0) t' w.0 (wants-low b w.0 w.2) w.2 (ut w.0 (wants-low b w.0 w.2) w.3))) in
      omega arith
    where
      idles : (b : ℕ) → n ≤ b → (c : Bool) → wanting 32 d s t b ≡ c → c ≡ false
      idles b l false q = refl
      idles b l true q =
          let w = meets-use 32 (get_or d b 0) t (and_right (part 32 (get_or d b 0) s) (meets 32 (get_or d b 0) t) q) in
          no_both w.2 (ap (λ (x : ℕ). is_set x w.0) (idle b l) ∙ is_set-empty w.0)

  module _ (x : ℕ) (top : Largest 32 (2 ^ 32) (excess 32 64 d) x) (h : ℕ → ℕ) (dec : Decomposition d x h)
      (all : (s : ℕ) → excess 32 64 d s ≡ true → (i : ℕ) → i < 32 → is_set s i ≡ true → is_set x i ≡ true) where
    small : x < 2 ^ m
    small = is_set-small 32 m x lm top.bound (λ k l u. go k l u (is_set x k) refl)
      where
        go : (k : ℕ) → m ≤ k → k < 32 → (c : Bool) → is_set x k ≡ c → c ≡ false
        go k l u false q = refl
        go k l u true q =
            let f = fair-is d k (h k) (dec.matching.fair k u) (dec.inside k u q).0 in
            no_both f.2 (unwanted (h k - 1) k l)

    in-excess : excess m n d x ≡ true
    in-excess =
        excess-make m n d x (λ t i li e sub.
        let more =
        excess-use 32 64 d x (below t) top.passes (below-small t) i (omega arith) (below-is t i li ∙ e)
        (λ k lk q. let w = below_in t k q in sub k w.0 w.1) in
        let less = narrower x x (below t) t (λ k l q. q) (λ k l q. sym (below-is t k l) ∙ q) in
        omega (arith, more, less, counts t))

    holds : (s : ℕ) → excess m n d s ≡ true → (i : ℕ) → i < m → is_set s i ≡ true → is_set x i ≡ true
    holds s e i li q = all (below s) here i (omega arith) (below-is s i li ∙ q)
      where
        here : excess 32 64 d (below s) ≡ true
        here =
            excess-make 32 64 d (below s) (λ t i li e' sub.
            let low = below_in s i (sub i li e') in
            let more =
            excess-use m n d s (below t) e (below-lt t) i low.0 (below-is t i low.0 ∙ e')
            (λ k lk q. let w = below_in t k q in (below_in s k (sub k (omega arith) w.1)).1) in
            let less = wider s (below s) (below t) t (λ k l q. below-is s k l ∙ q) (λ k l q. sym (below-is t k l) ∙ q) in
            let same : count 32 (is_set t) ≡ count m (is_set t) =
            count-trim 32 m (is_set t) lm (λ k l u. off t sub k l u (is_set t k) refl) in
            let inner : count m (is_set (below t)) ≡ count m (is_set t) = count-cong m (is_set (below t)) (is_set t) (λ k l. below-is t k l) in
            omega (arith, more, less, same, inner))
          where
            off : (t : ℕ) → ((k : ℕ) → k < 32 → is_set t k ≡ true → is_set (below s) k ≡ true) → (k : ℕ) → m ≤ k → k < 32 → (c : Bool) → is_set t k ≡ c → c ≡ false
            off t sub k l u false q = refl
            off t sub k l u true q = no_both (sub k u q) (is_set-above m (below s) k (below-lt s) l)

    is : x ≡ largest_excess m n d
    is = is-largest m n d x small in-excess holds

  pub largest-wide : largest_excess 32 64 d ≡ largest_excess m n d
  largest-wide = is (largest_excess 32 64 d) (largest-excess 32 64 d) (decompose d).0 (decompose d).1 (largest-holds d)
