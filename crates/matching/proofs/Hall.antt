-- Hall's theorem: no set is in excess demand if and only if some match places every bidder that wants something. Assumes nothing.
use Prim.Native.Nat.{ℕ, ◌+◌, ◌^◌, ◌≤◌, ◌<◌}
use mathlib.Core.Path.{◌≡◌, refl, ap, ◌∙◌}
use mathlib.Core.Bool.{Bool, true, false}
use mathlib.Core.List.{List}
use native.Mathlib.Nat.{lt_irrefl}
use native.Mathlib.Omega.{arith}
use lib.ListN.{get_or}
use Rattle.sets.specs.Bit.{is_set}
use Rattle.sets.specs.Count.{count}
use Rattle.sets.proofs.Counting.{and_left, and_right}
use Rattle.sets.proofs.Members.{is_set-empty, is_set-none}
use Rattle.matching.specs.Demand.{part, meets, excess, largest_excess, Matching}
use Rattle.matching.proofs.Holdings.{wants-held}
use Rattle.matching.proofs.Crowds.{few-bidders}
use Rattle.matching.proofs.Largest.{part-use, meets-use, wanting, excess-use, largest-excess}
use Rattle.matching.proofs.Decomposition.{decompose}

-- every bidder that wants something holds something
unfoldable pub AllPlaced : List ℕ → (ℕ → ℕ) → Type 0
AllPlaced d h = (b i : ℕ) → b < 64 → i < 32 → is_set (get_or d b 0) i ≡ true → (k : ℕ) × (k < 32) × (h k ≡ b + 1)

pub hall : (d : List ℕ) → largest_excess 32 64 d ≡ 0 → (h : ℕ → ℕ) × Matching 32 64 d h × AllPlaced d h
unfolding AllPlaced
hall d z =
    let t = decompose d in (
      t.0,
      t.1.matching,
      λ b i lb li want.
          let s = t.1.outside b i lb li want (ap (λ (x : ℕ). is_set x i) z ∙ is_set-empty i) in
          (s.0, s.1, s.2),
    )

pub hall-back : (d : List ℕ) (h : ℕ → ℕ) → Matching 32 64 d h → AllPlaced d h → largest_excess 32 64 d ≡ 0
unfolding AllPlaced
hall-back d h mh all = go (largest_excess 32 64 d) (largest-excess 32 64 d).bound (largest-excess 32 64 d).passes
  where
    go : (x : ℕ) → x < 2 ^ 32 → excess 32 64 d x ≡ true → x ≡ 0
    go x small e = is_set-none 32 x small (λ i li. none i li (is_set x i) refl)
      where
        inside : (b : ℕ) → wanting 32 d x x b ≡ true → part 32 (get_or d b 0) x ≡ true
        inside b q = and_left (part 32 (get_or d b 0) x) (meets 32 (get_or d b 0) x) q

        few : count 64 (wanting 32 d x x) ≤ count 32 (is_set x)
        few =
            few-bidders h (wanting 32 d x x) (is_set x)
            (λ b lb q. let w = meets-use 32 (get_or d b 0) x (and_right (part 32 (get_or d b 0) x) (meets 32 (get_or d b 0) x) q) in all b w.0 lb w.1 w.2)
            (λ b i lb li q e. part-use 32 (get_or d b 0) x (inside b q) i li (wants-held d h i b (mh.fair i li) e))

        none : (i : ℕ) → i < 32 → (c : Bool) → is_set x i ≡ c → c ≡ false
        none i li false q = refl
        none i li true q =
            absurd (lt_irrefl (count 32 (is_set x)) (omega (arith, few, excess-use 32 64 d x x e small i li q (λ k lk p. p))))
