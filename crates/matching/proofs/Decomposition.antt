-- The decomposition: the largest set in excess demand has a holder for each of its items, and who wants something outside it is placed outside it, one
-- bidder to an item. Assumes nothing.
use Prim.Native.Nat.{ℕ, ◌+◌, ◌-◌, ◌<◌}
use mathlib.Core.Path.{◌≡◌, refl, ap, subst}
use mathlib.Core.Bool.{Bool, true, false, not}
use mathlib.Core.List.{List}
use native.Mathlib.Omega.{arith}
use lib.ListN.{get_or}
use Rattle.sets.specs.Bit.{is_set}
use Rattle.sets.proofs.Members.{is_set-empty}
use Rattle.matching.specs.Demand.{excess, largest_excess, Matching}
use Rattle.matching.specs.Chain.{Sub, Stuck, Settled, Seated}
use Rattle.matching.proofs.Holdings.{no_both, holds_at, held_by}
use Rattle.matching.proofs.Excess.{all-within}
use Rattle.matching.proofs.Seating.{seated-matching}
use Rattle.matching.proofs.Existence.{settled-exists}

-- b holds an item that passes the test
abbrev pub Seat : (ℕ → ℕ) → ℕ → (ℕ → Bool) → Type 0
Seat h b f = (k : ℕ) × (k < 32) × (h k ≡ b + 1) × (f k ≡ true)

pub record Decomposition (d : List ℕ) (x : ℕ) (h : ℕ → ℕ) : Type 0 where
  pub matching : Matching 32 64 d h
  -- who wants something outside x holds something outside x
  pub outside : (b i : ℕ) → b < 64 → i < 32 → is_set (get_or d b 0) i ≡ true → is_set x i ≡ false → Seat h b (λ k. not (is_set x k))
  -- each item of x is held, by a bidder that wants nothing outside x
  pub inside : (i : ℕ) → i < 32 → is_set x i ≡ true → (h i ≡ 0 → ⊥) × ((k : ℕ) → k < 32 → is_set (get_or d (h i - 1) 0) k ≡ true → is_set x k ≡ true)

settled-seated : (d l : List ℕ) (w : ℕ) → Settled d l w 64 → Seated d 0 l 64
settled-seated d l w s = record { kept = s.kept; once = s.once; placed = λ c lc h. no_both h (is_set-empty c) }

pub decompose : (d : List ℕ) → (h : ℕ → ℕ) × Decomposition d (largest_excess 32 64 d) h
unfolding Sub Stuck
decompose d = go (settled-exists d).0 (largest_excess 32 64 d) (settled-exists d).1
  where
    go : (l : List ℕ) (x : ℕ) → Settled d l x 64 → (h : ℕ → ℕ) × Decomposition d x h
    go l x s = (
      held_by l,
      record {
        matching = seated-matching d 0 0 l (settled-seated d l x s);
        outside = λ b i lb li want out.
            let stray : ((k : ℕ) → k < 32 → is_set (get_or d b 0) k ≡ true → is_set x k ≡ true) → ⊥ = λ f. no_both (f i li want) out in
            let at = holds_at l b (s.placed b lb stray) in
            (at.0, at.1, at.2, ap not (off b at.0 at.1 at.2 stray (is_set x at.0) refl));
        inside = λ i li h. ((s.closed i li h).0, (s.closed i li h).2);
      },
    )
      where
        off : (b k : ℕ) → k < 32 → get_or l k 0 ≡ b + 1 → (((k : ℕ) → k < 32 → is_set (get_or d b 0) k ≡ true → is_set x k ≡ true) → ⊥)
            → (c : Bool) → is_set x k ≡ c → c ≡ false
        off b k lk e stray false q = refl
        off b k lk e stray true q =
            let who : get_or l k 0 - 1 ≡ b = omega arith in
            absurd (stray (subst (λ (y : ℕ). (k : ℕ) → k < 32 → is_set (get_or d y 0) k ≡ true → is_set x k ≡ true) who (s.closed k lk q).2))

-- every set in excess demand is a part of the largest
pub largest-holds : (d : List ℕ) (s : ℕ) → excess 32 64 d s ≡ true → (i : ℕ) → i < 32 → is_set s i ≡ true → is_set (largest_excess 32 64 d) i ≡ true
largest-holds d s e = let t = settled-exists d in all-within d t.0 (largest_excess 32 64 d) t.1 s e
