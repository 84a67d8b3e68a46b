-- Bidders counted by the items that they hold, and items by their holders. Assumes nothing.
use Prim.Native.Nat.{ℕ, ◌+◌, ◌-◌, ◌≤◌, ◌<◌}
use mathlib.Core.Path.{◌≡◌, sym, ap, ◌∙◌}
use mathlib.Core.Bool.{Bool, true}
use mathlib.Core.List.{List}
use native.Mathlib.Omega.{arith}
use lib.ListN.{get_or}
use Rattle.sets.specs.Count.{count}
use Rattle.sets.proofs.Counting.{pigeonhole, pigeonhole-strict}
use Rattle.matching.specs.Chain.{held, Kept}
use Rattle.matching.proofs.Holdings.{holds_same, holder-is, item_of, item_of-is}

-- where each bidder of p holds items of f, and one at least, the bidders of p are no more than the items of f
pub few-bidders : (h : ℕ → ℕ) (p f : ℕ → Bool) → ((b : ℕ) → b < 64 → p b ≡ true → (i : ℕ) × (i < 32) × (h i ≡ b + 1))
    → ((b i : ℕ) → b < 64 → i < 32 → p b ≡ true → h i ≡ b + 1 → f i ≡ true) → count 64 p ≤ count 32 f
few-bidders h p f some all =
    pigeonhole 64 32 p f (item_of h)
    (record {
      lands = λ b lb q. (at b lb q).0;
      hits = λ b lb q. all b (item_of h b) lb (at b lb q).0 q (at b lb q).1;
      apart = λ b c lb lc q r e. let same : b + 1 ≡ c + 1 = sym (at b lb q).1 ∙ ap h e ∙ (at c lc r).1 in omega arith;
    })
  where
    at : (b : ℕ) → b < 64 → p b ≡ true → (item_of h b < 32) × (h (item_of h b) ≡ b + 1)
    at b lb q = let w = some b lb q in item_of-is h b w.0 w.1 w.2

-- where each item of f is held by a bidder of p, and one bidder of p holds none of them, the bidders of p are more than the items of f
pub more-bidders : (d l : List ℕ) (f p : ℕ → Bool) → Kept d l → ((c : ℕ) → held l c ≤ 1)
    → ((k : ℕ) → k < 32 → f k ≡ true → (get_or l k 0 ≡ 0 → ⊥) × (p (get_or l k 0 - 1) ≡ true))
    → (b : ℕ) → b < 64 → p b ≡ true → ((k : ℕ) → k < 32 → f k ≡ true → get_or l k 0 ≡ b + 1 → ⊥) → count 32 f < count 64 p
more-bidders d l f p kept once holders b lb pb none =
    pigeonhole-strict 32 64 f p (λ k. get_or l k 0 - 1) b lb pb
    (λ k lk q e. none k lk q ((is k lk q).1 ∙ ap (λ (x : ℕ). x + 1) e))
    (record {
      lands = λ k lk q. (is k lk q).0;
      hits = λ k lk q. (holders k lk q).1;
      apart = λ j k lj lk q r e.
          holds_same l (get_or l k 0 - 1) j k (once (get_or l k 0 - 1)) lj lk ((is j lj q).1 ∙ ap (λ (x : ℕ). x + 1) e) (is k lk r).1;
    })
  where
    is : (k : ℕ) → k < 32 → f k ≡ true → (get_or l k 0 - 1 < 64) × (get_or l k 0 ≡ get_or l k 0 - 1 + 1)
    is k lk q = let w = holder-is d l k kept lk (holders k lk q).0 in (w.0, w.1)
