-- The rising set and S~ are in excess demand, hold every set that is, and are unique: a set in excess demand that is as large is the same. The falling set
-- is what S~ leaves of `above`. THEORY.md 1.1. Assumes nothing.
use Prim.Native.Nat.{ℕ, suc, ◌^◌, ◌≤◌, ◌<◌}
use mathlib.Core.Path.{◌≡◌, refl, sym, ap, ap₂, ◌∙◌}
use mathlib.Core.Bool.{Bool, true, false, ◌&&◌, ◌||◌, not, true≢false}
use mathlib.Core.List.{List}
use mathlib.Core.Logic.{inl, inr}
use native.Mathlib.Omega.{arith}
use native.Mathlib.Nat.{lt_irrefl}
use lib.ListN.{length}
use Rattle.sets.specs.Count.{◌⇒◌, count}
use Rattle.sets.specs.Bit.{has, set_of, each, size}
use Rattle.sets.proofs.Counting.{count_less, and_left, and_right, and_both, imp_use, imp-make, all-use, all-make, or_cases, or_left, or_right, not-both}
use Rattle.sets.proofs.Members.{set_of-lt, agree, has-zero, empty-has, same_set, size-count}
use Rattle.sets.specs.Largest.{largest}
use Rattle.sets.proofs.Largest.{Largest, largest_is}
use Rattle.rule.specs.Sheet.{amount}
use Rattle.rule.specs.Demand.{Demand, wants, nth}
use Rattle.rule.specs.Excess.{nothing_above_outside, crowded, in_excess, in_positive_excess, excess_demand, above_floors, positive_excess_demand, excess_supply}
use Rattle.rule.proofs.Limits.{above_floors-over}
use Rattle.rule.proofs.Union.{Part, Crowd, union}
use Rattle.rule.proofs.Tests.{CrowdOf, crowded-use, crowded-make}

-- the set of all items of r and s
abbrev pub joined : ℕ → ℕ → ℕ → ℕ
joined m r s = set_of m λ i. has r i || has s i

pub joined-has : (m r s i : ℕ) → i < suc m → has (joined m r s) i ≡ has r i || has s i
joined-has m r s i l = agree m (λ i. has r i || has s i) (ap₂ ◌||◌ (has-zero r) (has-zero s)) i l

joined-left : (m r s i : ℕ) → i < suc m → has r i ≡ true → has (joined m r s) i ≡ true
joined-left m r s i l h = joined-has m r s i l ∙ or_left (has r i) (has s i) h

joined-right : (m r s i : ℕ) → i < suc m → has s i ≡ true → has (joined m r s) i ≡ true
joined-right m r s i l h = joined-has m r s i l ∙ or_right (has r i) (has s i) h

-- ---- where the test passes two sets it passes their union: the largest holds every set that passes
module _ (m : ℕ) (f : ℕ → Bool) (empty : f 0 ≡ true) (both : (r s : ℕ) → f r ≡ true → f s ≡ true → f (joined m r s) ≡ true) where
  pub largest-top : Largest m (2 ^ m) f (largest m f)
  largest-top = largest_is m f empty

  pub largest-has : (s : ℕ) → f s ≡ true → (i : ℕ) → i < suc m → has s i ≡ true → has (largest m f) i ≡ true
  largest-has s fs i li h = go (has (largest m f) i) refl
    where
      r : ℕ
      r = largest m f

      no_more : size m (joined m r s) ≤ size m r
      no_more = largest-top.most (joined m r s) (set_of-lt m (λ i. has r i || has s i)) (both r s largest-top.passes fs)

      go : (b : Bool) → has r i ≡ b → b ≡ true
      go true e = refl
      go false e =
          absurd
          (lt_irrefl (count (suc m) (has r))
          (let more =
          count_less (suc m) (has r) (has (joined m r s)) (λ k lk q. joined-left m r s k lk q) i li (joined-right m r s i li h) e in
          omega (arith, no_more, size-count m r, size-count m (joined m r s))))

  pub largest-only : (s : ℕ) → s < 2 ^ m → f s ≡ true → size m (largest m f) ≤ size m s → s ≡ largest m f
  largest-only s l fs big = same_set m s (largest m f) l largest-top.bound (largest-has s fs) (λ i li q. go i li q (has s i) refl)
    where
      r : ℕ
      r = largest m f

      go : (i : ℕ) → i < suc m → has r i ≡ true → (b : Bool) → has s i ≡ b → b ≡ true
      go i li q true e = refl
      go i li q false e =
          absurd
          (lt_irrefl (count (suc m) (has s))
          (let more = count_less (suc m) (has s) (has r) (largest-has s fs) i li q e in
          omega (arith, big, size-count m r, size-count m s)))

-- ---- excess demand, where a bidder counts for s all of whose options that pass `keeps` lie in s: for the rising set those are the demanded options, for
-- S~ the demanded items of `above`

-- the empty set has no non-empty part
crowded-empty : (m : ℕ) (ds : List Demand) (counts : Demand → Bool) → crowded m ds counts 0 ≡ true
unfolding CrowdOf Crowd Part
crowded-empty m ds counts = crowded-make m ds counts 0 (λ t z i l ti part. absurd (true≢false (sym (part i l ti) ∙ empty-has i)))

module _ (m : ℕ) (ds : List Demand) (keeps : Demand → ℕ → Bool) where
  abbrev counts : ℕ → Demand → Bool
  counts s d = each m λ i. keeps d i ⇒ has s i

  crowded-joined : (r s : ℕ) → ((d : Demand) (i : ℕ) → i < suc m → wants d i ≡ true → has s i ≡ true → keeps d i ≡ true)
      → crowded m ds (counts r) r ≡ true → crowded m ds (counts s) s ≡ true → crowded m ds (counts (joined m r s)) (joined m r s) ≡ true
  unfolding CrowdOf Crowd Part each
  crowded-joined r s inside er es =
      crowded-make m ds (counts (joined m r s)) (joined m r s)
      (λ t z i l ti part.
      union m (length ds) (λ b. wants (nth ds b)) (has r) (has s) (λ b. counts r (nth ds b)) (λ b. counts s (nth ds b)) (λ b. counts (joined m r s) (nth ds b))
      (λ b lb. wider b r (joined-left m r s))
      (λ b lb. wider b s (joined-right m r s))
      (λ b i lb li c w h. imp_use (keeps (nth ds b) i) (has r i) (all-use (suc m) _ c i li) (inside (nth ds b) i li w h))
      (crowded-use m ds (counts r) r er) (crowded-use m ds (counts s) s es)
      t z i l ti (λ j lj tj. sym (joined-has m r s j lj) ∙ part j lj tj))
    where
      wider : (b x : ℕ) → ((i : ℕ) → i < suc m → has x i ≡ true → has (joined m r s) i ≡ true)
          → counts x (nth ds b) ≡ true → counts (joined m r s) (nth ds b) ≡ true
      wider b x up c =
          all-make (suc m) _ (λ i li. imp-make _ _ (λ w. up i li (imp_use (keeps (nth ds b) i) (has x i) (all-use (suc m) _ c i li) w)))

-- ---- the rising set

module _ (m : ℕ) (ds : List Demand) where
  excess-empty : in_excess m ds 0 ≡ true
  unfolding in_excess
  excess-empty = crowded-empty m ds _

  pub excess-joined : (r s : ℕ) → in_excess m ds r ≡ true → in_excess m ds s ≡ true → in_excess m ds (joined m r s) ≡ true
  unfolding in_excess
  excess-joined r s = crowded-joined m ds wants r s (λ d i l w h. w)

  -- it is in excess demand, and no set in excess demand has more items
  pub demand-top : Largest m (2 ^ m) (in_excess m ds) (excess_demand m ds)
  unfolding excess_demand
  demand-top = largest_is m (in_excess m ds) excess-empty

  pub demand-excess : in_excess m ds (excess_demand m ds) ≡ true
  demand-excess = demand-top.passes

  pub demand-bound : excess_demand m ds < 2 ^ m
  demand-bound = demand-top.bound

  -- it holds every set in excess demand
  pub demand-has : (s : ℕ) → in_excess m ds s ≡ true → (i : ℕ) → i < suc m → has s i ≡ true → has (excess_demand m ds) i ≡ true
  unfolding excess_demand
  demand-has = largest-has m (in_excess m ds) excess-empty excess-joined

  -- a set in excess demand that is as large is the same
  pub demand-only : (s : ℕ) → s < 2 ^ m → in_excess m ds s ≡ true → size m (excess_demand m ds) ≤ size m s → s ≡ excess_demand m ds
  unfolding excess_demand
  demand-only = largest-only m (in_excess m ds) excess-empty excess-joined

-- ---- S~ and the falling set

module _ (m above : ℕ) (ds : List Demand) where
  abbrev keeps_above : Demand → ℕ → Bool
  keeps_above d i = wants d i && has above i

  positive-use : (s : ℕ) → in_positive_excess m above ds s ≡ true
      → ((i : ℕ) → i < suc m → has s i ≡ true → has above i ≡ true) × (crowded m ds (counts m ds keeps_above s) s ≡ true)
  unfolding in_positive_excess each
  positive-use s e = (
    λ i l. imp_use (has s i) (has above i) (all-use (suc m) (λ i. has s i ⇒ has above i) (and_left (each m λ i. has s i ⇒ has above i) _ e) i l),
    and_right (each m λ i. has s i ⇒ has above i) _ e,
  )

  pub positive-make : (s : ℕ) → ((i : ℕ) → i < suc m → has s i ≡ true → has above i ≡ true) → crowded m ds (nothing_above_outside m above s) s ≡ true
      → in_positive_excess m above ds s ≡ true
  unfolding in_positive_excess each
  positive-make s inside e =
      and_both (each m λ i. has s i ⇒ has above i) _
      (all-make (suc m) (λ i. has s i ⇒ has above i) (λ i l. imp-make (has s i) (has above i) (inside i l))) e

  positive-empty : in_positive_excess m above ds 0 ≡ true
  positive-empty = positive-make 0 (λ i l h. absurd (true≢false (sym h ∙ empty-has i))) (crowded-empty m ds _)

  pub positive-joined : (r s : ℕ) → in_positive_excess m above ds r ≡ true → in_positive_excess m above ds s ≡ true → in_positive_excess m above ds (joined m r s) ≡ true
  positive-joined r s er es =
      let pr = positive-use r er in
      let ps = positive-use s es in
      positive-make (joined m r s)
      (λ i l h. elim (or_cases (has r i) (has s i) (sym (joined-has m r s i l) ∙ h)) [ inl q ↦ pr.0 i l q | inr q ↦ ps.0 i l q ])
      (crowded-joined m ds keeps_above r s (λ d i l w h. and_both (wants d i) (has above i) w (ps.0 i l h)) pr.1 ps.1)

  -- it is such a set, and no such set has more items
  pub positive-top : Largest m (2 ^ m) (in_positive_excess m above ds) (positive_excess_demand m above ds)
  unfolding positive_excess_demand
  positive-top = largest_is m (in_positive_excess m above ds) positive-empty

  pub positive-excess : in_positive_excess m above ds (positive_excess_demand m above ds) ≡ true
  positive-excess = positive-top.passes

  pub positive-bound : positive_excess_demand m above ds < 2 ^ m
  positive-bound = positive-top.bound

  pub positive-above : (i : ℕ) → i < suc m → has (positive_excess_demand m above ds) i ≡ true → has above i ≡ true
  positive-above = (positive-use (positive_excess_demand m above ds) positive-excess).0

  pub positive-crowded : crowded m ds (nothing_above_outside m above (positive_excess_demand m above ds)) (positive_excess_demand m above ds) ≡ true
  positive-crowded = (positive-use (positive_excess_demand m above ds) positive-excess).1

  -- it holds every set in positive excess demand
  pub positive_has : (s : ℕ) → in_positive_excess m above ds s ≡ true → (i : ℕ) → i < suc m → has s i ≡ true → has (positive_excess_demand m above ds) i ≡ true
  unfolding positive_excess_demand
  positive_has = largest-has m (in_positive_excess m above ds) positive-empty positive-joined

  -- a set in positive excess demand that is as large is the same
  pub positive-only : (s : ℕ) → s < 2 ^ m → in_positive_excess m above ds s ≡ true → size m (positive_excess_demand m above ds) ≤ size m s → s ≡ positive_excess_demand m above ds
  unfolding positive_excess_demand
  positive-only = largest-only m (in_positive_excess m above ds) positive-empty positive-joined

  -- the falling set has the items of `above` that S~ lacks
  pub supply-has : (i : ℕ) → i < suc m → has (excess_supply m above ds) i ≡ has above i && not (has (positive_excess_demand m above ds) i)
  unfolding excess_supply
  supply-has i l =
      agree m (λ i. has above i && not (has (positive_excess_demand m above ds) i))
      (ap (λ (x : Bool). x && not (has (positive_excess_demand m above ds) 0)) (has-zero above)) i l

  -- it is empty where S~ has every item of `above`
  pub supply-empty : excess_supply m above ds ≡ 0 → (i : ℕ) → i < suc m → has above i ≡ true → has (positive_excess_demand m above ds) i ≡ true
  supply-empty e i l h = go (has (positive_excess_demand m above ds) i) refl
    where
      go : (b : Bool) → has (positive_excess_demand m above ds) i ≡ b → b ≡ true
      go true q = refl
      go false q = absurd (not-both (has 0 i) (ap (λ (x : ℕ). has x i) (sym e) ∙ supply-has i l ∙ and_both (has above i) _ h (ap not q)) (empty-has i))

  pub supply-bound : excess_supply m above ds < 2 ^ m
  unfolding excess_supply
  supply-bound = set_of-lt m (λ i. has above i && not (has (positive_excess_demand m above ds) i))

-- an item of the falling set has a price above its floor
pub supply-above : (m : ℕ) (floors p : List ℕ) (ds : List Demand) (i : ℕ) → i < suc m → has (excess_supply m (above_floors m floors p) ds) i ≡ true
    → amount floors i < amount p i
supply-above m floors p ds i l e =
    above_floors-over m floors p i l (and_left (has (above_floors m floors p) i) (not (has (positive_excess_demand m (above_floors m floors p) ds) i)) (sym (supply-has m (above_floors m floors p) ds i l) ∙ e))
