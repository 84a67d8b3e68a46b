-- The largest set in excess demand that the matching answers, for 32 items and 64 bidders, is the rising set, and S~. THEORY.md 1.2. Assumes nothing.
use Prim.Native.Nat.{ℕ, ◌^◌, ◌≤◌, ◌<◌}
use mathlib.Core.Path.{◌≡◌, refl, sym, ap, ◌∙◌, fun_ext}
use mathlib.Core.Bool.{false, ◌&&◌}
use mathlib.Core.List.{List, map}
use mathlib.Core.Logic.{◌⊎◌, inl, inr}
use native.Mathlib.Omega.{arith}
use lib.Dec.{ltb}
use lib.ListN.{length, get_or, length-map, get_or-eq_default}
use Rattle.sets.specs.Count.{◌⇒◌, all_below, any_below, count}
use Rattle.sets.specs.Bit.{is_set, has, size}
use Rattle.sets.specs.Largest.{largest}
use Rattle.sets.proofs.Counting.{lt-or-le}
use Rattle.sets.proofs.Members.{is_set-empty, is_set-above, set_of-lt}
use Rattle.matching.specs.Demand.{part, meets, excess, largest_excess}
use Rattle.matching.proofs.Theorems.{largest-wide}
use Rattle.rule.specs.Demand.{Demand, nth}
use Rattle.rule.specs.Excess.{excess_demand, positive_excess_demand}
use Rattle.rule.proofs.Profile.{excess_of, active, inside, map_at, rising-profile, positive-profile}

-- the largest set in excess demand of item sets is the matching's
pub largest-same : (m : ℕ) (ws : List ℕ) → excess_of m ws ≡ largest_excess m (length ws) ws
unfolding excess_of
largest-same m ws = refl

-- ---- at the code's sizes: a list w of 64 sets has f of each bidder's demand, and nothing past the last bidder

-- the largest set reads nothing but the bidders' sets
largest-cong : (m n : ℕ) (v w : List ℕ) → ((b : ℕ) → get_or v b 0 ≡ get_or w b 0) → largest_excess m n v ≡ largest_excess m n w
unfolding largest_excess excess
largest-cong m n v w h =
    ap (λ (g : ℕ → ℕ). largest m (λ s. all_below (2 ^ m) λ t.
    any_below m (is_set t) && part m t s ⇒ ltb (size m t) (count n λ b. part m (g b) s && meets m (g b) t))) (fun_ext h)

pub map-past : (ds : List Demand) (f : Demand → ℕ) (b : ℕ) → length ds ≤ b → get_or (map f ds) b 0 ≡ 0
map-past ds f b l = get_or-eq_default (map f ds) 0 {n = b} (omega (arith, length-map ds f))

module _ (m : ℕ) (ds : List Demand) (f : Demand → ℕ) (w : List ℕ) (lm : m ≤ 32) (ln : length ds ≤ 64)
    (here : (b : ℕ) → b < length ds → get_or w b 0 ≡ f (nth ds b)) (past : (b : ℕ) → length ds ≤ b → get_or w b 0 ≡ 0)
    (small : (b : ℕ) → b < length ds → f (nth ds b) < 2 ^ m) where
  same : (b : ℕ) → get_or w b 0 ≡ get_or (map f ds) b 0
  same b = go (lt-or-le b (length ds))
    where
      go : (b < length ds) ⊎ (length ds ≤ b) → get_or w b 0 ≡ get_or (map f ds) b 0
      go (inl l) = here b l ∙ sym (map_at ds f b l)
      go (inr l) = past b l ∙ sym (map-past ds f b l)

  unwanted : (b i : ℕ) → m ≤ i → is_set (get_or w b 0) i ≡ false
  unwanted b i l = go (lt-or-le b (length ds))
    where
      go : (b < length ds) ⊎ (length ds ≤ b) → is_set (get_or w b 0) i ≡ false
      go (inl q) = ap (λ (x : ℕ). is_set x i) (here b q) ∙ is_set-above m (f (nth ds b)) i (small b q) l
      go (inr q) = ap (λ (x : ℕ). is_set x i) (past b q) ∙ is_set-empty i

  pub profile-wide : largest_excess 32 64 w ≡ excess_of m (map f ds)
  profile-wide =
      largest-wide m (length ds) w lm ln past unwanted ∙ largest-cong m (length ds) w (map f ds) same
      ∙ ap (λ (n : ℕ). largest_excess m n (map f ds)) (sym (length-map ds f)) ∙ sym (largest-same m (map f ds))

-- the rising set
pub rising-wide : (m : ℕ) (ds : List Demand) (w : List ℕ) → m ≤ 32 → length ds ≤ 64 → ((b : ℕ) → b < length ds → get_or w b 0 ≡ active (nth ds b))
    → ((b : ℕ) → length ds ≤ b → get_or w b 0 ≡ 0) → ((b : ℕ) → b < length ds → active (nth ds b) < 2 ^ m) → largest_excess 32 64 w ≡ excess_demand m ds
rising-wide m ds w lm ln here past small = profile-wide m ds active w lm ln here past small ∙ sym (rising-profile m ds)

-- S~
pub positive-wide : (m above : ℕ) (ds : List Demand) (w : List ℕ) → m ≤ 32 → length ds ≤ 64 → ((b : ℕ) → b < length ds → get_or w b 0 ≡ inside m above (nth ds b))
    → ((b : ℕ) → length ds ≤ b → get_or w b 0 ≡ 0) → largest_excess 32 64 w ≡ positive_excess_demand m above ds
unfolding inside
positive-wide m above ds w lm ln here past =
    profile-wide m ds (inside m above) w lm ln here past (λ b l. set_of-lt m (λ i. has (nth ds b).items i && has above i)) ∙ sym (positive-profile m above ds)
