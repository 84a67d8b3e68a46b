-- Overdemanded and weakly underdemanded sets, the rising set, S~ and the falling set: document 01, "The rule of a round"; section 3 of the paper, definitions 2
-- to 6 in its order. The size of a set and the largest set that passes a test are in `sets`. Assumes nothing: these are definitions.
use Rattle.std.specs.Prelude.{ℕ, ◌^◌, Bool, ◌&&◌, not, List, leb, ltb, length}
use Rattle.sets.specs.Count.{◌⇒◌, all_below, count}
use Rattle.sets.specs.Bit.{has, set_of, each, any, size}
use Rattle.sets.specs.Largest.{largest}
use Rattle.rule.specs.Sheet.{amount}
use Rattle.rule.specs.Demand.{Demand, wants, nth}

-- how many bidders (rakers) have a demand that passes the test
unfoldable pub bidders : List Demand → (Demand → Bool) → ℕ
bidders ds f = count (length ds) λ b. f (nth ds b)

-- t is a non-empty part of s
abbrev pub non_empty_part : ℕ → ℕ → ℕ → Bool
non_empty_part m t s = any m (has t) && each m (λ i. has t i ⇒ has s i)

-- something in t is demanded: the paper's U(T, p)
abbrev pub something_in : ℕ → ℕ → Demand → Bool
something_in m t d = any m λ i. wants d i && has t i

-- nothing outside s is demanded; null (no pan) lies outside every s. The paper's O(S, p)
abbrev pub nothing_outside : ℕ → ℕ → Demand → Bool
nothing_outside m s d = each m λ i. wants d i ⇒ has s i

-- s is overdemanded: more bidders than s has items demand nothing outside s. Definition 2 of the paper
unfoldable pub overdemanded : ℕ → List Demand → ℕ → Bool
overdemanded m ds s = ltb (size m s) (bidders ds (nothing_outside m s))

-- s is weakly underdemanded: it is not empty, holds only items of `above`, which are those of price above the floor, and no more bidders than s has items demand
-- something in s. Definition 3 of the paper, which admits the empty set; document 01: non-empty is meant
unfoldable pub weakly_underdemanded : ℕ → ℕ → List Demand → ℕ → Bool
weakly_underdemanded m above ds s = non_empty_part m s above && leb (bidders ds (something_in m s)) (size m s)

-- the demanded items of the set `above` all lie in s. The paper's O⁺(S, p), where `above` are the items of price above the floor
abbrev pub nothing_above_outside : ℕ → ℕ → ℕ → Demand → Bool
nothing_above_outside m above s d = each m λ i. wants d i && has above i ⇒ has s i

-- for each non-empty part t of s, more of the bidders who count than t has items demand something in t
unfoldable pub crowded : ℕ → List Demand → (Demand → Bool) → ℕ → Bool
crowded m ds counts s =
    all_below (2 ^ m) λ t. non_empty_part m t s ⇒ ltb (size m t) (bidders ds λ d. something_in m t d && counts d)

-- s is in excess demand: for each non-empty part t of s, more bidders than t has items both demand something in t and demand nothing outside s.
-- Definition 4 of the paper
unfoldable pub in_excess : ℕ → List Demand → ℕ → Bool
in_excess m ds s = crowded m ds (nothing_outside m s) s

-- the rising set: the largest set in excess demand, empty if there is none. The paper's E*
unfoldable pub excess_demand : ℕ → List Demand → ℕ
excess_demand m ds = largest m (in_excess m ds)

-- the items (pans) of price (rent) above the floor: the paper's I⁺(p), whose floors are 0
unfoldable pub above_floors : ℕ → (floors prices : List ℕ) → ℕ
above_floors m floors prices = set_of m λ i. ltb (amount floors i) (amount prices i)

-- the same with the items of `above` only: s holds such items, and a bidder counts whose demanded items of `above` all lie in s. Definition 5 of the
-- paper, positive excess demand
unfoldable pub in_positive_excess : ℕ → ℕ → List Demand → ℕ → Bool
in_positive_excess m above ds s =
    each m (λ i. has s i ⇒ has above i) && crowded m ds (nothing_above_outside m above s) s

-- S~: the largest such set
unfoldable pub positive_excess_demand : ℕ → ℕ → List Demand → ℕ
positive_excess_demand m above ds = largest m (in_positive_excess m above ds)

-- the falling set: every item of `above` that is not in S~. Definition 6 of the paper, excess supply; its S*
unfoldable pub excess_supply : ℕ → ℕ → List Demand → ℕ
excess_supply m above ds = let s : ℕ = positive_excess_demand m above ds in set_of m λ i. has above i && not (has s i)
