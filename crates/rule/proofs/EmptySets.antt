-- The families of definitions 2 and 3 of the paper: the rising set is empty exactly where no set is overdemanded, and the falling set exactly where no
-- non-empty set of items of `above` is weakly underdemanded. The second is of any demands; for the first each bidder must demand something, as every bidder
-- does at prices: who demands nothing demands nothing outside the empty set either, and would overdemand it. So at the closing prices there is neither, and at
-- no others, which is theorem 1 of the paper. THEORY.md 1.5 and 1.6. Assumes nothing.
use Prim.Native.Nat.{ℕ, suc, ◌^◌, ◌<◌}
use mathlib.Core.Path.{◌≡◌, refl, sym, ap, ◌∙◌}
use mathlib.Core.Bool.{Bool, true, false, ◌&&◌, not}
use mathlib.Core.List.{List}
use native.Mathlib.Omega.{arith}
use lib.Dec.{eqb}
use lib.ListN.{length}
use borrow.Author.Tests.{ltb-true, lt-ltb, le-ltb, leb-true, le-leb, eqb-true, eq-eqb}
use Rattle.sets.specs.Count.{◌⇒◌, all_below}
use Rattle.sets.specs.Bit.{has, set_of, each, any, size}
use Rattle.sets.proofs.Counting.{count-mono, and_left, and_right, and_both, imp_use, imp-make, all-use, all-make, any-use, any-make, not-both, not_is, is_false, together}
use Rattle.sets.proofs.Members.{agree, has-zero, none-zero, size-count}
use Rattle.rule.specs.Sheet.{Sheet}
use Rattle.rule.specs.Demand.{Demand, demands, wants, nth}
use Rattle.rule.specs.Excess.{bidders, non_empty_part, something_in, nothing_outside, nothing_above_outside, overdemanded, weakly_underdemanded, crowded, in_excess, excess_demand, above_floors, positive_excess_demand, excess_supply}
use Rattle.rule.specs.Equilibrium.{Below}
use Rattle.rule.specs.Closing.{demands_at, excess_demand_at, excess_supply_at, Closing}
use Rattle.rule.proofs.Union.{Part, likes, likes-use, likes-make, Crowd, sub, sub-use, sub-make}
use Rattle.rule.proofs.Tests.{CrowdOf, crowded-use, crowded-make, crowd-mono}
use Rattle.rule.proofs.Largest.{demand-excess, demand-bound, positive-above, positive-crowded, positive_has, positive-make, supply-has, supply-empty, supply-bound}
use Rattle.rule.proofs.Overdemand.{Enough, drawn, drawn-few}
use Rattle.rule.proofs.Wanted.{enough-of-empty}
use Rattle.rule.proofs.AtPrices.{demands-some}

-- of a crowded set s: more of the bidders who count than a non-empty part t of it has items demand something in t
part-crowded : (m : ℕ) (ds : List Demand) (counts : Demand → Bool) (s t i : ℕ) → t < 2 ^ m → i < suc m → has t i ≡ true
    → ((j : ℕ) → j < suc m → has t j ≡ true → has s j ≡ true) → crowded m ds counts s ≡ true
    → size m t < bidders ds λ d. something_in m t d && counts d
unfolding crowded any each
part-crowded m ds counts s t i lt li ti part e =
    ltb-true (size m t) (bidders ds λ d. something_in m t d && counts d)
    (imp_use (non_empty_part m t s) _ (all-use (2 ^ m) _ e t lt)
    (and_both (any m (has t)) _ (any-make (suc m) (has t) i li ti) (all-make (suc m) _ (λ j lj. imp-make (has t j) (has s j) (part j lj)))))

-- ---- definition 2

module _ (m : ℕ) (ds : List Demand) where
  -- where the rising set is empty no set has more bidders who demand nothing else than items
  pub not-over : ((b : ℕ) → b < length ds → (i : ℕ) × (i < suc m) × (wants (nth ds b) i ≡ true))
      → excess_demand m ds ≡ 0 → (s : ℕ) → overdemanded m ds s ≡ false
  unfolding overdemanded bidders Enough sub
  not-over some e s =
      le-ltb (size m s) (bidders ds (nothing_outside m s))
      (omega (arith, enough-of-empty {wanted = λ b. wants (nth ds b)} (record { count-is = refl; wanted-is = λ b i lb li. refl }) some e (has s) (has-zero s), size-count m s))

  -- where it has an item it is overdemanded itself
  pub rising-over : (i : ℕ) → i < suc m → has (excess_demand m ds) i ≡ true → overdemanded m ds (excess_demand m ds) ≡ true
  unfolding overdemanded bidders in_excess
  rising-over i l h =
      let s : ℕ = excess_demand m ds in
      let many = part-crowded m ds (nothing_outside m s) s s i (demand-bound m ds) l h (λ j lj q. q) (demand-excess m ds) in
      let fewer =
      count-mono (length ds) (λ b. something_in m s (nth ds b) && nothing_outside m s (nth ds b)) (λ b. nothing_outside m s (nth ds b))
      (λ b lb q. and_right (something_in m s (nth ds b)) _ q) in
      lt-ltb (size m s) (bidders ds (nothing_outside m s)) (omega arith)

  -- the rising set is empty if and only if no set is overdemanded
  pub rising_empty : ((b : ℕ) → b < length ds → (i : ℕ) × (i < suc m) × (wants (nth ds b) i ≡ true))
      → eqb (excess_demand m ds) 0 ≡ all_below (2 ^ m) λ s. not (overdemanded m ds s)
  rising_empty some = together _ _ to back
    where
      to : eqb (excess_demand m ds) 0 ≡ true → (all_below (2 ^ m) λ s. not (overdemanded m ds s)) ≡ true
      to e = all-make (2 ^ m) _ (λ s l. ap not (not-over some (eqb-true (excess_demand m ds) 0 e) s))

      back : (all_below (2 ^ m) λ s. not (overdemanded m ds s)) ≡ true → eqb (excess_demand m ds) 0 ≡ true
      back e =
          eq-eqb (excess_demand m ds) 0
          (none-zero m (excess_demand m ds) (demand-bound m ds)
          (λ i l. is_false (has (excess_demand m ds) i) λ h.
          not-both (overdemanded m ds (excess_demand m ds)) (rising-over i l h)
          (not_is _ (all-use (2 ^ m) _ e (excess_demand m ds) (demand-bound m ds)))))

-- ---- definition 3

module _ (m above : ℕ) (ds : List Demand) where
  abbrev demands_of : ℕ → ℕ → Bool
  demands_of b = wants (nth ds b)

  abbrev st : ℕ
  st = positive_excess_demand m above ds

  -- where the falling set is empty each non-empty set of items of `above` is demanded by more bidders than it has items
  pub not-under : excess_supply m above ds ≡ 0 → (s : ℕ) → s < 2 ^ m → weakly_underdemanded m above ds s ≡ false
  unfolding weakly_underdemanded bidders any each
  not-under e s ls =
      is_false (weakly_underdemanded m above ds s) λ q.
      let in-above = and_left (non_empty_part m s above) _ q in
      let w = any-use (suc m) (has s) (and_left (any m (has s)) _ in-above) in
      let inside = all-use (suc m) (λ i. has s i ⇒ has above i) (and_right (any m (has s)) _ in-above) in
      let many =
      part-crowded m ds (nothing_above_outside m above st) st s w.0 ls w.1 w.2
      (λ j lj h. supply-empty m above ds e j lj (imp_use (has s j) (has above j) (inside j lj) h)) (positive-crowded m above ds) in
      let fewer =
      count-mono (length ds) (λ b. something_in m s (nth ds b) && nothing_above_outside m above st (nth ds b)) (λ b. something_in m s (nth ds b))
      (λ b lb h. and_left (something_in m s (nth ds b)) _ h) in
      let few = leb-true (bidders ds (something_in m s)) (size m s) (and_right (non_empty_part m s above) _ q) in
      absurd (omega arith)

  -- where it has an item it is weakly underdemanded itself
  pub falling-under : (i : ℕ) → i < suc m → has (excess_supply m above ds) i ≡ true → weakly_underdemanded m above ds (excess_supply m above ds) ≡ true
  unfolding weakly_underdemanded bidders any each likes sub Part CrowdOf
  falling-under i l h =
      let s : ℕ = excess_supply m above ds in
      let few =
      drawn-few m (length ds) demands_of (has above) (has st) (has-zero above) (has-zero st) (positive-above m above ds)
      (crowded-use m ds (nothing_above_outside m above st) st (positive-crowded m above ds)) holds
      (has s) (λ j lj q. sym (supply-has m above ds j lj) ∙ q) in
      let all =
      count-mono (length ds) (λ b. something_in m s (nth ds b)) (drawn m demands_of (λ j. has above j && not (has st j)) (has s))
      (λ b lb q. drawn-in b q) in
      and_both (non_empty_part m s above) _
      (and_both (any m (has s)) _ (any-make (suc m) (has s) i l h)
      (all-make (suc m) _ (λ j lj. imp-make (has s j) (has above j) (λ q. and_left (has above j) _ (sym (supply-has m above ds j lj) ∙ q)))))
      (le-leb (bidders ds (something_in m s)) (size m s) (omega (arith, size-count m s)))
    where
      holds : (t : ℕ → Bool) → t 0 ≡ false → Part m t (has above)
          → Crowd m (length ds) demands_of (λ b. sub m (λ j. demands_of b j && has above j) t) t → Part m t (has st)
      holds t z inside c j lj e =
          let s : ℕ = set_of m t in
          let at : (k : ℕ) → k < suc m → has s k ≡ t k = agree m t z in
          positive_has m above ds s
          (positive-make m above ds s (λ k lk q. inside k lk (sym (at k lk) ∙ q))
          (crowded-make m ds (nothing_above_outside m above s) s
          (crowd-mono m (length ds) demands_of demands_of (λ b. sub m (λ k. demands_of b k && has above k) t) (λ b. nothing_above_outside m above s (nth ds b)) t (has s)
          (λ b k lb lk w. w)
          (λ b lb w. sub-make m (λ k. demands_of b k && has above k) (has s) (λ k lk q. at k lk ∙ sub-use m (λ k. demands_of b k && has above k) t w k lk q))
          (λ k lk q. sym (at k lk) ∙ q)
          c)))
          j lj (at j lj ∙ e)

      drawn-in : (b : ℕ) → something_in m (excess_supply m above ds) (nth ds b) ≡ true
          → drawn m demands_of (λ j. has above j && not (has st j)) (has (excess_supply m above ds)) b ≡ true
      drawn-in b q =
          let w = likes-use m demands_of (has (excess_supply m above ds)) b q in
          and_both (likes m demands_of (λ j. has above j && not (has st j)) b) _
          (likes-make m demands_of (λ j. has above j && not (has st j)) b w.0 w.1 w.2 (sym (supply-has m above ds w.0 w.1) ∙ w.3))
          (sub-make m (λ j. demands_of b j && (has above j && not (has st j))) (has (excess_supply m above ds))
          (λ j lj h. supply-has m above ds j lj ∙ and_right (demands_of b j) _ h))

  -- the falling set is empty if and only if no non-empty set of items of `above` is weakly underdemanded
  pub falling_empty : eqb (excess_supply m above ds) 0 ≡ all_below (2 ^ m) λ s. not (weakly_underdemanded m above ds s)
  falling_empty = together _ _ to back
    where
      to : eqb (excess_supply m above ds) 0 ≡ true → (all_below (2 ^ m) λ s. not (weakly_underdemanded m above ds s)) ≡ true
      to e = all-make (2 ^ m) _ (λ s l. ap not (not-under (eqb-true (excess_supply m above ds) 0 e) s l))

      back : (all_below (2 ^ m) λ s. not (weakly_underdemanded m above ds s)) ≡ true → eqb (excess_supply m above ds) 0 ≡ true
      back e =
          eq-eqb (excess_supply m above ds) 0
          (none-zero m (excess_supply m above ds) (supply-bound m above ds)
          (λ i l. is_false (has (excess_supply m above ds) i) λ h.
          not-both (weakly_underdemanded m above ds (excess_supply m above ds)) (falling-under i l h)
          (not_is _ (all-use (2 ^ m) _ e (excess_supply m above ds) (supply-bound m above ds)))))

-- ---- at prices every bidder demands something

pub rising-empty-at : (m : ℕ) (bids : List (List ℕ)) (prices : List ℕ)
    → eqb (excess_demand m (demands m bids prices)) 0 ≡ all_below (2 ^ m) λ s. not (overdemanded m (demands m bids prices) s)
rising-empty-at m bids prices = rising_empty m (demands m bids prices) (demands-some m bids prices)

-- ---- theorem 1 of the paper: at the closing prices no set is overdemanded and none weakly underdemanded, and at no others from the floors up

module _ (s : Sheet) where
  -- the paper's OD(p) is empty, and its UD(p)
  abbrev pub none_over : List ℕ → Bool
  none_over p = all_below (2 ^ s.items) λ x. not (overdemanded s.items (demands_at s p) x)

  abbrev pub none_under : List ℕ → Bool
  none_under p = all_below (2 ^ s.items) λ x. not (weakly_underdemanded s.items (above_floors s.items s.floors p) (demands_at s p) x)

  pub at_close : (c : Closing s) → (none_over c.prices ≡ true) × (none_under c.prices ≡ true)
  at_close c = (
    sym (rising-empty-at s.items s.bids c.prices) ∙ eq-eqb _ 0 c.no_excess,
    sym (falling_empty s.items (above_floors s.items s.floors c.prices) (demands_at s c.prices)) ∙ eq-eqb _ 0 c.no_supply,
  )

  pub only-at-close : (c : Closing s) (q : List ℕ) → length q ≡ s.items → Below s.floors q → none_over q ≡ true → none_under q ≡ true → q ≡ c.prices
  only-at-close c q long low over under =
      c.unique q long low
      (eqb-true (excess_demand_at s q) 0 (rising-empty-at s.items s.bids q ∙ over))
      (eqb-true (excess_supply_at s q) 0 (falling_empty s.items (above_floors s.items s.floors q) (demands_at s q) ∙ under))
