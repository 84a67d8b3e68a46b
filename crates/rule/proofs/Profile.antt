-- Both sets are one function of item sets, which is all that the lower part, the matching, knows: the rising set is the largest set in excess demand of
-- the items of the bidders who do not demand null, and S~ that of the demanded items of `above`. THEORY.md 1.2. Assumes nothing.
use Prim.Native.Nat.{ℕ, zero, suc, ◌^◌, ◌≤◌, ◌<◌}
use mathlib.Core.Path.{◌≡◌, refl, sym, ap, ◌∙◌, subst}
use mathlib.Core.Bool.{Bool, true, false, ◌&&◌, cond}
use mathlib.Core.List.{List, [], ◌∷◌, map}
use mathlib.Core.Logic.{◌⊎◌, inl, inr}
use native.Mathlib.Omega.{arith}
use native.Mathlib.Nat.{not-suc-le-zero, le_of_suc-le-suc}
use lib.Dec.{eqb}
use lib.Pow.{pow_pos}
use lib.ListN.{length, get_or, length-map}
use borrow.Author.Tests.{eqb-true, eq-eqb, ltb-true, lt-ltb}
use Rattle.sets.specs.Count.{any_below, count}
use Rattle.sets.specs.Bit.{is_set, has, set_of, any, size}
use Rattle.sets.proofs.Counting.{lt-or-le, count-mono, count-witness, and_left, and_right, and_both, not-both, imp_use, imp-make, all-use, all-make, any-use, any-make}
use Rattle.sets.proofs.Members.{is_set-empty, is_set-above, is_set-set_of, set_of-lt, has-zero}
use Rattle.matching.specs.Demand.{part, meets, excess, largest_excess}
use Rattle.matching.proofs.Largest.{part-use, part-make, meets-use, meets-make, wanting, excess-use, is-largest}
use Rattle.rule.specs.Demand.{Demand, wants, nth}
use Rattle.rule.specs.Excess.{bidders, non_empty_part, something_in, nothing_outside, nothing_above_outside, crowded, in_excess, excess_demand, positive_excess_demand}
use Rattle.rule.proofs.Union.{Part, likes, likes-use, likes-make, sub, sub-use, sub-make}
use Rattle.rule.proofs.Tests.{outside-use, above-outside-use}
use Rattle.rule.proofs.Largest.{demand-excess, demand-bound, demand-has, positive-above, positive-crowded, positive_has, positive-make, positive-bound}

-- a demand's items, or none where null is demanded
unfoldable pub active : Demand → ℕ
active d = cond d.null 0 d.items

-- a demand's items of the set `above`
unfoldable pub inside : ℕ → ℕ → Demand → ℕ
inside m above d = set_of m λ i. has d.items i && has above i

-- the largest set in excess demand of item sets, one for each bidder
unfoldable pub excess_of : ℕ → List ℕ → ℕ
excess_of m ws = largest_excess m (length ws) ws

pub map_at : (ds : List Demand) (f : Demand → ℕ) (b : ℕ) → b < length ds → get_or (map f ds) b 0 ≡ f (nth ds b)
unfolding nth
map_at [] f b l = absurd (not-suc-le-zero l)
map_at (d ∷ ds) f zero l = refl
map_at (d ∷ ds) f (suc b) l = map_at ds f b (le_of_suc-le-suc l)

-- ---- the matching numbers places from 0, and the rule items from 1

pub item-bit : (s k : ℕ) → has s (suc k) ≡ is_set s k
unfolding has
item-bit s k = refl

by-items : (m a b : ℕ) → part m a b ≡ true → Part m (has a) (has b)
unfolding Part
by-items m a b e zero l h = absurd (not-both (has a 0) h (has-zero a))
by-items m a b e (suc k) l h = item-bit b k ∙ part-use m a b e k (omega arith) (sym (item-bit a k) ∙ h)

by-places : (m a b : ℕ) → Part m (has a) (has b) → part m a b ≡ true
unfolding Part
by-places m a b h = part-make m a b (λ k l e. sym (item-bit b k) ∙ h (suc k) (omega arith) (item-bit a k ∙ e))

-- an item of 1 to m
place_of : (m s i : ℕ) → i < suc m → has s i ≡ true → (k : ℕ) × (k < m) × (i ≡ suc k) × (is_set s k ≡ true)
place_of m s zero l h = absurd (not-both (has s 0) h (has-zero s))
place_of m s (suc k) l h = (k, omega arith, refl, sym (item-bit s k) ∙ h)

-- ---- a set s in excess demand, where each bidder that counts for s and a part t of it in the rule counts in the matching by the item set f d, and back

module _ (m : ℕ) (ds : List Demand) (f : Demand → ℕ) (s : ℕ) (counts : Demand → Bool) where
  to-excess : ((t : ℕ) → Part m (has t) (has s) → (d : Demand) → something_in m t d && counts d ≡ true → part m (f d) s && meets m (f d) t ≡ true)
      → crowded m ds counts s ≡ true → excess m (length ds) (map f ds) s ≡ true
  unfolding crowded excess bidders sub any
  to-excess there e =
      all-make (2 ^ m) _ (λ t lt. imp-make _ _ λ q.
      let p = by-items m t s (and_right (any_below m (is_set t)) (part m t s) q) in
      let w = any-use m (is_set t) (and_left (any_below m (is_set t)) (part m t s) q) in
      let some : any m (has t) ≡ true = any-make (suc m) (has t) (suc w.0) (omega (arith, w.1)) (item-bit t w.0 ∙ w.2) in
      let more =
      ltb-true (size m t) (count (length ds) λ b. something_in m t (nth ds b) && counts (nth ds b))
      (imp_use (non_empty_part m t s) _ (all-use (2 ^ m) _ e t lt) (and_both (any m (has t)) (sub m (has t) (has s)) some (sub-make m (has t) (has s) p))) in
      let fewer =
      count-mono (length ds) (λ b. something_in m t (nth ds b) && counts (nth ds b)) (wanting m (map f ds) s t)
      (λ b lb r. ap (λ (x : ℕ). part m x s && meets m x t) (map_at ds f b lb) ∙ there t p (nth ds b) r) in
      lt-ltb (size m t) (count (length ds) (wanting m (map f ds) s t)) (omega arith))

  of-excess : ((t : ℕ) (d : Demand) → part m (f d) s && meets m (f d) t ≡ true → something_in m t d && counts d ≡ true)
      → excess m (length ds) (map f ds) s ≡ true → crowded m ds counts s ≡ true
  unfolding crowded bidders sub any size
  of-excess back e =
      all-make (2 ^ m) _ (λ t lt. imp-make (non_empty_part m t s) _ λ q.
      let p = by-places m t s (sub-use m (has t) (has s) (and_right (any m (has t)) (sub m (has t) (has s)) q)) in
      let w = any-use (suc m) (has t) (and_left (any m (has t)) (sub m (has t) (has s)) q) in
      let k = place_of m t w.0 w.1 w.2 in
      let more = excess-use m (length ds) (map f ds) s t e lt k.0 k.1 k.3 (part-use m t s p) in
      let fewer =
      count-mono (length ds) (wanting m (map f ds) s t) (λ b. something_in m t (nth ds b) && counts (nth ds b))
      (λ b lb r. back t (nth ds b) (sym (ap (λ (x : ℕ). part m x s && meets m x t) (map_at ds f b lb)) ∙ r)) in
      lt-ltb (count m (is_set t)) (count (length ds) λ b. something_in m t (nth ds b) && counts (nth ds b)) (omega arith))

-- ---- the rising set: a bidder who demands null counts nowhere, and any other by their items

pub active-none : (d : Demand) → d.null ≡ true → active d ≡ 0
unfolding active
active-none d e = ap (λ (x : Bool). cond x 0 d.items) e

pub active-items : (d : Demand) → d.null ≡ false → active d ≡ d.items
unfolding active
active-items d e = ap (λ (x : Bool). cond x 0 d.items) e

-- what is true of the empty set and of a demand's items is true of its active items
active-by : (P : ℕ → Type 0) (d : Demand) → P 0 → P d.items → P (active d)
active-by P d none items = go d.null refl
  where
    go : (b : Bool) → d.null ≡ b → P (active d)
    go true e = subst P (sym (active-none d e)) none
    go false e = subst P (sym (active-items d e)) items

pub active-part : (d : Demand) (k : ℕ) → is_set (active d) k ≡ true → is_set d.items k ≡ true
active-part d k = active-by (λ x. is_set x k ≡ true → is_set d.items k ≡ true) d (λ e. absurd (not-both (is_set 0 k) e (is_set-empty k))) (λ e. e)

pub active-small : (m : ℕ) (d : Demand) → d.items < 2 ^ m → active d < 2 ^ m
active-small m d l = active-by (λ x. x < 2 ^ m) d (pow_pos m) l

module _ (m s t : ℕ) (d : Demand) where
  active-there : something_in m t d && nothing_outside m s d ≡ true → part m (active d) s && meets m (active d) t ≡ true
  unfolding likes sub Part wants
  active-there q = go d.null refl
    where
      only : Part m (wants d) (has s)
      only = outside-use m s d (and_right (something_in m t d) (nothing_outside m s d) q)

      go : (b : Bool) → d.null ≡ b → part m (active d) s && meets m (active d) t ≡ true
      go true e = absurd (not-both (has s 0) (only 0 (omega arith) e) (has-zero s))
      go false e =
          let w = likes-use m (λ b. wants d) (has t) 0 (and_left (something_in m t d) (nothing_outside m s d) q) in
          let k = place_of m t w.0 w.1 w.3 in
          rw (active-items d e)
          (and_both (part m d.items s) (meets m d.items t)
          (part-make m d.items s (λ j lj h. sym (item-bit s j) ∙ only (suc j) (omega arith) (item-bit d.items j ∙ h)))
          (meets-make m d.items t k.0 k.1 (sym (item-bit d.items k.0) ∙ subst (λ (i : ℕ). wants d i ≡ true) k.2 w.2) k.3))

  active-back : part m (active d) s && meets m (active d) t ≡ true → something_in m t d && nothing_outside m s d ≡ true
  unfolding likes sub Part wants
  active-back q = go d.null refl
    where
      within : part m (active d) s ≡ true
      within = and_left (part m (active d) s) (meets m (active d) t) q

      w : (k : ℕ) × (k < m) × (is_set (active d) k ≡ true) × (is_set t k ≡ true)
      w = meets-use m (active d) t (and_right (part m (active d) s) (meets m (active d) t) q)

      go : (b : Bool) → d.null ≡ b → something_in m t d && nothing_outside m s d ≡ true
      go true e = absurd (not-both (is_set 0 w.0) (sym (ap (λ (x : ℕ). is_set x w.0) (active-none d e)) ∙ w.2) (is_set-empty w.0))
      go false e =
          and_both (something_in m t d) (nothing_outside m s d)
          (likes-make m (λ b. wants d) (has t) 0 (suc w.0) (omega (arith, w.1)) (item-bit d.items w.0 ∙ active-part d w.0 w.2) (item-bit t w.0 ∙ w.3))
          (sub-make m (wants d) (has s) (λ i l h. only i l h))
        where
          only : (i : ℕ) → i < suc m → wants d i ≡ true → has s i ≡ true
          only zero l h = absurd (not-both d.null h e)
          only (suc k) l h = by-items m (active d) s within (suc k) l (ap (λ (x : ℕ). has x (suc k)) (active-items d e) ∙ h)

pub rising-profile : (m : ℕ) (ds : List Demand) → excess_demand m ds ≡ excess_of m (map active ds)
unfolding excess_of in_excess
rising-profile m ds =
    is-largest m (length ds) (map active ds) (excess_demand m ds) (demand-bound m ds)
    (to-excess m ds active (excess_demand m ds) (nothing_outside m (excess_demand m ds)) (λ t p d. active-there m (excess_demand m ds) t d) (demand-excess m ds))
    (λ s e i l h. sym (item-bit (excess_demand m ds) i)
    ∙ demand-has m ds s (of-excess m ds active s (nothing_outside m s) (λ t d. active-back m s t d) e) (suc i) (omega arith) (item-bit s i ∙ h))
    ∙ ap (λ (n : ℕ). largest_excess m n (map active ds)) (sym (length-map ds active))

-- ---- S~: a bidder counts by their items of `above`

module _ (m above : ℕ) where
  inside_is : (d : Demand) (k : ℕ) → k < m → is_set (inside m above d) k ≡ is_set d.items k && has above (suc k)
  unfolding inside has
  inside_is d k l = is_set-set_of m (λ i. has d.items i && has above i) k l

  inside-low : (d : Demand) (k : ℕ) → is_set (inside m above d) k ≡ true → k < m
  unfolding inside
  inside-low d k e = go (lt-or-le k m)
    where
      go : (k < m) ⊎ (m ≤ k) → k < m
      go (inl l) = l
      go (inr l) =
          absurd
          (not-both (is_set (inside m above d) k) e
          (is_set-above m (inside m above d) k (set_of-lt m (λ i. has d.items i && has above i)) l))

  pub inside-part : (d : Demand) (k : ℕ) → is_set (inside m above d) k ≡ true → is_set d.items k ≡ true
  inside-part d k e = and_left (is_set d.items k) (has above (suc k)) (sym (inside_is d k (inside-low d k e)) ∙ e)

  inside-above : (d : Demand) (k : ℕ) → is_set (inside m above d) k ≡ true → has above (suc k) ≡ true
  inside-above d k e = and_right (is_set d.items k) (has above (suc k)) (sym (inside_is d k (inside-low d k e)) ∙ e)

  module _ (s t : ℕ) (d : Demand) where
    inside-there : Part m (has s) (has above) → Part m (has t) (has s) → something_in m t d && nothing_above_outside m above s d ≡ true
        → part m (inside m above d) s && meets m (inside m above d) t ≡ true
    unfolding likes sub Part wants
    inside-there up p q =
        let w = likes-use m (λ b. wants d) (has t) 0 (and_left (something_in m t d) (nothing_above_outside m above s d) q) in
        let k = place_of m t w.0 w.1 w.3 in
        let only = above-outside-use m above s d (and_right (something_in m t d) (nothing_above_outside m above s d) q) in
        let in-above = up w.0 w.1 (p w.0 w.1 w.3) in
        and_both (part m (inside m above d) s) (meets m (inside m above d) t)
        (part-make m (inside m above d) s
        (λ j lj h. sym (item-bit s j) ∙ only (suc j) (omega arith)
        (and_both (has d.items (suc j)) (has above (suc j)) (item-bit d.items j ∙ inside-part d j h) (inside-above d j h))))
        (meets-make m (inside m above d) t k.0 k.1
        (inside_is d k.0 k.1
        ∙ and_both (is_set d.items k.0) (has above (suc k.0))
        (sym (item-bit d.items k.0) ∙ subst (λ (i : ℕ). wants d i ≡ true) k.2 w.2) (subst (λ (i : ℕ). has above i ≡ true) k.2 in-above))
        k.3)

    inside_back : part m (inside m above d) s && meets m (inside m above d) t ≡ true → something_in m t d && nothing_above_outside m above s d ≡ true
    unfolding likes sub Part wants
    inside_back q =
        let w = meets-use m (inside m above d) t (and_right (part m (inside m above d) s) (meets m (inside m above d) t) q) in
        and_both (something_in m t d) (nothing_above_outside m above s d)
        (likes-make m (λ b. wants d) (has t) 0 (suc w.0) (omega (arith, w.1)) (item-bit d.items w.0 ∙ inside-part d w.0 w.2) (item-bit t w.0 ∙ w.3))
        (sub-make m (λ i. wants d i && has above i) (has s) only)
      where
        only : (i : ℕ) → i < suc m → wants d i && has above i ≡ true → has s i ≡ true
        only zero l h = absurd (not-both (has above 0) (and_right (wants d 0) (has above 0) h) (has-zero above))
        only (suc k) l h =
            by-items m (inside m above d) s (and_left (part m (inside m above d) s) (meets m (inside m above d) t) q) (suc k) l
            (item-bit (inside m above d) k ∙ inside_is d k (omega arith)
            ∙ and_both (is_set d.items k) (has above (suc k)) (sym (item-bit d.items k) ∙ and_left (has d.items (suc k)) (has above (suc k)) h) (and_right (has d.items (suc k)) (has above (suc k)) h))

  module _ (ds : List Demand) where
    abbrev sets : List ℕ
    sets = map (inside m above) ds

    -- an item of a set in excess demand is in some bidder's set, and so in `above`
    excess-above : (s : ℕ) → excess m (length ds) (map (inside m above) ds) s ≡ true → Part m (has s) (has above)
    unfolding Part
    excess-above s e zero l h = absurd (not-both (has s 0) h (has-zero s))
    excess-above s e (suc k) l h = go (count-witness (length ds) (wanting m sets s one) some)
      where
        one : ℕ
        one = set_of m (λ i. eqb i (suc k))

        is-k : (j : ℕ) → j < m → is_set one j ≡ true → suc j ≡ suc k
        is-k j lj q = eqb-true (suc j) (suc k) (sym (is_set-set_of m (λ i. eqb i (suc k)) j lj) ∙ q)

        some : 0 < count (length ds) (wanting m sets s one)
        some =
            omega (
              arith,
              excess-use m (length ds) sets s one e (set_of-lt m (λ i. eqb i (suc k))) k (omega arith)
                  (is_set-set_of m (λ i. eqb i (suc k)) k (omega arith) ∙ eq-eqb (suc k) (suc k) refl)
                  (λ j lj q. sym (item-bit s j) ∙ subst (λ (x : ℕ). has s x ≡ true) (sym (is-k j lj q)) h),
            )

        go : ((b : ℕ) × (b < length ds) × (wanting m sets s one b ≡ true)) → has above (suc k) ≡ true
        go b =
            let w = meets-use m (get_or sets b.0 0) one (and_right (part m (get_or sets b.0 0) s) (meets m (get_or sets b.0 0) one) b.2) in
            subst (λ (x : ℕ). has above x ≡ true) (is-k w.0 w.1 w.3)
            (inside-above (nth ds b.0) w.0 (sym (ap (λ (x : ℕ). is_set x w.0) (map_at ds (inside m above) b.0 b.1)) ∙ w.2))

    pub positive-profile : positive_excess_demand m above ds ≡ excess_of m (map (inside m above) ds)
    unfolding excess_of Part
    positive-profile =
        is-largest m (length ds) sets st (positive-bound m above ds)
        (to-excess m ds (inside m above) st (nothing_above_outside m above st) (λ t p d. inside-there st t d (positive-above m above ds) p) (positive-crowded m above ds))
        (λ s e i l h. sym (item-bit st i)
        ∙ positive_has m above ds s
        (positive-make m above ds s (excess-above s e) (of-excess m ds (inside m above) s (nothing_above_outside m above s) (λ t d. inside_back s t d) e))
        (suc i) (omega arith) (item-bit s i ∙ h))
        ∙ ap (λ (n : ℕ). largest_excess m n sets) (sym (length-map ds (inside m above)))
      where
        st : ℕ
        st = positive_excess_demand m above ds
