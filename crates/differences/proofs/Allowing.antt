-- Law N for a report: bids meet the narrowed table if and only if they met the table and explain the report. THEORY.md 4.3. Assumes nothing.
use Prim.Native.Nat.{ℕ, suc, ◌+◌, ◌-◌, ◌^◌, ◌≤◌, ◌<◌, min}
use mathlib.Core.Path.{◌≡◌, refl, sym, ap, ◌∙◌, subst}
use mathlib.Core.Bool.{Bool, true, false, ◌&&◌, ◌||◌, cond}
use mathlib.Core.List.{List}
use native.Mathlib.Omega.{arith}
use lib.Dec.{leb, ltb, eqb}
use lib.IntN.{ℤ, sub_ℕ}
use lib.Signed.{le_z}
use borrow.Author.Tests.{leb-true, le-leb, ltb-true, lt-ltb, eqb-true, eq-eqb}
use Rattle.sets.specs.Count.{all_below}
use Rattle.sets.specs.Bit.{has, set_of, each}
use Rattle.sets.proofs.Counting.{and_left, and_right, and_both, all-use, all-make}
use Rattle.sets.proofs.Members.{has-set_of, is-set_of}
use Rattle.rule.specs.Sheet.{amount}
use Rattle.rule.specs.Demand.{surplus_at_least, best, Demand, demand}
use Rattle.rule.proofs.Order.{Listed}
use Rattle.differences.specs.Table.{some_bids, entry, meets, reached, opening, in_range, is_difference}
use Rattle.reports.specs.Report.{same_bool, same_demand}
use Rattle.reports.proofs.Same.{same-bool, bool_same}
use Rattle.differences.specs.Allowed.{explains, allows, narrowed}
use Rattle.differences.specs.Shifted.{Table, up, shifted, through_all}
use Rattle.differences.specs.Constraint.{range, limit, within}
use Rattle.differences.proofs.Constraints.{amount-null, range-own, range-top, range-under}
use Rattle.differences.proofs.Closure.{Bids, Meets, Good, Ranged, good_of}
use Rattle.differences.proofs.Explaining.{Best, Explains, by-null, null-by, by-item, item_by}
use Rattle.differences.proofs.Limits.{meets-min, min-left, min-right, null-use, null-make, item-use, item-make}
use Rattle.differences.proofs.Signs.{same-when, up-back, difference_low}
use Rattle.differences.proofs.Narrowing.{shift_le, bids-of, some_good, good-some, reached-closure, narrowed-meets}

-- ---- a number in range and its shift

shift : (a c : ℕ) (z : ℤ) → 1 ≤ up z → le_z (sub_ℕ a c) z ≡ leb (a + 4096) (c + up z)
shift a c z l = ap (le_z (sub_ℕ a c)) (up-back z l) ∙ shift_le a c (up z) l

module _ (m : ℕ) (t : List (List ℤ)) (fit : in_range m t ≡ true) where
  pub range_at : (i j : ℕ) → i ≤ m → j ≤ m → is_difference (entry t i j) ≡ true
  range_at i j li lj =
      let a = all-use (suc m) _ (unfolded fit) i (omega arith) in
      all-use (suc m) _ (unfolded₁ i a) j (omega arith)
    where
      unfolded : in_range m t ≡ true → all_below (suc m) (λ i. each m (λ j. is_difference (entry t i j))) ≡ true
      unfolded e = unfold in_range each in e

      unfolded₁ : (i : ℕ) → each m (λ j. is_difference (entry t i j)) ≡ true → all_below (suc m) (λ j. is_difference (entry t i j)) ≡ true
      unfolded₁ i e = unfold each in e

  low : (i j : ℕ) → i ≤ m → j ≤ m → 1 ≤ up (entry t i j)
  low i j li lj = difference_low (entry t i j) (range_at i j li lj)

  pub meets-use : (b : List ℕ) → meets m t b ≡ true → Meets m (shifted t) (amount b)
  unfolding meets each shifted
  meets-use b h i j li lj =
      let a = all-use (suc m) _ h i (omega arith) in
      let c = all-use (suc m) _ a j (omega arith) in
      leb-true (amount b i + 4096) (amount b j + up (entry t i j)) (sym (shift (amount b i) (amount b j) (entry t i j) (low i j li lj)) ∙ c)

  pub meets-make : (b : List ℕ) → Meets m (shifted t) (amount b) → meets m t b ≡ true
  unfolding meets each shifted
  meets-make b h =
      all-make (suc m) _ (λ i li. all-make (suc m) _ (λ j lj.
      let li' : i ≤ m = omega arith in
      let lj' : j ≤ m = omega arith in
      shift (amount b i) (amount b j) (entry t i j) (low i j li' lj') ∙ le-leb (amount b i + 4096) (amount b j + up (entry t i j)) (h i j li' lj')))

-- ---- a report and the demand

best-use : (m : ℕ) (p b : List ℕ) (i : ℕ) → best m p b i ≡ true → Best m (amount p) (amount b) i
unfolding best each surplus_at_least
best-use m p b i e j l = leb-true (amount b j + amount p i) (amount b i + amount p j) (all-use (suc m) _ e j (omega arith))

best-make : (m : ℕ) (p b : List ℕ) (i : ℕ) → Best m (amount p) (amount b) i → best m p b i ≡ true
unfolding best each surplus_at_least
best-make m p b i h = all-make (suc m) _ (λ j l. le-leb (amount b j + amount p i) (amount b i + amount p j) (h j (omega arith)))

-- an item is demanded if it is of the highest surplus and its bid is not 0
abbrev is_wanted : ℕ → List ℕ → List ℕ → ℕ → Bool
is_wanted m p b i = ltb 0 (amount b i) && best m p b i

module _ (m : ℕ) (p : List ℕ) (d : Demand) (small : d.items < 2 ^ m) (b : List ℕ) where
  wanted-use : (i : ℕ) → is_wanted m p b i ≡ true → (1 ≤ amount b i) × Best m (amount p) (amount b) i
  wanted-use i e = (ltb-true 0 (amount b i) (and_left (ltb 0 (amount b i)) (best m p b i) e), best-use m p b i (and_right (ltb 0 (amount b i)) (best m p b i) e))

  wanted-make : (i : ℕ) → 1 ≤ amount b i → Best m (amount p) (amount b) i → is_wanted m p b i ≡ true
  wanted-make i l h = and_both (ltb 0 (amount b i)) (best m p b i) (lt-ltb 0 (amount b i) l) (best-make m p b i h)

  pub explains-use : explains m p d b ≡ true → Explains m (amount p) (amount b) d.null (has d.items)
  unfolding explains same_demand demand
  explains-use e =
      let n : d.null ≡ best m p b 0 = same-bool d.null (best m p b 0) (and_left (same_bool d.null (best m p b 0)) (eqb d.items (set_of m (is_wanted m p b))) e) in
      let q : d.items ≡ set_of m (is_wanted m p b) = eqb-true d.items (set_of m (is_wanted m p b)) (and_right (same_bool d.null (best m p b 0)) (eqb d.items (set_of m (is_wanted m p b))) e) in
      let at : (i : ℕ) → suc i ≤ m → has d.items (suc i) ≡ is_wanted m p b (suc i) = λ i l. ap (λ (x : ℕ). has x (suc i)) q ∙ has-set_of m (is_wanted m p b) i l in
      record {
        null-best = λ h. best-use m p b 0 (sym n ∙ h);
        best-null = λ h. n ∙ best-make m p b 0 h;
        item-bid = λ i l h. (wanted-use (suc i) (sym (at i l) ∙ h)).0;
        item-best = λ i l h. (wanted-use (suc i) (sym (at i l) ∙ h)).1;
        best-item = λ i l o h. at i l ∙ wanted-make (suc i) o h;
      }

  pub explains-make : Explains m (amount p) (amount b) d.null (has d.items) → explains m p d b ≡ true
  unfolding explains same_demand demand has
  explains-make x =
      and_both (same_bool d.null (best m p b 0)) (eqb d.items (set_of m (is_wanted m p b)))
      (bool_same d.null (best m p b 0) (same-when d.null (best m p b 0) (λ h. best-make m p b 0 (x.null-best h)) (λ h. x.best-null (best-use m p b 0 h))))
      (eq-eqb d.items (set_of m (is_wanted m p b))
      (is-set_of m d.items (is_wanted m p b) small (λ k l. same-when (has d.items (suc k)) (is_wanted m p b (suc k))
      (λ h. wanted-make (suc k) (x.item-bid k l h) (x.item-best k l h)) (λ h. let w = wanted-use (suc k) h in x.best-item k l w.0 w.1))))

-- ---- the range as a table

pub range-meets : (m : ℕ) (v : ℕ → ℕ) → Bids m v → Meets m range v
unfolding range
range-meets m v h i j li lj = go (eqb i j) refl (eqb i 0) refl
  where
    go : (a : Bool) → eqb i j ≡ a → (c : Bool) → eqb i 0 ≡ c → v i + 4096 ≤ v j + cond (a || c) 4096 8191
    go true e c f = let q = ap v (eqb-true i j e) in omega arith
    go false e true f = let q = ap v (eqb-true i 0 f) in let z = h.null in omega arith
    go false e false f = let q = h.most i li in omega arith

-- ---- 11: some bids meet a table if and only if the closure with the range is good

module _ (m : ℕ) (few : m ≤ 32) (t : List (List ℤ)) (fit : in_range m t ≡ true) where
  within-ranged : Ranged m (within (shifted t))
  within-ranged =
      record {
        own = λ i li. let a = range-own i in omega arith;
        over = λ i li. let a = range-top i 0 in omega arith;
        under = λ i li. let a = range-under i in omega arith;
      }

  to : (b : List ℕ) → Listed 4095 m b → meets m t b ≡ true → Meets m (within (shifted t)) (amount b)
  to b hb h = meets-min m (shifted t) range (amount b) (meets-use m t fit b h) (range-meets m (amount b) (bids-of m b hb))

  from : (b : List ℕ) → Listed 4095 m b → Meets m (within (shifted t)) (amount b) → meets m t b ≡ true
  from b hb h = meets-make m t fit b (min-left m (shifted t) range (amount b) h)

  pub fits-good : some_bids m (meets m t) ≡ true → Good m (through_all (within (shifted t)) (suc m))
  fits-good = some_good m few (meets m t) (within (shifted t)) within-ranged to from

  pub good-fits : Good m (through_all (within (shifted t)) (suc m)) → some_bids m (meets m t) ≡ true
  good-fits = good-some m few (meets m t) (within (shifted t)) within-ranged to from

-- ---- law N

-- the option against which all others are held: null if the report says so, else an item of the report
pub data Pivot (m : ℕ) (d : Demand) : ℕ → Type 0 where
  at_null : d.null ≡ true → Pivot m d 0
  at_item : (k : ℕ) → suc k ≤ m → d.null ≡ false → has d.items (suc k) ≡ true → Pivot m d (suc k)

no-null : (s : ℕ) → has s 0 ≡ false
unfolding has
no-null s = refl

module _ (m : ℕ) (p : List ℕ) (most : (i : ℕ) → amount p i ≤ 4095) (d : Demand) (v : ℕ → ℕ) (hv : Bids m v) where
  abbrev s : ℕ → Bool
  s = has d.items

  pub limit-make : (l : ℕ) → Pivot m d l → Explains m (amount p) v d.null s → Meets m (limit d.null s (amount p) l) v
  limit-make l (at_null e) x =
      subst (λ (n : Bool). Meets m (limit n s (amount p) 0) v) (sym e)
      (null-make m (amount p) v s hv (amount-null p) (no-null d.items) (λ i li. most i)
      (by-null m (amount p) v (amount-null p) hv.null s (subst (λ (n : Bool). Explains m (amount p) v n s) e x)))
  limit-make l (at_item k lk e h) x =
      subst (λ (n : Bool). Meets m (limit n s (amount p) (suc k)) v) (sym e)
      (item-make m (amount p) v s hv (amount-null p) (no-null d.items) (λ i li. most i) k lk h
      (by-item m (amount p) v (amount-null p) hv.null s k lk h (subst (λ (n : Bool). Explains m (amount p) v n s) e x)))

  pub limit-use : (l : ℕ) → Pivot m d l → Meets m (limit d.null s (amount p) l) v → Explains m (amount p) v d.null s
  limit-use l (at_null e) x =
      subst (λ (n : Bool). Explains m (amount p) v n s) (sym e)
      (null-by m (amount p) v (amount-null p) hv.null s
      (null-use m (amount p) v s hv (amount-null p) (no-null d.items) (λ i li. most i) (subst (λ (n : Bool). Meets m (limit n s (amount p) 0) v) e x)))
  limit-use l (at_item k lk e h) x =
      subst (λ (n : Bool). Explains m (amount p) v n s) (sym e)
      (item_by m (amount p) v (amount-null p) hv.null s k lk h
      (item-use m (amount p) v s hv (amount-null p) (no-null d.items) (λ i li. most i) k lk h (subst (λ (n : Bool). Meets m (limit n s (amount p) (suc k)) v) e x)))

module _ (m : ℕ) (few : m ≤ 32) (t : List (List ℤ)) (fit : in_range m t ≡ true) (p : List ℕ) (most : (i : ℕ) → amount p i ≤ 4095)
    (d : Demand) (small : d.items < 2 ^ m) (l : ℕ) (pivot : Pivot m d l) where
  -- the table that the closure starts from
  abbrev table : Table
  table i j = min (within (shifted t) i j) (limit d.null (has d.items) (amount p) l i j)

  table-ranged : Ranged m table
  table-ranged =
      record {
        own = λ i li. let a = range-own i in omega arith;
        over = λ i li. let a = range-top i 0 in omega arith;
        under = λ i li. let a = range-under i in omega arith;
      }

  there : (b : List ℕ) → Listed 4095 m b → allows m t p d b ≡ true → Meets m table (amount b)
  unfolding allows
  there b hb h =
      meets-min m (within (shifted t)) (limit d.null (has d.items) (amount p) l) (amount b)
      (to m few t fit b hb (and_left (meets m t b) (explains m p d b) h))
      (limit-make m p most d (amount b) (bids-of m b hb) l pivot (explains-use m p d small b (and_right (meets m t b) (explains m p d b) h)))

  back : (b : List ℕ) → Listed 4095 m b → Meets m table (amount b) → allows m t p d b ≡ true
  unfolding allows
  back b hb h =
      and_both (meets m t b) (explains m p d b)
      (from m few t fit b hb (min-left m (within (shifted t)) (limit d.null (has d.items) (amount p) l) (amount b) h))
      (explains-make m p d small b
      (limit-use m p most d (amount b) (bids-of m b hb) l pivot (min-right m (within (shifted t)) (limit d.null (has d.items) (amount p) l) (amount b) h)))

  -- 19 does not apply if and only if the closure is good
  pub explained-good : some_bids m (allows m t p d) ≡ true → Good m (through_all table (suc m))
  explained-good = some_good m few (allows m t p d) table table-ranged there back

  pub good-explained : Good m (through_all table (suc m)) → some_bids m (allows m t p d) ≡ true
  good-explained = good-some m few (allows m t p d) table table-ranged there back

  -- every number reached is that of the closure
  pub table-closure : Good m (through_all table (suc m)) → (i j : ℕ) → i ≤ m → j ≤ m → reached m (allows m t p d) i j ≡ sub_ℕ (through_all table (suc m) i j - 1) 4095
  table-closure = reached-closure m few (allows m t p d) table table-ranged there back

  -- "a move narrows each table to the bids that met it and explain the report"
  pub narrows : some_bids m (allows m t p d) ≡ true → (b : List ℕ) → Listed 4095 m b → meets m (narrowed m t p d) b ≡ allows m t p d b
  unfolding narrowed
  narrows h b hb = narrowed-meets m few (allows m t p d) table table-ranged there back (explained-good h) b hb

-- ---- the opening: all bids of 0 to 4,095

pub range-ranged : (m : ℕ) → Ranged m range
range-ranged m =
    record {
      own = λ i li. let a = range-own i in omega arith;
      over = λ i li. range-top i 0;
      under = λ i li. let a = range-under i in omega arith;
    }

pub opening-meets : (m : ℕ) → m ≤ 32 → (b : List ℕ) → Listed 4095 m b → meets m (opening m) b ≡ true
unfolding opening
opening-meets m few b hb =
    narrowed-meets m few (λ b. true) range (range-ranged m) (λ c hc h. range-meets m (amount c) (bids-of m c hc)) (λ c hc h. refl)
    (good_of m range (amount b) (bids-of m b hb) (range-meets m (amount b) (bids-of m b hb))) b hb
