-- What the callers use: which bids meet the opening's table and a narrowed one, that both fit, and when 19 applies; all against the definitions, without the closure.
-- Assumes nothing.
use Prim.Native.Nat.{ℕ, zero, suc, ◌+◌, ◌-◌, ◌*◌, ◌^◌, ◌≤◌, ◌<◌}
use mathlib.Core.Path.{◌≡◌, refl, sym, ap, ap₂, ◌∙◌, fun_ext}
use mathlib.Core.Bool.{Bool, true, false, true≢false, ◌&&◌, not, cond}
use mathlib.Core.List.{List, [], ◌∷◌, ◌++◌}
use mathlib.Core.Logic.{◌⊎◌, inl, inr}
use native.Mathlib.Omega.{arith}
use lib.Dec.{leb, ltb, eqb}
use lib.ListN.{length, get_or}
use lib.IntN.{ℤ, pos, negsuc, sub_ℕ}
use lib.Signed.{le_z}
use borrow.Author.Tests.{le-leb, leb-true, eqb-true, not-false}
use Rattle.sets.specs.Lists.{tabulate}
use Rattle.sets.proofs.Counting.{and_left, and_right, and_both, all-use}
use Rattle.sets.proofs.Taking.{member-lt}
use Rattle.rule.specs.Sheet.{amount, row, each4095}
use Rattle.rule.specs.Demand.{Demand, best, demand, demands, wants, nth}
use Rattle.rule.specs.Assignment.{choose}
use Rattle.rule.proofs.Order.{Listed, none, some-make, choose-passes}
use Rattle.rule.proofs.Order.{listed as listed_more}
use Rattle.rule.proofs.Limits.{each-make}
use Rattle.rule.proofs.AtPrices.{nth-demands, demands-length, demands-some, demand-same}
use Rattle.reports.specs.Report.{same_demand}
use Rattle.reports.proofs.Same.{same-demand, same_self}
use Rattle.differences.specs.Table.{some_bids, entry, meets, greatest_below, reached, is_beyond, largest_table, opening, is_zero, is_difference, place_fits, zero_beyond, in_range, table_fits}
use Rattle.differences.specs.Allowed.{explains, allows, narrowed, unexplained}
use Rattle.differences.specs.Lent.{flat, rows_of, table_at, flat_all, is_asked, part_fits, part_explains}
use Rattle.differences.proofs.Places.{within-is, row-beyond, column-beyond, either, table-at}
use Rattle.differences.proofs.Joined.{table-length, all-length, all-table}
use Rattle.differences.proofs.Fitting.{fits-beyond, fits-inside, fits-make}
use Rattle.differences.proofs.Reached.{bids-make}
use Rattle.differences.proofs.Allowing.{Pivot, at_null, at_item, narrows, opening-meets}

-- ---- bids

-- as the theory lists them, and as the limits have them
pub listed : (m : ℕ) (b : List ℕ) → each4095 m b ≡ true → Listed 4095 m b
unfolding each4095 amount
listed m b e = go m b (eqb-true (length b) m (and_left (eqb (length b) m) _ e)) (λ k l. leb-true (get_or b k 0) 4095 (all-use m _ (and_right (eqb (length b) m) _ e) k l))
  where
    go : (m : ℕ) (b : List ℕ) → length b ≡ m → ((k : ℕ) → k < m → get_or b k 0 ≤ 4095) → Listed 4095 m b
    go zero [] e h = none
    go zero (x ∷ xs) e h = absurd (omega (arith, e))
    go (suc m) [] e h = absurd (omega (arith, e))
    go (suc m) (x ∷ xs) e h = listed_more x (h 0 (omega arith)) (go m xs (omega (arith, e)) (λ k l. h (suc k) (omega arith)))

pub listed-each : (m : ℕ) (b : List ℕ) → Listed 4095 m b → each4095 m b ≡ true
listed-each m b h = each-make m b (long m b h) (λ k l. at m b h k)
  where
    long : (m : ℕ) (b : List ℕ) → Listed 4095 m b → length b ≡ m
    long m b none = refl
    long m b (listed_more x {xs = ys} l h) = ap suc (long _ ys h)

    at : (m : ℕ) (b : List ℕ) → Listed 4095 m b → (k : ℕ) → get_or b k 0 ≤ 4095
    at m b none k = omega arith
    at m b (listed_more x {xs = ys} l h) zero = l
    at m b (listed_more x {xs = ys} l h) (suc k) = at _ ys h k

-- the bids that are chosen from those that pass
pub chosen-bids : (m : ℕ) (f : List ℕ → Bool) → some_bids m f ≡ true → (each4095 m (choose 4095 m f) ≡ true) × (f (choose 4095 m f) ≡ true)
unfolding some_bids
chosen-bids m f e = let w = choose-passes 4095 m f e in (listed-each m (choose 4095 m f) w.0, w.1)

some-bids : (m : ℕ) (f : List ℕ → Bool) (b : List ℕ) → each4095 m b ≡ true → f b ≡ true → some_bids m f ≡ true
unfolding some_bids
some-bids m f b q e = some-make 4095 m f b (listed m b q) e

-- some bids pass a test that lets through what another does
pub some_more : (m : ℕ) (f g : List ℕ → Bool) → ((b : List ℕ) → each4095 m b ≡ true → f b ≡ true → g b ≡ true) → some_bids m f ≡ true → some_bids m g ≡ true
some_more m f g h e = let w = chosen-bids m f e in some-bids m g (choose 4095 m f) w.0 (h (choose 4095 m f) w.0 w.1)

-- ---- a table of largest differences holds what it may

greatest-most : (n : ℕ) (g : ℕ → Bool) → greatest_below (suc n) g ≤ n
unfolding greatest_below
greatest-most zero g = go (g 0)
  where
    go : (b : Bool) → elim b [ true ↦ 0 | false ↦ 0 ] ≤ 0
    go true = omega arith
    go false = omega arith
greatest-most (suc n) g = go (g (suc n)) (greatest-most n g)
  where
    go : (b : Bool) → greatest_below (suc n) g ≤ n → elim b [ true ↦ suc n | false ↦ greatest_below (suc n) g ] ≤ suc n
    go true l = omega arith
    go false l = omega arith

difference-is : (k : ℕ) → k ≤ 8190 → is_difference (sub_ℕ k 4095) ≡ true
unfolding is_difference
difference-is k l = go (ltb k 4095) refl
  where
    go : (t : Bool) → ltb k 4095 ≡ t → le_z (negsuc 4094) (cond t (negsuc (4095 - suc k)) (pos (k - 4095))) && le_z (cond t (negsuc (4095 - suc k)) (pos (k - 4095))) (pos 4095) ≡ true
    go true e = and_both (leb (4095 - suc k) 4094) true (le-leb (4095 - suc k) 4094 (omega arith)) refl
    go false e = le-leb (k - 4095) 4095 (omega arith)

-- the numbers of a table of largest differences
abbrev largest : (m : ℕ) (f : List ℕ → Bool) → ℕ → ℕ → ℤ
largest m f i j = cond (is_beyond m i j) (pos 0) (reached m f i j)

largest-long : (m : ℕ) (f : List ℕ → Bool) → length (flat (largest_table m f)) ≡ 1089
unfolding largest_table
largest-long m f = table-length (largest m f)

module _ (m : ℕ) (few : m ≤ 32) (f : List ℕ → Bool) where
  reached-difference : (i j : ℕ) → is_difference (reached m f i j) ≡ true
  unfolding reached
  reached-difference i j = difference-is (greatest_below 8191 (λ k. some_bids m (λ b. f b && eqb (amount b i + 4095) (amount b j + k)))) (greatest-most 8190 (λ k. some_bids m (λ b. f b && eqb (amount b i + 4095) (amount b j + k))))

  place : (i j : ℕ) → place_fits m i j (cond (is_beyond m i j) (pos 0) (reached m f i j)) ≡ true
  place i j = go (either m i j)
    where
      at : (b : Bool) → is_beyond m i j ≡ b → cond (is_beyond m i j) (pos 0) (reached m f i j) ≡ cond b (pos 0) (reached m f i j)
      at b e = ap (λ (b : Bool). cond b (pos 0) (reached m f i j)) e

      zeros : is_beyond m i j ≡ true → place_fits m i j (cond (is_beyond m i j) (pos 0) (reached m f i j)) ≡ true
      zeros e = ap (place_fits m i j) (at true e) ∙ fits-beyond m i j (pos 0) e ∙ (unfold is_zero in refl)

      go : ((i ≤ m) × (j ≤ m)) ⊎ ((m < i) ⊎ (m < j)) → place_fits m i j (cond (is_beyond m i j) (pos 0) (reached m f i j)) ≡ true
      go (inl (a, b)) = let e = within-is m i j a b in ap (place_fits m i j) (at false e) ∙ fits-inside m i j (reached m f i j) e ∙ reached-difference i j
      go (inr (inl l)) = zeros (row-beyond m i j l)
      go (inr (inr l)) = zeros (column-beyond m i j l)

  in_place : (i j : ℕ) → i < 33 → j < 33 → place_fits m i j (entry (largest_table m f) i j) ≡ true
  unfolding largest_table
  in_place i j li lj = ap (place_fits m i j) (table-at (largest m f) i j li lj) ∙ place i j

  -- and it fits if some bids meet it
  table-fits : some_bids m (meets m (largest_table m f)) ≡ true → table_fits m (largest_table m f) ≡ true
  unfolding table_fits
  table-fits h =
      and_both (zero_beyond m (largest_table m f) && in_range m (largest_table m f)) (some_bids m (meets m (largest_table m f))) (fits-make m few (largest_table m f) in_place) h

-- ---- all bidders' tables joined, and each taken out again
pub tables-length : (m n : ℕ) (f : ℕ → List ℕ → Bool) → length (flat_all n (λ k. largest_table m (f k))) ≡ n * 1089
tables-length m n f = all-length (λ k. largest_table m (f k)) (λ k. largest-long m (f k)) n

pub tables-at : (m n : ℕ) (f : ℕ → List ℕ → Bool) (k : ℕ) → k < n → table_at (flat_all n (λ k. largest_table m (f k))) k ≡ largest_table m (f k)
unfolding largest_table
tables-at m n f k l = all-table (λ k. largest m (f k)) n k l

pub flat-all-same : (n : ℕ) (f g : ℕ → List (List ℤ)) → ((k : ℕ) → k < n → f k ≡ g k) → flat_all n f ≡ flat_all n g
unfolding flat_all
flat-all-same zero f g h = refl
flat-all-same (suc n) f g h = ap₂ (λ (xs ys : List ℤ). xs ++ ys) (flat-all-same n f g (λ k l. h k (omega arith))) (ap flat (h n (omega arith)))

-- ---- the opening

pub opening_met : (m : ℕ) → m ≤ 32 → (b : List ℕ) → each4095 m b ≡ true → meets m (opening m) b ≡ true
opening_met m few b e = opening-meets m few b (listed m b e)

pub some-opening : (m : ℕ) → m ≤ 32 → some_bids m (meets m (opening m)) ≡ true
some-opening m few = let q = listed-each m (tabulate m (λ i. 0) 1) (bids-make m (λ i. 0) 1 (λ k a b. omega arith)) in some-bids m (meets m (opening m)) (tabulate m (λ i. 0) 1) q (opening_met m few (tabulate m (λ i. 0) 1) q)

pub opening-table-fits : (m : ℕ) → m ≤ 32 → table_fits m (opening m) ≡ true
unfolding opening
opening-table-fits m few = table-fits m few (λ b. true) some
  where
    some : some_bids m (meets m (largest_table m (λ b. true))) ≡ true
    some = unfold opening in some-opening m few

-- ---- narrowing

-- a report that is explained is the demand of some bids: so it is within the items and says something
module _ (m : ℕ) (t : List (List ℤ)) (p : List ℕ) (d : Demand) (e : unexplained m t p d ≡ false) where
  pub explained-some : some_bids m (allows m t p d) ≡ true
  unfolding unexplained
  explained-some = not-false (some_bids m (allows m t p d)) e

  -- bids of 0 to 4,095 that meet the table and explain the report
  abbrev chosen : List ℕ
  chosen = choose 4095 m (allows m t p d)

  is-demand : d ≡ demand m p chosen
  unfolding allows explains
  is-demand = same-demand d (demand m p chosen) (and_right (meets m t chosen) (same_demand d (demand m p chosen)) (chosen-bids m (allows m t p d) explained-some).1)

  explained-small : d.items < 2 ^ m
  unfolding demand
  explained-small = member-lt m d.items (λ i. ltb 0 (amount chosen i) && best m p chosen i) (ap (λ (d : Demand). d.items) is-demand)

  explained-pivot : (l : ℕ) × Pivot m d l
  unfolding wants row
  explained-pivot =
      let w = demands-some m (chosen ∷ []) p 0 (omega (arith, demands-length m (chosen ∷ []) p)) in
      let own : nth (demands m (chosen ∷ []) p) 0 ≡ d = nth-demands m (chosen ∷ []) p 0 (omega arith) ∙ sym is-demand in
      go w.0 w.1 (sym (ap (λ (d : Demand). wants d w.0) own) ∙ w.2) d.null refl
    where
      go : (i : ℕ) → i < suc m → wants d i ≡ true → (b : Bool) → d.null ≡ b → (l : ℕ) × Pivot m d l
      go i l h true q = (0, at_null q)
      go zero l h false q = absurd (true≢false (sym h ∙ q))
      go (suc k) l h false q = (suc k, at_item k (omega arith) q h)

  -- law N: the bids that meet the narrowed table are those that met it before and explain the report
  module _ (few : m ≤ 32) (fit : table_fits m t ≡ true) (low : (i : ℕ) → amount p i ≤ 4095) where
    ranged : in_range m t ≡ true
    unfolding table_fits
    ranged = and_right (zero_beyond m t) (in_range m t) (and_left (zero_beyond m t && in_range m t) (some_bids m (meets m t)) fit)

    narrow-meets-by : (b : List ℕ) → each4095 m b ≡ true → meets m (narrowed m t p d) b ≡ allows m t p d b
    narrow-meets-by b q =
        narrows m few t ranged p low d explained-small explained-pivot.0 explained-pivot.1 explained-some b (listed m b q)

    narrow-fits-by : table_fits m (narrowed m t p d) ≡ true
    unfolding narrowed
    narrow-fits-by = table-fits m few (allows m t p d) (some_more m (allows m t p d) (meets m (largest_table m (allows m t p d))) (λ b q h. met b q ∙ h) explained-some)
      where
        met : (b : List ℕ) → each4095 m b ≡ true → meets m (largest_table m (allows m t p d)) b ≡ allows m t p d b
        met b q = unfold narrowed in narrow-meets-by b q

pub narrow-meets : (m : ℕ) → m ≤ 32 → (t : List (List ℤ)) → table_fits m t ≡ true → (p : List ℕ) → ((i : ℕ) → amount p i ≤ 4095) → (d : Demand)
    → unexplained m t p d ≡ false → (b : List ℕ) → each4095 m b ≡ true → meets m (narrowed m t p d) b ≡ allows m t p d b
narrow-meets m few t fit p low d e b = narrow-meets-by m t p d e few fit low b

pub narrow-fits : (m : ℕ) → m ≤ 32 → (t : List (List ℤ)) → table_fits m t ≡ true → (p : List ℕ) → ((i : ℕ) → amount p i ≤ 4095) → (d : Demand)
    → unexplained m t p d ≡ false → table_fits m (narrowed m t p d) ≡ true
narrow-fits m few t fit p low d e = narrow-fits-by m t p d e few fit low

-- ---- 19

-- bids that meet the table and explain the report: 19 does not apply
pub explained-by : (m : ℕ) (t : List (List ℤ)) (p : List ℕ) (d : Demand) (b : List ℕ) → each4095 m b ≡ true → allows m t p d b ≡ true → unexplained m t p d ≡ false
unfolding unexplained
explained-by m t p d b e h = ap not (some-bids m (allows m t p d) b e h)

-- a demand is explained by the bids whose demand it is
pub explains-own : (m : ℕ) (p b : List ℕ) → explains m p (demand m p b) b ≡ true
unfolding explains
explains-own m p b = same_self (demand m p b)

-- of a part that fits and a report that is asked
module _ (m : ℕ) (xs : List ℤ) (p : List ℕ) (d : Demand) (asked : is_asked m p d ≡ true) (fit : part_fits m xs ≡ true) where
  pub explains-when : part_explains m xs p d ≡ some_bids m (allows m (rows_of xs) p d)
  unfolding part_explains
  explains-when =
      ap (λ (a : Bool). a && part_fits m xs && some_bids m (allows m (rows_of xs) p d)) asked
      ∙ ap (λ (b : Bool). true && b && some_bids m (allows m (rows_of xs) p d)) fit

  pub unexplained-is : unexplained m (rows_of xs) p d ≡ not (part_explains m xs p d)
  unfolding unexplained
  unexplained-is = ap not (sym explains-when)

-- ---- of prices only those of the options count

module _ (m : ℕ) (p q : List ℕ) (h : (i : ℕ) → i ≤ m → amount p i ≡ amount q i) where
  allows-same : (t : List (List ℤ)) (d : Demand) → allows m t p d ≡ allows m t q d
  unfolding allows explains
  allows-same t d = fun_ext (λ b. ap (λ (e : Demand). meets m t b && same_demand d e) (demand-same m p q b h))

pub unexplained-same : (m : ℕ) (t : List (List ℤ)) (p q : List ℕ) (d : Demand) → ((i : ℕ) → i ≤ m → amount p i ≡ amount q i) → unexplained m t p d ≡ unexplained m t q d
unfolding unexplained
unexplained-same m t p q d h = ap (λ (f : List ℕ → Bool). not (some_bids m f)) (allows-same m p q h t d)

pub narrowed-same : (m : ℕ) (t : List (List ℤ)) (p q : List ℕ) (d : Demand) → ((i : ℕ) → i ≤ m → amount p i ≡ amount q i) → narrowed m t p d ≡ narrowed m t q d
unfolding narrowed
narrowed-same m t p q d h = ap (largest_table m) (allows-same m p q h t d)
