-- The machine's tables: every one is a table of largest differences, fits, and is met by the sheet's own bids, so that 19 never applies to the sheet's own
-- demand; and beside the record that stands for the machine's state, 19 and the narrowed tables are the machine's. Assumes nothing.
use Prim.Native.Nat.{ℕ, suc, ◌*◌, ◌≤◌, ◌<◌}
use mathlib.Core.Path.{◌≡◌, refl, sym, ap, ◌∙◌}
use mathlib.Core.Bool.{Bool, true, false}
use mathlib.Core.List.{List}
use native.Mathlib.Omega.{arith}
use lib.Dec.{leb, eqb}
use lib.ListN.{length}
use lib.IntN.{ℤ}
use borrow.Author.Tests.{le-leb, eq-eqb}
use Rattle.sets.specs.Count.{all_below, any_below}
use Rattle.sets.proofs.Counting.{and_both, all-make, any-cong, any_false}
use Rattle.rule.specs.Sheet.{amount, row, Sheet, each4095}
use Rattle.rule.specs.Demand.{Demand, nth}
use Rattle.rule.specs.Closing.{demands_at, Closing}
use Rattle.rule.proofs.AtPrices.{nth-demands}
use Rattle.rule.proofs.Limits.{Limits}
use Rattle.differences.specs.Table.{meets, largest_table, opening, table_fits}
use Rattle.differences.specs.Allowed.{explains, allows, narrowed, unexplained}
use Rattle.differences.specs.Lent.{table_at, flat_all}
use Rattle.differences.proofs.Laws.{tables-length, tables-at, opening-table-fits, opening_met, narrow-meets, narrow-fits, explained-by, explains-own, unexplained-same, narrowed-same, flat-all-same}
use Rattle.live.specs.Auction.{place}
use Rattle.live.specs.declared.Auction.{Auction}
use Rattle.live.specs.Tables.{bad_tables, tables_fit, open_tables, unexplained_at, any_unexplained, narrowed_tables}
use Rattle.live.proofs.Opening.{tables-exact}
use Rattle.agreement.specs.Machine.{Machine, begin, at, said, demands_stand, unexplained_by, narrowed_on}
use Rattle.agreement.specs.Agreement.{stands_for, tables_of}
use Rattle.agreement.proofs.Standing.{each_stands, place_is, prices-same}

-- what the machine's tables keep; `test` is what the bids that a table is of have passed
pub record Tabled (s : Sheet) (tables : ℕ → List (List ℤ)) : Type 0 where
  pub test : ℕ → List ℕ → Bool
  pub largest : (k : ℕ) → tables k ≡ largest_table s.items (test k)
  pub fits : (k : ℕ) → k < length s.bids → table_fits s.items (tables k) ≡ true
  pub met : (k : ℕ) → k < length s.bids → meets s.items (tables k) (row s.bids k) ≡ true

-- the bids of a sheet within the limits are of 0 to 4,095
pub row_within : (s : Sheet) → Limits s → (k : ℕ) → k < length s.bids → each4095 s.items (row s.bids k) ≡ true
unfolding each4095
row_within s lim k l =
    let a = lim.rows k l in
    and_both (eqb (length (row s.bids k)) s.items) (all_below s.items (λ i. leb (amount (row s.bids k) (suc i)) 4095)) (eq-eqb (length (row s.bids k)) s.items a.long)
    (all-make s.items (λ i. leb (amount (row s.bids k) (suc i)) 4095) (λ i q. le-leb (amount (row s.bids k) (suc i)) 4095 (a.most (suc i))))

-- ---- at first

pub begin-tabled : (s : Sheet) → Limits s → Tabled s (begin s).tables
unfolding begin
begin-tabled s lim =
    record {
      test = λ k b. true;
      largest = λ k. unfold opening in refl;
      fits = λ k l. opening-table-fits s.items lim.max_items;
      met = λ k l. opening_met s.items lim.max_items (row s.bids k) (row_within s lim k l);
    }

pub begin-tables : (s : Sheet) → open_tables s.items (length s.bids) ≡ tables_of s (begin s)
unfolding open_tables tables_of begin
begin-tables s = refl

module _ (s : Sheet) (t : Machine) (g : Tabled s t.tables) where
  abbrev m : ℕ
  m = s.items

  abbrev n : ℕ
  n = length s.bids

  -- the record that stands for the state
  abbrev r : Auction
  r = stands_for s t

  abbrev ts : List ℤ
  ts = tables_of s t

  abbrev p : List ℕ
  p = (at s t).prices

  -- ---- joined

  by_tests : tables_of s t ≡ flat_all n (λ k. largest_table m (g.test k))
  unfolding tables_of
  by_tests = flat-all-same n t.tables (λ k. largest_table m (g.test k)) (λ k l. g.largest k)

  pub tables_long : length (tables_of s t) ≡ n * 1089
  tables_long = ap length by_tests ∙ tables-length m n g.test

  pub table-at : (k : ℕ) → k < n → table_at (tables_of s t) k ≡ t.tables k
  table-at k l = ap (λ (xs : List ℤ). table_at xs k) by_tests ∙ tables-at m n g.test k l ∙ sym (g.largest k)

  -- neither 3 nor 11 applies to them
  pub not-bad : bad_tables (stands_for s t).bidders (tables_of s t) ≡ false
  unfolding stands_for
  not-bad = tables-exact n ts tables_long

  pub tables-fit : tables_fit (stands_for s t) (tables_of s t) ≡ true
  unfolding tables_fit stands_for
  tables-fit = all-make n (λ k. table_fits m (table_at ts k)) (λ k l. ap (table_fits m) (table-at k l) ∙ g.fits k l)

  -- ---- 19

  module _ (lim : Limits s) where
    pub nineteen_is : (k : ℕ) → k < n → (d : Demand) → unexplained_at (stands_for s t) (tables_of s t) k d ≡ unexplained_by s t k d
    unfolding unexplained_at unexplained_by
    nineteen_is k l d =
        let items : r.items ≡ m = unfold stands_for in refl in
        ap (λ (x : ℕ). unexplained x (table_at ts k) r.prices d) items
        ∙ ap (λ (x : List (List ℤ)). unexplained m x r.prices d) (table-at k l)
        ∙ unexplained-same m (t.tables k) r.prices p d (prices-same s t lim.max_items)

    place-now : (k : ℕ) → k < n → place r k ≡ said (t.standing (suc k))
    place-now k l = let max = lim.max_bidders in place_is s t k (omega arith)

    pub nineteen-all : any_unexplained (stands_for s t) (tables_of s t) ≡ any_below n (λ k. unexplained_by s t k (said (t.standing (suc k))))
    unfolding any_unexplained stands_for
    nineteen-all =
        any-cong n (λ k. unexplained_at r ts k (place r k)) (λ k. unexplained_by s t k (said (t.standing (suc k))))
        (λ k l. ap (unexplained_at r ts k) (place-now k l) ∙ nineteen_is k l (said (t.standing (suc k))))

    -- the sheet's own bids meet their table and explain their own demand
    own-allowed : (k : ℕ) → k < n → allows m (t.tables k) p (nth (demands_at s p) k) (row s.bids k) ≡ true
    unfolding allows
    own-allowed k l =
        and_both (meets m (t.tables k) (row s.bids k)) (explains m p (nth (demands_at s p) k) (row s.bids k)) (g.met k l)
        (ap (λ (d : Demand). explains m p d (row s.bids k)) (nth-demands m s.bids p k l) ∙ explains-own m p (row s.bids k))

    -- so 19 does not apply to it
    pub own-explained : (k : ℕ) → k < n → unexplained_by s t k (nth (demands_at s (at s t).prices) k) ≡ false
    unfolding unexplained_by
    own-explained k l = explained-by m (t.tables k) p (nth (demands_at s p) k) (row s.bids k) (row_within s lim k l) (own-allowed k l)

    pub not-nineteen : demands_stand s t ≡ true → any_below n (λ k. unexplained_by s t k (said (t.standing (suc k)))) ≡ false
    not-nineteen h = any_false n (λ k. unexplained_by s t k (said (t.standing (suc k)))) (λ k l. ap (unexplained_by s t k) (each_stands s t h k l).1 ∙ own-explained k l)

    -- ---- after a move

    pub moved-tabled : Closing s → Tabled s (narrowed_on s t)
    unfolding narrowed_on narrowed
    moved-tabled c =
        record {
          test = λ k. allows m (t.tables k) p (nth (demands_at s p) k);
          largest = λ k. refl;
          fits = λ k l. narrow-fits m lim.max_items (t.tables k) (g.fits k l) p most (nth (demands_at s p) k) (known k l);
          met = λ k l. narrow-meets m lim.max_items (t.tables k) (g.fits k l) p most (nth (demands_at s p) k) (known k l) (row s.bids k) (row_within s lim k l) ∙ own-allowed k l;
        }
      where
        most : (i : ℕ) → amount p i ≤ 4095
        most i = unfold at in c.range t.moves i

        known : (k : ℕ) → k < n → unexplained m (t.tables k) p (nth (demands_at s p) k) ≡ false
        known k l = unfold unexplained_by in own-explained k l

    pub narrowed_is : demands_stand s t ≡ true → narrowed_tables (stands_for s t) (tables_of s t) ≡ flat_all n (narrowed_on s t)
    unfolding narrowed_tables stands_for
    narrowed_is h = flat-all-same n (λ k. narrowed m (table_at ts k) r.prices (place r k)) (narrowed_on s t) one
      where
        one : (k : ℕ) → k < n → narrowed m (table_at ts k) r.prices (place r k) ≡ narrowed_on s t k
        one k l =
            ap (λ (x : List (List ℤ)). narrowed m x r.prices (place r k)) (table-at k l)
            ∙ ap (narrowed m (t.tables k) r.prices) (place-now k l ∙ (each_stands s t h k l).1)
            ∙ narrowed-same m (t.tables k) r.prices p (nth (demands_at s p) k) (prices-same s t lim.max_items)
            ∙ (unfold narrowed_on in refl)
