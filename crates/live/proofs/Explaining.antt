-- Bids that explain the reports of a record: their demands are the reports. So no end gives 17: where every report is explained by some bids of 0 to 4,095, an item of
-- the rising set is below a bid. THEORY.md 4.7. Assumes nothing.
use Prim.Native.Nat.{ℕ, suc, ◌≤◌, ◌<◌}
use mathlib.Core.Path.{◌≡◌, refl, sym, ap, ◌∙◌, subst}
use mathlib.Core.Bool.{Bool, true, false, ◌&&◌, not}
use mathlib.Core.List.{List, [], ◌∷◌}
use native.Mathlib.Omega.{arith}
use native.Mathlib.Nat.{zero-add}
use lib.Dec.{eqb}
use lib.ListN.{length}
use lib.IntN.{ℤ}
use borrow.Author.Tests.{eqb-true}
use Rattle.sets.specs.Bit.{has}
use Rattle.sets.specs.Lists.{tabulate}
use Rattle.sets.proofs.Counting.{and_left, and_right, any_none, any-use}
use Rattle.sets.proofs.Lists.{tabulate-at, tabulate-length, tabulate-same}
use Rattle.rule.specs.Sheet.{amount, row, each4095}
use Rattle.rule.specs.Demand.{Demand, demand, demands, nth}
use Rattle.rule.specs.Excess.{excess_demand}
use Rattle.rule.specs.Assignment.{choose}
use Rattle.rule.specs.Refusal.{on, first}
use Rattle.rule.proofs.AtPrices.{nth-demands, demands-length}
use Rattle.rule.proofs.Limits.{amounts, rows-most}
use Rattle.rule.proofs.Refusal.{past}
use Rattle.rule.proofs.Rising.{rising-below}
use Rattle.rule.proofs.Surplus.{bid_of}
use Rattle.round.specs.Reports.{reports}
use Rattle.round.proofs.Reporting.{tabulate-nth}
use Rattle.reports.proofs.Same.{same-demand}
use Rattle.differences.specs.Table.{meets}
use Rattle.differences.specs.Allowed.{explains, allows, unexplained}
use Rattle.differences.specs.Lent.{table_at}
use Rattle.differences.proofs.Laws.{explained-some, chosen-bids}
use Rattle.live.specs.Auction.{place, missing, reports_of, rising_set, well_formed}
use Rattle.live.specs.Tables.{bad_tables, tables_fit, unexplained_at, any_unexplained}
use Rattle.live.specs.Calls.{is_closed, is_falling, is_rising, at_top, end_number}
use Rattle.live.specs.declared.Auction.{Auction}

module _ (m : ℕ) (bids : List (List ℕ)) where
  -- bids that explain a report have it as their demand
  pub demand-is : (p : List ℕ) (d : Demand) (k : ℕ) → k < length bids → explains m p d (row bids k) ≡ true → nth (demands m bids p) k ≡ d
  unfolding explains
  demand-is p d k l e = nth-demands m bids p k l ∙ sym (same-demand d (demand m p (row bids k)) e)

  -- so where that is so of all bidders, the demands are the record's reports
  pub reports-from : (r : Auction) → r.bidders ≡ length bids → ((k : ℕ) → k < length bids → nth (demands m bids r.prices) k ≡ place r k) → demands m bids r.prices ≡ reports_of r
  unfolding reports_of reports place
  reports-from r en h =
      sym (tabulate-nth ds) ∙ ap (λ (x : ℕ). tabulate x (nth ds) 0) (demands-length m bids r.prices) ∙ tabulate-same (length bids) (nth ds) (place r) h
      ∙ ap (λ (x : ℕ). tabulate x (place r) 0) (sym en)
    where
      ds : List Demand
      ds = demands m bids r.prices

-- ---- 17

module _ (r : Auction) (ts : List ℤ) (known : any_unexplained r ts ≡ false) where
  abbrev m : ℕ
  m = r.items

  abbrev n : ℕ
  n = r.bidders

  abbrev chosen : ℕ → List ℕ
  chosen k = choose 4095 m (allows m (table_at ts k) r.prices (place r k))

  abbrev bids : List (List ℕ)
  bids = tabulate n chosen 0

  many : length bids ≡ n
  many = tabulate-length n chosen 0

  row_is : (k : ℕ) → k < n → row bids k ≡ chosen k
  unfolding row
  row_is k l = tabulate-at n chosen 0 k [] l ∙ ap chosen (zero-add k)

  told : (k : ℕ) → k < n → unexplained m (table_at ts k) r.prices (place r k) ≡ false
  unfolding any_unexplained unexplained_at
  told k l = any_none n (λ k. unexplained m (table_at ts k) r.prices (place r k)) known k l

  passes : (k : ℕ) → k < n → (each4095 m (row bids k) ≡ true) × (allows m (table_at ts k) r.prices (place r k) (row bids k) ≡ true)
  passes k l =
      subst (λ (b : List ℕ). (each4095 m b ≡ true) × (allows m (table_at ts k) r.prices (place r k) b ≡ true)) (sym (row_is k l))
      (chosen-bids m (allows m (table_at ts k) r.prices (place r k)) (explained-some m (table_at ts k) r.prices (place r k) (told k l)))

  reports_are : demands m bids r.prices ≡ reports_of r
  unfolding allows
  reports_are =
      reports-from m bids r (sym many) (λ k l. let lk : k < n = omega (arith, l, many) in
      demand-is m bids r.prices (place r k) k l (and_right (meets m (table_at ts k) (row bids k)) (explains m r.prices (place r k) (row bids k)) (passes k lk).1))

  bid-max : (b i : ℕ) → bid_of bids b i ≤ 4095
  unfolding bid_of
  bid-max = rows-most m bids (λ b l. amounts m (row bids b) (passes b (omega (arith, l, many))).0)

  pub none_at_top : at_top m r.prices (rising_set r) ≡ true → ⊥
  unfolding at_top rising_set
  none_at_top e =
      let w = any-use m (λ k. has (excess_demand m (reports_of r)) (suc k) && eqb (amount r.prices (suc k)) 4095) e in
      let raised : has (excess_demand m (reports_of r)) (suc w.0) ≡ true = and_left _ (eqb (amount r.prices (suc w.0)) 4095) w.2 in
      let top : amount r.prices (suc w.0) ≡ 4095 = eqb-true (amount r.prices (suc w.0)) 4095 (and_right (has (excess_demand m (reports_of r)) (suc w.0)) _ w.2) in
      let l : w.0 < m = w.1 in
      let below = rising-below m bids 4095 bid-max r.prices (suc w.0) (omega (arith, l)) (ap (λ (ds : List Demand). has (excess_demand m ds) (suc w.0)) reports_are ∙ raised) in
      omega (arith, below, top)

-- no end gives 17, whatever record and tables are lent
pub no_seventeen : (r : Auction) (ts : List ℤ) → end_number r ts ≡ 17 → ⊥
unfolding end_number
no_seventeen r ts q =
    let q₁ = past 11 17 (not (well_formed r)) _ q (λ w. omega arith) in
    let q₂ = past 3 17 (bad_tables r.bidders ts) _ q₁.1 (λ w. omega arith) in
    let q₃ = past 11 17 (not (tables_fit r ts)) _ q₂.1 (λ w. omega arith) in
    let q₄ = past 12 17 (is_closed r.phase) _ q₃.1 (λ w. omega arith) in
    let q₅ = past 14 17 (missing r) _ q₄.1 (λ w. omega arith) in
    let q₆ = past 19 17 (any_unexplained r ts) _ q₅.1 (λ w. omega arith) in
    let q₇ = past 16 17 (is_falling r.phase && not (eqb (rising_set r) 0)) _ q₆.1 (λ w. omega arith) in
    last (is_rising r.phase && at_top r.items r.prices (rising_set r)) refl q₆.0 q₇.1
  where
    last : (b : Bool) → is_rising r.phase && at_top r.items r.prices (rising_set r) ≡ b → any_unexplained r ts ≡ false → first (on 17 b ∷ []) ≡ 17 → ⊥
    last true e known h = none_at_top r ts known (and_right (is_rising r.phase) (at_top r.items r.prices (rising_set r)) e)
    last false e known h = let z : first (on 17 false ∷ []) ≡ 0 = unfold first in refl in omega (arith, z, h)
