-- The lent tables beside a record: the opening's fit, and a move's fit if those before it did and 19 did not apply. Assumes nothing.
use Prim.Native.Nat.{ℕ, ◌*◌, ◌≤◌, ◌<◌}
use mathlib.Core.Path.{◌≡◌, ap, ◌∙◌}
use mathlib.Core.Bool.{true, false}
use mathlib.Core.List.{List}
use lib.ListN.{length}
use lib.IntN.{ℤ}
use Rattle.sets.proofs.Counting.{all-use, all-make, any_none}
use Rattle.rule.specs.Round.{Round, raised, lowered, closed}
use Rattle.differences.specs.Table.{opening, table_fits}
use Rattle.differences.specs.Allowed.{allows, narrowed, unexplained}
use Rattle.differences.specs.Lent.{table_at}
use Rattle.differences.proofs.Laws.{tables-length, tables-at, opening-table-fits, narrow-fits}
use Rattle.live.specs.Auction.{place}
use Rattle.live.specs.Tables.{tables_fit, open_tables, unexplained_at, any_unexplained, narrowed_tables}
use Rattle.live.specs.Calls.{settled, narrowed_by}
use Rattle.live.specs.declared.Auction.{Auction}
use Rattle.live.proofs.Formed.{Formed}

-- ---- the opening's

pub open-long : (m n : ℕ) → length (open_tables m n) ≡ n * 1089
unfolding open_tables opening
open-long m n = tables-length m n (λ k b. true)

pub open_at : (m n k : ℕ) → k < n → table_at (open_tables m n) k ≡ opening m
unfolding open_tables opening
open_at m n k l = tables-at m n (λ k b. true) k l

pub open-fit : (r : Auction) → r.items ≤ 32 → tables_fit r (open_tables r.items r.bidders) ≡ true
unfolding tables_fit
open-fit r few =
    all-make r.bidders (λ k. table_fits r.items (table_at (open_tables r.items r.bidders) k))
    (λ k l. ap (table_fits r.items) (open_at r.items r.bidders k l) ∙ opening-table-fits r.items few)

-- ---- a move's

module _ (r : Auction) (ts : List ℤ) where
  pub fit_at : tables_fit r ts ≡ true → (k : ℕ) → k < r.bidders → table_fits r.items (table_at ts k) ≡ true
  unfolding tables_fit
  fit_at e = all-use r.bidders (λ k. table_fits r.items (table_at ts k)) e

  pub explained-at : any_unexplained r ts ≡ false → (k : ℕ) → k < r.bidders → unexplained r.items (table_at ts k) r.prices (place r k) ≡ false
  unfolding any_unexplained unexplained_at
  explained-at e = any_none r.bidders (λ k. unexplained r.items (table_at ts k) r.prices (place r k)) e

  pub narrowed-long : length (narrowed_tables r ts) ≡ r.bidders * 1089
  unfolding narrowed_tables narrowed
  narrowed-long = tables-length r.items r.bidders (λ k. allows r.items (table_at ts k) r.prices (place r k))

  pub narrowed_at : (k : ℕ) → k < r.bidders → table_at (narrowed_tables r ts) k ≡ narrowed r.items (table_at ts k) r.prices (place r k)
  unfolding narrowed_tables narrowed
  narrowed_at k l = tables-at r.items r.bidders (λ k. allows r.items (table_at ts k) r.prices (place r k)) k l

  module _ (f : Formed r) (fit : tables_fit r ts ≡ true) (known : any_unexplained r ts ≡ false) where
    pub narrowed-fit : tables_fit r (narrowed_tables r ts) ≡ true
    unfolding tables_fit
    narrowed-fit =
        all-make r.bidders (λ k. table_fits r.items (table_at (narrowed_tables r ts) k))
        (λ k l. ap (table_fits r.items) (narrowed_at k l)
        ∙ narrow-fits r.items f.max_items (table_at ts k) (fit_at fit k l) r.prices f.price-max (place r k) (explained-at known k l))

    -- the tables after a round, beside the record after it
    pub after-fit : (x : Round) → tables_fit (settled r x) (narrowed_by r ts x) ≡ true
    unfolding settled narrowed_by tables_fit
    after-fit (raised x) = narrowed-fit
    after-fit (lowered x) = narrowed-fit
    after-fit closed = fit

  pub after-long : length ts ≡ r.bidders * 1089 → (x : Round) → length (narrowed_by r ts x) ≡ (settled r x).bidders * 1089
  unfolding settled narrowed_by
  after-long e (raised x) = narrowed-long
  after-long e (lowered x) = narrowed-long
  after-long e closed = e
