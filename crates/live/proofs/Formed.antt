-- A well formed record, taken apart into what its clauses say, and put together again. Assumes nothing.
use Prim.Native.Nat.{ℕ, zero, suc, ◌≤◌, ◌<◌}
use mathlib.Core.Path.{◌≡◌, refl, ap}
use mathlib.Core.Bool.{Bool, true, false, ◌&&◌, not}
use mathlib.Core.List.{List}
use native.Mathlib.Omega.{arith}
use native.Mathlib.Decide.{dec_le}
use lib.Dec.{eqb, leb}
use lib.ListN.{length, get_or, get_or-eq_default}
use borrow.Author.Tests.{le-leb, leb-true, eqb-true, eq-eqb}
use Rattle.sets.specs.Count.{◌⇒◌, all_below}
use Rattle.sets.proofs.Counting.{and_left, and_right, and_both, all-use, all-make, imp_use, imp-make, not_is, together}
use Rattle.rule.specs.Sheet.{amount}
use Rattle.rule.specs.Refusal.{bad_items, most_live_bidders, bad_live_bidders, any_over, any_under}
use Rattle.rule.proofs.Refusal.{in-range, range-in, none-over, over-not, none-under, under-not}
use Rattle.reports.specs.Report.{is_empty, beyond, unfit}
use Rattle.live.specs.Auction.{place, has_reported, counts_fit, prices_fit, unused_prices, floors_fit, from_floors, unused_floors, unused_places, unused_bits, reported_fit, others_empty, rounds_fit, close_fits, well_formed}
use Rattle.live.specs.Tidy.{Tidy}
use Rattle.live.specs.declared.Auction.{Auction}

-- ---- no price, or floor, is above 4,095

pub not-over : (xs : List ℕ) → any_over xs ≡ false → (i : ℕ) → amount xs i ≤ 4095
not-over xs e zero = unfold amount in omega arith
not-over xs e (suc k) = unfold amount in go (dec_le (length xs) k)
  where
    go : Dec (length xs ≤ k) → get_or xs k 0 ≤ 4095
    go (yes l) = let z : get_or xs k 0 ≡ 0 = get_or-eq_default xs 0 l in omega arith
    go (no l) = none-over xs e k (omega arith)

pub not-any-over : (xs : List ℕ) → ((i : ℕ) → amount xs i ≤ 4095) → any_over xs ≡ false
not-any-over xs h = over-not xs (λ k l. unfold amount in h (suc k))

-- ---- prices, or floors, past the items are 0

abbrev unused : ℕ → List ℕ → Bool
unused m xs = all_below 32 λ k. leb m k ⇒ eqb (amount xs (suc k)) 0

unused-use : (m : ℕ) (xs : List ℕ) → unused m xs ≡ true → (k : ℕ) → k < 32 → m ≤ k → amount xs (suc k) ≡ 0
unused-use m xs e k l h =
    eqb-true (amount xs (suc k)) 0 (imp_use (leb m k) (eqb (amount xs (suc k)) 0) (all-use 32 (λ k. leb m k ⇒ eqb (amount xs (suc k)) 0) e k l) (le-leb m k h))

unused-make : (m : ℕ) (xs : List ℕ) → ((k : ℕ) → k < 32 → m ≤ k → amount xs (suc k) ≡ 0) → unused m xs ≡ true
unused-make m xs f =
    all-make 32 (λ k. leb m k ⇒ eqb (amount xs (suc k)) 0)
    (λ k l. imp-make (leb m k) (eqb (amount xs (suc k)) 0) (λ h. eq-eqb (amount xs (suc k)) 0 (f k l (leb-true m k h))))

-- ---- the clauses

pub record Formed (r : Auction) : Type 0 where
  pub some_item : 1 ≤ r.items
  pub max_items : r.items ≤ 32
  pub some-bidder : 1 ≤ r.bidders
  pub max_bidders : r.bidders ≤ most_live_bidders
  pub price-max : (i : ℕ) → amount r.prices i ≤ 4095
  pub unused-price : (k : ℕ) → k < 32 → r.items ≤ k → amount r.prices (suc k) ≡ 0
  pub floor-max : (i : ℕ) → amount r.floors i ≤ 4095
  pub floor-le : (i : ℕ) → amount r.floors i ≤ amount r.prices i
  pub unused-floor : (k : ℕ) → k < 32 → r.items ≤ k → amount r.floors (suc k) ≡ 0
  pub unused-place : (k : ℕ) → k < 64 → r.bidders ≤ k → (is_empty (place r k) ≡ true) × (has_reported r (suc k) ≡ false)
  pub within : (k : ℕ) → k < 64 → beyond r.items (place r k) ≡ false
  pub reported-fit : (k : ℕ) → k < r.bidders → has_reported r (suc k) ≡ true → unfit r.items (place r k) ≡ false
  pub other-empty : (k : ℕ) → k < r.bidders → has_reported r (suc k) ≡ false → is_empty (place r k) ≡ true
  pub rounds : rounds_fit r.phase r ≡ true
  pub at_close : close_fits r.phase r ≡ true

-- the clauses apart
pub record Clauses (r : Auction) : Type 0 where
  pub counts : counts_fit r ≡ true
  pub prices : prices_fit r ≡ true
  pub past-items : unused_prices r ≡ true
  pub floors : floors_fit r ≡ true
  pub from-floors : from_floors r ≡ true
  pub past-floors : unused_floors r ≡ true
  pub past-bidders : unused_places r ≡ true
  pub past-bits : unused_bits r ≡ true
  pub reported : reported_fit r ≡ true
  pub others : others_empty r ≡ true
  pub rounds : rounds_fit r.phase r ≡ true
  pub at_close : close_fits r.phase r ≡ true

twelve : (a b c d e f g h i j k l : Bool) → a && b && c && d && e && f && g && h && i && j && k && l ≡ true
    → (a ≡ true) × (b ≡ true) × (c ≡ true) × (d ≡ true) × (e ≡ true) × (f ≡ true) × (g ≡ true) × (h ≡ true) × (i ≡ true) × (j ≡ true) × (k ≡ true) × (l ≡ true)
twelve a b c d e f g h i j k l q =
    let q11 = and_left (a && b && c && d && e && f && g && h && i && j && k) l q in
    let q10 = and_left (a && b && c && d && e && f && g && h && i && j) k q11 in
    let q9 = and_left (a && b && c && d && e && f && g && h && i) j q10 in
    let q8 = and_left (a && b && c && d && e && f && g && h) i q9 in
    let q7 = and_left (a && b && c && d && e && f && g) h q8 in
    let q6 = and_left (a && b && c && d && e && f) g q7 in
    let q5 = and_left (a && b && c && d && e) f q6 in
    let q4 = and_left (a && b && c && d) e q5 in
    let q3 = and_left (a && b && c) d q4 in
    let q2 = and_left (a && b) c q3 in (
      and_left a b q2,
      and_right a b q2,
      and_right (a && b) c q3,
      and_right (a && b && c) d q4,
      and_right (a && b && c && d) e q5,
      and_right (a && b && c && d && e) f q6,
      and_right (a && b && c && d && e && f) g q7,
      and_right (a && b && c && d && e && f && g) h q8,
      and_right (a && b && c && d && e && f && g && h) i q9,
      and_right (a && b && c && d && e && f && g && h && i) j q10,
      and_right (a && b && c && d && e && f && g && h && i && j) k q11,
      and_right (a && b && c && d && e && f && g && h && i && j && k) l q,
    )

pub clauses : (r : Auction) → well_formed r ≡ true → Clauses r
unfolding well_formed
clauses r e =
    let p = twelve (counts_fit r) (prices_fit r) (unused_prices r) (floors_fit r) (from_floors r) (unused_floors r) (unused_places r) (unused_bits r) (reported_fit r) (others_empty r) (rounds_fit r.phase r) (close_fits r.phase r) e in
    record {
      counts = p.0;
      prices = p.1;
      past-items = p.2;
      floors = p.3;
      from-floors = p.4;
      past-floors = p.5;
      past-bidders = p.6;
      past-bits = p.7;
      reported = p.8;
      others = p.9;
      rounds = p.10;
      at_close = p.11;
    }

pub tidy : (r : Auction) → well_formed r ≡ true → Tidy r
tidy r e = let c = clauses r e in record { counts = c.counts; prices = c.past-items; places = c.past-bidders; bits = c.past-bits }

all_true : (a b c d e f g h i j k l : Bool) → a ≡ true → b ≡ true → c ≡ true → d ≡ true → e ≡ true → f ≡ true → g ≡ true → h ≡ true → i ≡ true → j ≡ true → k ≡ true → l ≡ true
    → a && b && c && d && e && f && g && h && i && j && k && l ≡ true
all_true a b c d e f g h i j k l qa qb qc qd qe qf qg qh qi qj qk ql = rw (qa, qb, qc, qd, qe, qf, qg, qh, qi, qj, qk, ql) refl

joined : (r : Auction) → Clauses r → well_formed r ≡ true
unfolding well_formed
joined r c =
    all_true (counts_fit r) (prices_fit r) (unused_prices r) (floors_fit r) (from_floors r) (unused_floors r) (unused_places r) (unused_bits r) (reported_fit r) (others_empty r) (rounds_fit r.phase r) (close_fits r.phase r)
    c.counts c.prices c.past-items c.floors c.from-floors c.past-floors c.past-bidders c.past-bits c.reported c.others c.rounds c.at_close

module _ (r : Auction) where
  pub items-range : counts_fit r ≡ true → (1 ≤ r.items) × (r.items ≤ 32)
  unfolding counts_fit bad_items
  items-range e = in-range 32 r.items (not_is (bad_items r.items) (and_left (not (bad_items r.items)) (not (bad_live_bidders r.bidders)) e))

  pub bidders-range : counts_fit r ≡ true → (1 ≤ r.bidders) × (r.bidders ≤ most_live_bidders)
  unfolding counts_fit bad_live_bidders
  bidders-range e = in-range most_live_bidders r.bidders (not_is (bad_live_bidders r.bidders) (and_right (not (bad_items r.items)) (not (bad_live_bidders r.bidders)) e))

  -- so there is a place for each bidder
  pub bidders-placed : counts_fit r ≡ true → r.bidders ≤ 64
  bidders-placed e = omega (arith, (bidders-range e).1)

  counts-make : 1 ≤ r.items → r.items ≤ 32 → 1 ≤ r.bidders → r.bidders ≤ most_live_bidders → counts_fit r ≡ true
  unfolding counts_fit bad_items bad_live_bidders
  counts-make a b c d =
      and_both (not (bad_items r.items)) (not (bad_live_bidders r.bidders)) (ap not (range-in 32 r.items a b)) (ap not (range-in most_live_bidders r.bidders c d))

  pub prices-use : prices_fit r ≡ true → (i : ℕ) → amount r.prices i ≤ 4095
  unfolding prices_fit
  prices-use e = not-over r.prices (not_is (any_over r.prices) e)

  prices-make : ((i : ℕ) → amount r.prices i ≤ 4095) → prices_fit r ≡ true
  unfolding prices_fit
  prices-make h = ap not (not-any-over r.prices h)

  pub past-items-use : unused_prices r ≡ true → (k : ℕ) → k < 32 → r.items ≤ k → amount r.prices (suc k) ≡ 0
  unfolding unused_prices
  past-items-use = unused-use r.items r.prices

  pub past-items-make : ((k : ℕ) → k < 32 → r.items ≤ k → amount r.prices (suc k) ≡ 0) → unused_prices r ≡ true
  unfolding unused_prices
  past-items-make = unused-make r.items r.prices

  -- ---- the floors

  floors-use : floors_fit r ≡ true → (i : ℕ) → amount r.floors i ≤ 4095
  unfolding floors_fit
  floors-use e = not-over r.floors (not_is (any_over r.floors) e)

  floors-make : ((i : ℕ) → amount r.floors i ≤ 4095) → floors_fit r ≡ true
  unfolding floors_fit
  floors-make h = ap not (not-any-over r.floors h)

  from-floors-use : from_floors r ≡ true → (i : ℕ) → amount r.floors i ≤ amount r.prices i
  unfolding from_floors amount
  from-floors-use e zero = omega arith
  from-floors-use e (suc k) = none-under r.prices r.floors (not_is (any_under r.prices r.floors) e) k

  from-floors-make : ((i : ℕ) → amount r.floors i ≤ amount r.prices i) → from_floors r ≡ true
  unfolding from_floors amount
  from-floors-make h = ap not (under-not r.prices r.floors (λ k l. h (suc k)))

  past-floors-use : unused_floors r ≡ true → (k : ℕ) → k < 32 → r.items ≤ k → amount r.floors (suc k) ≡ 0
  unfolding unused_floors
  past-floors-use = unused-use r.items r.floors

  past-floors-make : ((k : ℕ) → k < 32 → r.items ≤ k → amount r.floors (suc k) ≡ 0) → unused_floors r ≡ true
  unfolding unused_floors
  past-floors-make = unused-make r.items r.floors

  -- where no price exceeds 4,095 and every unused one is 0, the same goes for floors that no price is below: one clause is all three
  pub floors-clauses : prices_fit r ≡ true → unused_prices r ≡ true → from_floors r ≡ floors_fit r && from_floors r && unused_floors r
  floors-clauses p u = together (from_floors r) (floors_fit r && from_floors r && unused_floors r) all_three one
    where
      all_three : from_floors r ≡ true → floors_fit r && from_floors r && unused_floors r ≡ true
      all_three e =
          let low = from-floors-use e in
          and_both (floors_fit r && from_floors r) (unused_floors r) (and_both (floors_fit r) (from_floors r) (floors-make (λ i. omega (arith, low i, prices-use p i))) e)
          (past-floors-make (λ k l h. omega (arith, low (suc k), past-items-use u k l h)))

      one : floors_fit r && from_floors r && unused_floors r ≡ true → from_floors r ≡ true
      one e = and_right (floors_fit r) (from_floors r) (and_left (floors_fit r && from_floors r) (unused_floors r) e)

  -- ---- the reports

  abbrev vacant : ℕ → Bool
  vacant k = is_empty (place r k) && not (has_reported r (suc k))

  pub past-bidders-use : unused_places r ≡ true → (k : ℕ) → k < 64 → r.bidders ≤ k → (is_empty (place r k) ≡ true) × (has_reported r (suc k) ≡ false)
  unfolding unused_places
  past-bidders-use e k l h =
      let q = imp_use (leb r.bidders k) (vacant k) (all-use 64 (λ k. leb r.bidders k ⇒ vacant k) e k l) (le-leb r.bidders k h) in (
        and_left (is_empty (place r k)) (not (has_reported r (suc k))) q,
        not_is (has_reported r (suc k)) (and_right (is_empty (place r k)) (not (has_reported r (suc k))) q),
      )

  pub past-bidders-make : ((k : ℕ) → k < 64 → r.bidders ≤ k → (is_empty (place r k) ≡ true) × (has_reported r (suc k) ≡ false)) → unused_places r ≡ true
  unfolding unused_places
  past-bidders-make f =
      all-make 64 (λ k. leb r.bidders k ⇒ vacant k)
      (λ k l. imp-make (leb r.bidders k) (vacant k)
      (λ h. and_both (is_empty (place r k)) (not (has_reported r (suc k))) (f k l (leb-true r.bidders k h)).0 (ap not (f k l (leb-true r.bidders k h)).1)))

  pub bits-use : unused_bits r ≡ true → (k : ℕ) → k < 64 → beyond r.items (place r k) ≡ false
  unfolding unused_bits
  bits-use e k l = not_is (beyond r.items (place r k)) (all-use 64 (λ k. not (beyond r.items (place r k))) e k l)

  pub bits-make : ((k : ℕ) → k < 64 → beyond r.items (place r k) ≡ false) → unused_bits r ≡ true
  unfolding unused_bits
  bits-make f = all-make 64 (λ k. not (beyond r.items (place r k))) (λ k l. ap not (f k l))

  pub reported-use : reported_fit r ≡ true → (k : ℕ) → k < r.bidders → has_reported r (suc k) ≡ true → unfit r.items (place r k) ≡ false
  unfolding reported_fit
  reported-use e k l h =
      not_is (unfit r.items (place r k))
      (imp_use (has_reported r (suc k)) (not (unfit r.items (place r k))) (all-use r.bidders (λ k. has_reported r (suc k) ⇒ not (unfit r.items (place r k))) e k l) h)

  pub reported-make : ((k : ℕ) → k < r.bidders → has_reported r (suc k) ≡ true → unfit r.items (place r k) ≡ false) → reported_fit r ≡ true
  unfolding reported_fit
  reported-make f =
      all-make r.bidders (λ k. has_reported r (suc k) ⇒ not (unfit r.items (place r k)))
      (λ k l. imp-make (has_reported r (suc k)) (not (unfit r.items (place r k))) (λ h. ap not (f k l h)))

  pub others-use : others_empty r ≡ true → (k : ℕ) → k < r.bidders → has_reported r (suc k) ≡ false → is_empty (place r k) ≡ true
  unfolding others_empty
  others-use e k l h =
      imp_use (not (has_reported r (suc k))) (is_empty (place r k)) (all-use r.bidders (λ k. not (has_reported r (suc k)) ⇒ is_empty (place r k)) e k l) (ap not h)

  pub others-make : ((k : ℕ) → k < r.bidders → has_reported r (suc k) ≡ false → is_empty (place r k) ≡ true) → others_empty r ≡ true
  unfolding others_empty
  others-make f =
      all-make r.bidders (λ k. not (has_reported r (suc k)) ⇒ is_empty (place r k))
      (λ k l. imp-make (not (has_reported r (suc k))) (is_empty (place r k)) (λ h. f k l (not_is (has_reported r (suc k)) h)))

  pub formed : well_formed r ≡ true → Formed r
  formed e =
      let c = clauses r e in
      record {
        some_item = (items-range c.counts).0;
        max_items = (items-range c.counts).1;
        some-bidder = (bidders-range c.counts).0;
        max_bidders = (bidders-range c.counts).1;
        price-max = prices-use c.prices;
        unused-price = past-items-use c.past-items;
        floor-max = floors-use c.floors;
        floor-le = from-floors-use c.from-floors;
        unused-floor = past-floors-use c.past-floors;
        unused-place = past-bidders-use c.past-bidders;
        within = bits-use c.past-bits;
        reported-fit = reported-use c.reported;
        other-empty = others-use c.others;
        rounds = c.rounds;
        at_close = c.at_close;
      }

  pub well : Formed r → well_formed r ≡ true
  well f =
      joined r
      (record {
        counts = counts-make f.some_item f.max_items f.some-bidder f.max_bidders;
        prices = prices-make f.price-max;
        past-items = past-items-make f.unused-price;
        floors = floors-make f.floor-max;
        from-floors = from-floors-make f.floor-le;
        past-floors = past-floors-make f.unused-floor;
        past-bidders = past-bidders-make f.unused-place;
        past-bits = bits-make f.within;
        reported = reported-make f.reported-fit;
        others = others-make f.other-empty;
        rounds = f.rounds;
        at_close = f.at_close;
      })
