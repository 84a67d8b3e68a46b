-- The lent tables of all bidders, part after part: what `differences` says of one bidder's part, and what a loop over the bidders keeps. Assumes nothing.
use Prim.Native.Nat.{ℕ, suc, ◌+◌, ◌*◌, ◌-◌, ◌≤◌, ◌<◌}
use mathlib.Core.Path.{◌≡◌, refl, sym, ap, ◌∙◌}
use mathlib.Core.Bool.{Bool, true, false, ◌&&◌, not, cond}
use mathlib.Core.List.{List, ◌++◌, append_assoc}
use native.Mathlib.Omega.{arith}
use native.Mathlib.Numerals.{add-one}
use lib.Dec.{leb, eqb}
use lib.ListN.{length, get_or, take, drop, length-append, length-drop}
use lib.Seq.{take_at, take_all, length-take-le, drop-drop}
use lib.IntN.{ℤ}
use borrow.Author.Tests.{le-leb, eq-eqb, not-false}
use borrow.Rule.Slice.PartMut.{mid_of, post_of, put_mid, drop_put}
use Rattle.sets.specs.Bit.{has}
use Rattle.sets.proofs.Tests.{and_both, all-use, any_none}
use Rattle.rule.specs.Demand.{Demand}
use Rattle.rule.specs.Refusal.{any_over}
use Rattle.reports.specs.Report.{saying, unfit}
use Rattle.differences.specs.Table.{opening, table_fits}
use Rattle.differences.specs.Allowed.{narrowed}
use Rattle.differences.specs.Lent.{flat, rows_of, part, table_at, flat_all, is_part, is_asked, filled, part_fits, part_explains, part_narrowed}
use Rattle.differences.proofs.Laws.{unexplained-is}
use Rattle.live.specs.Auction.{place, has_reported, missing, prices_fit, well_formed}
use Rattle.live.specs.Tables.{bad_tables, tables_fit, unexplained_at, any_unexplained}
use Rattle.live.specs.Tidy.{Ready, Fit}
use Rattle.live.specs.declared.Auction.{Auction}
use Rattle.live.proofs.Opening.{tables_long}
use Rattle.live.proofs.Formed.{formed, clauses}

-- ---- one bidder's part

pub inside : (k n : ℕ) → k < n → k * 1089 + 1089 ≤ n * 1089
inside k n l = omega arith

width : (k : ℕ) → k * 1089 + 1089 - k * 1089 ≡ 1089
width k = omega arith

-- what is lent for the place k
pub lent-part : (ts : List ℤ) (k : ℕ) → mid_of (k * 1089) (k * 1089 + 1089 - k * 1089) ts ≡ part ts k
unfolding part
lent-part ts k = ap (λ (j : ℕ). take j (drop (k * 1089) ts)) (width k)

module _ (ts : List ℤ) (n k : ℕ) (long : length ts ≡ n * 1089) (l : k < n) where
  pub part_length : length (part ts k) ≡ 1089
  unfolding part
  part_length = length-take-le 1089 (drop (k * 1089) ts) (omega (arith, length-drop (k * 1089) ts))

  module _ (m : ℕ) (few : m ≤ 32) where
    pub is-part : is_part m (part ts k) ≡ true
    unfolding is_part
    is-part = and_both (eqb (length (part ts k)) 1089) (leb m 32) (eq-eqb (length (part ts k)) 1089 part_length) (le-leb m 32 few)

    pub fits-as : part_fits m (part ts k) ≡ table_fits m (table_at ts k)
    unfolding part_fits table_at
    fits-as = ap (λ (b : Bool). b && table_fits m (rows_of (part ts k))) is-part

    pub fills-at : filled m (mid_of (k * 1089) (k * 1089 + 1089 - k * 1089) ts) ≡ flat (opening m)
    unfolding filled
    fills-at = ap (filled m) (lent-part ts k) ∙ ap (λ (b : Bool). cond b (flat (opening m)) (part ts k)) is-part

-- ---- 11 and 19 of a bidder

-- the report as the code reads it from the record
pub said_at : (r : Auction) (k : ℕ) (null : Bool) → null ≡ has r.nulls (k + 1) → saying null (get_or r.sets k 0) ≡ place r k
unfolding saying place
said_at r k null e = ap (λ (b : Bool). saying b (get_or r.sets k 0)) (e ∙ ap (has r.nulls) (add-one k))

-- the report of a bidder, none being missing, is one that 8 lets pass
pub report-fits : (r : Auction) → Ready r → (k : ℕ) → k < r.bidders → unfit r.items (place r k) ≡ false
unfolding missing
report-fits r y k l =
    (formed r y.formed).reported-fit k l (not-false (has_reported r (suc k)) (any_none r.bidders (λ k. not (has_reported r (suc k))) y.complete k l))

module _ (r : Auction) (ts : List ℤ) (f : well_formed r ≡ true) (b : bad_tables r.bidders ts ≡ false) (k : ℕ) (l : k < r.bidders) where
  pub fits-at : part_fits r.items (mid_of (k * 1089) (k * 1089 + 1089 - k * 1089) ts) ≡ table_fits r.items (table_at ts k)
  fits-at = ap (part_fits r.items) (lent-part ts k) ∙ fits-as ts r.bidders k (tables_long r.bidders ts b) l r.items (formed r f).max_items

module _ (r : Auction) (ts : List ℤ) (f : Fit r ts) (k : ℕ) (l : k < r.bidders) (d : Demand) (e : unfit r.items d ≡ false) where
  asked : is_asked r.items r.prices d ≡ true
  unfolding is_asked prices_fit
  asked = and_both (not (any_over r.prices)) (not (unfit r.items d)) (clauses r f.formed).prices (ap not e)

  fitting : part_fits r.items (part ts k) ≡ true
  unfolding tables_fit
  fitting =
      fits-as ts r.bidders k (tables_long r.bidders ts f.long) l r.items (formed r f.formed).max_items
      ∙ all-use r.bidders (λ k. table_fits r.items (table_at ts k)) f.fit k l

  not-not : (b : Bool) → not (not b) ≡ b
  not-not true = refl
  not-not false = refl

  explains-part : part_explains r.items (part ts k) r.prices d ≡ not (unexplained_at r ts k d)
  unfolding unexplained_at table_at
  explains-part = sym (ap not (unexplained-is r.items (part ts k) r.prices d asked fitting) ∙ not-not (part_explains r.items (part ts k) r.prices d))

  -- what the code asks is 19
  pub explains-at : part_explains r.items (mid_of (k * 1089) (k * 1089 + 1089 - k * 1089) ts) r.prices d ≡ not (unexplained_at r ts k d)
  explains-at = ap (λ (xs : List ℤ). part_explains r.items xs r.prices d) (lent-part ts k) ∙ explains-part

  -- and where it is not given, the part is narrowed
  pub narrows-part : unexplained_at r ts k d ≡ false → part_narrowed r.items (part ts k) r.prices d ≡ flat (narrowed r.items (table_at ts k) r.prices d)
  unfolding part_narrowed table_at
  narrows-part q = ap (λ (b : Bool). cond b (flat (narrowed r.items (rows_of (part ts k)) r.prices d)) (part ts k)) (explains-part ∙ ap not q)

-- ---- a loop over the bidders: the tables of those done stand in front, and those of the others are as they came

pub none_done : (f : ℕ → List (List ℤ)) (ts : List ℤ) → take (0 * 1089) ts ≡ flat_all 0 f
unfolding flat_all
none_done f ts = refl

pub all_done : (f : ℕ → List (List ℤ)) (ts : List ℤ) (n : ℕ) → length ts ≡ n * 1089 → take (n * 1089) ts ≡ flat_all n f → ts ≡ flat_all n f
all_done f ts n long e = sym (take_all (n * 1089) ts (omega (arith, long))) ∙ e

module _ (ts xs : List ℤ) (n k : ℕ) (l : k < n) (long : length ts ≡ n * 1089) (full : length xs ≡ 1089) where
  abbrev back : List ℤ
  back = put_mid (k * 1089) (k * 1089 + 1089 - k * 1089) ts xs

  front-back : take ((k + 1) * 1089) back ≡ take (k * 1089) ts ++ xs
  front-back =
      let start : List ℤ = take (k * 1089) ts in
      let e : length (start ++ xs) ≡ (k + 1) * 1089 =
      omega (arith, length-append start xs, length-take-le (k * 1089) ts (omega (arith, long, l)), full) in
      ap (take ((k + 1) * 1089)) (sym (append_assoc start xs (post_of (k * 1089) (k * 1089 + 1089 - k * 1089) ts))) ∙ take_at (start ++ xs) (post_of (k * 1089) (k * 1089 + 1089 - k * 1089) ts) ((k + 1) * 1089) e

  pub one_more : (f : ℕ → List (List ℤ)) → take (k * 1089) ts ≡ flat_all k f → xs ≡ flat (f k) → take ((k + 1) * 1089) back ≡ flat_all (k + 1) f
  unfolding flat_all
  one_more f done e =
      let s : suc k ≡ k + 1 = sym (add-one k) in
      front-back ∙ ap (λ (ys : List ℤ). ys ++ xs) done ∙ ap (λ (ys : List ℤ). flat_all k f ++ ys) e ∙ ap (λ (j : ℕ). flat_all j f) s

  pub rest-same : (ts₀ : List ℤ) → drop (k * 1089) ts ≡ drop (k * 1089) ts₀ → drop ((k + 1) * 1089) back ≡ drop ((k + 1) * 1089) ts₀
  rest-same ts₀ e =
      let s : (k + 1) * 1089 ≡ k * 1089 + 1089 = omega arith in
      ap (λ (j : ℕ). drop j back) s
      ∙ drop_put (k * 1089) (k * 1089 + 1089) ts xs (omega arith) (omega (arith, long, l)) (full ∙ sym (width k))
      ∙ sym (drop-drop 1089 (k * 1089) ts) ∙ ap (drop 1089) e ∙ drop-drop 1089 (k * 1089) ts₀
      ∙ ap (λ (j : ℕ). drop j ts₀) (sym s)

-- the part of a bidder who is not done is as it came
pub part_same : (ts ts₀ : List ℤ) (k : ℕ) → drop (k * 1089) ts ≡ drop (k * 1089) ts₀ → mid_of (k * 1089) (k * 1089 + 1089 - k * 1089) ts ≡ part ts₀ k
part_same ts ts₀ k e = ap (take (k * 1089 + 1089 - k * 1089)) e ∙ lent-part ts₀ k

-- so what the code makes of it is the narrowed table
module _ (r : Auction) (ts₀ : List ℤ) (f : Fit r ts₀) (y : Ready r) (u : any_unexplained r ts₀ ≡ false) where
  pub narrows-at : (ts : List ℤ) (k : ℕ) → k < r.bidders → drop (k * 1089) ts ≡ drop (k * 1089) ts₀ → (d : Demand) → d ≡ place r k
      → part_narrowed r.items (mid_of (k * 1089) (k * 1089 + 1089 - k * 1089) ts) r.prices d ≡ flat (narrowed r.items (table_at ts₀ k) r.prices (place r k))
  unfolding any_unexplained
  narrows-at ts k l e d q =
      ap (λ (xs : List ℤ). part_narrowed r.items xs r.prices d) (part_same ts ts₀ k e)
      ∙ ap (part_narrowed r.items (part ts₀ k) r.prices) q
      ∙ narrows-part r ts₀ f k l (place r k) (report-fits r y k l) (any_none r.bidders (λ k. unexplained_at r ts₀ k (place r k)) u k l)
