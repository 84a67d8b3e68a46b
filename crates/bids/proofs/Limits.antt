-- No number turns a sheet down if and only if the bids have their exact length and the sheet is within the limits. A sheet without floors is turned down as
-- one with floors of 0. Assumes nothing.
use Prim.Native.Nat.{ℕ, suc, ◌+◌, ◌*◌, ◌/◌, ◌%◌, ◌≤◌, ◌<◌}
use mathlib.Core.Path.{◌≡◌, sym, ap, ap₂, ◌∙◌, subst}
use mathlib.Core.Bool.{Bool, true}
use mathlib.Core.List.{List, [], ◌∷◌}
use native.Mathlib.Omega.{arith}
use native.Mathlib.Nat.{mod-lt, div-add-mod', div-lt_iff_lt-mul}
use lib.ListN.{length, get_or, replicate, length-replicate}
use Rattle.rule.specs.Sheet.{amount, row, each4095, within_limits}
use Rattle.rule.specs.Refusal.{on, first, bad_items, bad_bidders, bad_length, any_over, bad_floors}
use Rattle.rule.proofs.Limits.{Limits, limits, each-make, within-make}
use Rattle.rule.proofs.Refusal.{passed, none, first-nil, in-range, range-in, exact, exact-is, none-over, over-not, floors-in, floors-fit, floors-none}
use Rattle.bids.specs.Lent.{line_of, rows_of, sheet_above}
use Rattle.bids.specs.Refusal.{sealed_above_refusal, sealed_refusal}
use Rattle.bids.proofs.Lent.{rows-length, row_at, line-inside, line-length, line-at}

-- ---- a sheet that no number turns down

pub record Fine (m n : ℕ) (start floors bids : List ℕ) : Type 0 where
  pub some_item : 1 ≤ m
  pub max_items : m ≤ 32
  pub some-bidder : 1 ≤ n
  pub max_bidders : n ≤ 64
  pub start-long : length start ≡ m
  pub floors-long : length floors ≡ m
  pub bids-long : length bids ≡ n * m
  pub starts : (k : ℕ) → k < length start → get_or start k 0 ≤ 4095
  pub floors-most : (k : ℕ) → k < length floors → get_or floors k 0 ≤ 4095
  pub floors-below : (k : ℕ) → get_or floors k 0 ≤ get_or start k 0
  pub amounts : (k : ℕ) → k < length bids → get_or bids k 0 ≤ 4095

module _ (m n : ℕ) (start floors bids : List ℕ) where
  pub fine : sealed_above_refusal m n start floors bids ≡ 0 → Fine m n start floors bids
  unfolding sealed_above_refusal bad_items bad_bidders
  fine e =
      let a = none 0 (bad_items m) _ e in
      let b = none 1 (bad_bidders n) _ a.1 in
      let c = none 2 (bad_length start m) _ b.1 in
      let h = none 2 (bad_length floors m) _ c.1 in
      let d = none 2 (bad_length bids (n * m)) _ h.1 in
      let f = none 3 (any_over start) _ d.1 in
      let w = none 17 (bad_floors start floors) _ f.1 in
      let g = none 4 (any_over bids) _ w.1 in
      record {
        some_item = (in-range 32 m a.0).0;
        max_items = (in-range 32 m a.0).1;
        some-bidder = (in-range 64 n b.0).0;
        max_bidders = (in-range 64 n b.0).1;
        start-long = exact-is start m c.0;
        floors-long = exact-is floors m h.0;
        bids-long = exact-is bids (n * m) d.0;
        starts = none-over start f.0;
        floors-most = (floors-fit start floors w.0).1;
        floors-below = (floors-fit start floors w.0).0;
        amounts = none-over bids g.0;
      }

  not_refused : Fine m n start floors bids → sealed_above_refusal m n start floors bids ≡ 0
  unfolding sealed_above_refusal bad_items bad_bidders
  not_refused f =
      passed 1 (bad_items m) _ (range-in 32 m f.some_item f.max_items)
      ∙ passed 2 (bad_bidders n) _ (range-in 64 n f.some-bidder f.max_bidders)
      ∙ passed 3 (bad_length start m) _ (exact start m f.start-long)
      ∙ passed 3 (bad_length floors m) _ (exact floors m f.floors-long)
      ∙ passed 3 (bad_length bids (n * m)) _ (exact bids (n * m) f.bids-long)
      ∙ passed 4 (any_over start) _ (over-not start f.starts)
      ∙ passed 18 (bad_floors start floors) _ (floors-in start floors (λ k l. f.floors-below k) f.floors-most)
      ∙ passed 5 (any_over bids) _ (over-not bids f.amounts)
      ∙ first-nil

  -- ---- it is within the limits

  within : Fine m n start floors bids → within_limits (sheet_above m n start floors bids) ≡ true
  unfolding sheet_above
  within f =
      let len : length (rows_of m n bids) ≡ n = rows-length m n bids in
      within-make (sheet_above m n start floors bids) f.some_item f.max_items (omega (arith, len, f.some-bidder)) (omega (arith, len, f.max_bidders))
      (each-make m start f.start-long (λ k l. f.starts k (omega (arith, l, f.start-long)))) (each-make m floors f.floors-long (λ k l. f.floors-most k (omega (arith, l, f.floors-long))))
      (λ k l. unfold amount in f.floors-below k) (λ b l. line b (omega (arith, l, len)))
    where
      line : (b : ℕ) → b < n → each4095 m (row (rows_of m n bids) b) ≡ true
      line b l =
          let long = line-inside m n b (length bids) f.bids-long l in
          subst (λ (xs : List ℕ). each4095 m xs ≡ true) (sym (row_at m n bids b l))
          (each-make m (line_of m bids b) (line-length m bids b long)
          (λ k lk. let most = f.amounts (b * m + k) (omega (arith, long, lk)) in omega (arith, line-at m bids b k lk, most)))

  -- ---- and a sheet within the limits is fine, if the bids have their exact length

  module _ (e : length bids ≡ n * m) (l : Limits (record { items = m; start = start; floors = floors; bids = rows_of m n bids })) where
    len : length (rows_of m n bids) ≡ n
    len = rows-length m n bids

    start-most : (k : ℕ) → get_or start k 0 ≤ 4095
    start-most k = unfold amount in l.start.most (suc k)

    floor-most : (k : ℕ) → get_or floors k 0 ≤ 4095
    floor-most k = unfold amount in l.floors.most (suc k)

    floor-below : (k : ℕ) → get_or floors k 0 ≤ get_or start k 0
    floor-below k = unfold amount in l.floor-le (suc k)

    line-most : (b k : ℕ) → get_or (row (rows_of m n bids) b) k 0 ≤ 4095
    line-most b k = unfold amount in l.bid-max b (suc k)

    -- bid k stands in line k / m at place k % m
    bid-most : (k : ℕ) → k < length bids → get_or bids k 0 ≤ 4095
    bid-most k lk =
        let some = l.some_item in
        let b : k / m < n = (div-lt_iff_lt-mul some).1 (omega (arith, lk, e)) in
        let at = ap (λ (xs : List ℕ). get_or xs (k % m) 0) (row_at m n bids (k / m) b) ∙ line-at m bids (k / m) (k % m) (mod-lt k some) ∙ ap (λ (j : ℕ). get_or bids j 0) (div-add-mod' k m) in
        omega (arith, at, line-most (k / m) (k % m))

    all-fine : Fine m n start floors bids
    all-fine =
        record {
          some_item = l.some_item;
          max_items = l.max_items;
          some-bidder = omega (arith, l.some-bidder, len);
          max_bidders = omega (arith, l.max_bidders, len);
          start-long = l.start.long;
          floors-long = l.floors.long;
          bids-long = e;
          starts = λ k lk. start-most k;
          floors-most = λ k lk. floor-most k;
          floors-below = floor-below;
          amounts = bid-most;
        }

  -- ---- the theorem, both ways

  pub accepted-within : sealed_above_refusal m n start floors bids ≡ 0 → (length bids ≡ n * m) × (within_limits (sheet_above m n start floors bids) ≡ true)
  accepted-within e = let f = fine e in (f.bids-long, within f)

  pub limits-accepted : length bids ≡ n * m → Limits (record { items = m; start = start; floors = floors; bids = rows_of m n bids }) → sealed_above_refusal m n start floors bids ≡ 0
  limits-accepted e l = not_refused (all-fine e l)

  pub within-accepted : length bids ≡ n * m → within_limits (sheet_above m n start floors bids) ≡ true → sealed_above_refusal m n start floors bids ≡ 0
  unfolding sheet_above
  within-accepted e w = limits-accepted e (limits (sheet_above m n start floors bids) w)

-- ---- floors of 0 turn no sheet down

pub without_floors : (m n : ℕ) (start bids : List ℕ) → sealed_above_refusal m n start (replicate m 0) bids ≡ sealed_refusal m n start bids
unfolding sealed_above_refusal sealed_refusal first
without_floors m n start bids =
    ap₂
    (λ (x y : Bool). first
    (on 1 (bad_items m) ∷ on 2 (bad_bidders n) ∷ on 3 (bad_length start m) ∷ on 3 x ∷ on 3 (bad_length bids (n * m)) ∷ on 4 (any_over start) ∷ on 18 y ∷ on 5 (any_over bids) ∷ []))
    (exact (replicate m 0) m (length-replicate {A = ℕ} m 0)) (floors-none start m)
