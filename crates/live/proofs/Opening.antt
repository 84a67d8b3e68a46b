-- The ways of an opening with floors; and one without floors is one with floors of 0. Assumes nothing.
use mathlib.Core.Path.{◌≡◌, refl, sym, ap, ap₂, ◌∙◌}
use mathlib.Core.Bool.{Bool, true, false, not}
use mathlib.Core.List.{List, [], ◌∷◌}
use Prim.Native.Nat.{ℕ, zero, suc, ◌*◌, ◌≤◌}
use lib.Dec.{eqb}
use lib.ListN.{length, replicate, length-replicate}
use lib.IntN.{ℤ}
use borrow.Author.Tests.{eqb-true, eq-eqb, ne_eqb, not-false}
use Rattle.rule.specs.Sheet.{amount}
use Rattle.rule.specs.Refusal.{on, first, bad_items, most_live_bidders, bad_live_bidders, bad_length, any_over, any_under, bad_floors}
use Rattle.rule.proofs.Refusal.{passed, given, first-nil, none, in-range, exact, inexact, exact-is, floors-test, floors-none}
use Rattle.live.specs.Tables.{bad_tables, open_tables}
use Rattle.live.specs.Calls.{open_number, open_above_number, opened, unopened, opened_by, open_auction, open_above, filled_by}
use Rattle.live.proofs.Formed.{not-over}

-- ---- 3, of the tables

pub tables-exact : (n : ℕ) (ts : List ℤ) → length ts ≡ n * 1089 → bad_tables n ts ≡ false
unfolding bad_tables
tables-exact n ts e = ap not (eq-eqb (length ts) (n * 1089) e)

pub tables-inexact : (n : ℕ) (ts : List ℤ) → (length ts ≡ n * 1089 → ⊥) → bad_tables n ts ≡ true
unfolding bad_tables
tables-inexact n ts ne = ap not (ne_eqb (length ts) (n * 1089) ne)

pub tables_long : (n : ℕ) (ts : List ℤ) → bad_tables n ts ≡ false → length ts ≡ n * 1089
unfolding bad_tables
tables_long n ts e = eqb-true (length ts) (n * 1089) (not-false (eqb (length ts) (n * 1089)) e)

-- ---- the number

-- no number applies: the counts are within their limits, the lengths exact, no starting price is above 4,095 and no floor bad
pub record Opens (m n : ℕ) (start floors : List ℕ) (ts : List ℤ) : Type 0 where
  pub some_item : 1 ≤ m
  pub max_items : m ≤ 32
  pub some-bidder : 1 ≤ n
  pub max_bidders : n ≤ most_live_bidders
  pub start-long : length start ≡ m
  pub floors-long : length floors ≡ m
  pub lent-long : length ts ≡ n * 1089
  pub starts : any_over start ≡ false
  pub lows : bad_floors start floors ≡ false

module _ (m n : ℕ) (start floors : List ℕ) (ts : List ℤ) where
  abbrev number : ℕ
  number = open_above_number m n start floors ts

  pub one : bad_items m ≡ true → number ≡ 1
  unfolding open_above_number
  one e = given 1 (bad_items m) _ e

  module _ (a : bad_items m ≡ false) where
    pub two : bad_live_bidders n ≡ true → number ≡ 2
    unfolding open_above_number
    two e = passed 1 (bad_items m) _ a ∙ given 2 (bad_live_bidders n) _ e

    module _ (b : bad_live_bidders n ≡ false) where
      past_two : number ≡ first (on 3 (bad_length start m) ∷ on 3 (bad_length floors m) ∷ on 3 (bad_tables n ts) ∷ on 4 (any_over start) ∷ on 18 (bad_floors start floors) ∷ [])
      unfolding open_above_number
      past_two = passed 1 (bad_items m) _ a ∙ passed 2 (bad_live_bidders n) _ b

      pub three : (length start ≡ m → ⊥) → number ≡ 3
      three ne = past_two ∙ given 3 (bad_length start m) _ (inexact start m ne)

      module _ (e : length start ≡ m) where
        past-start : number ≡ first (on 3 (bad_length floors m) ∷ on 3 (bad_tables n ts) ∷ on 4 (any_over start) ∷ on 18 (bad_floors start floors) ∷ [])
        past-start = past_two ∙ passed 3 (bad_length start m) _ (exact start m e)

        pub three-floors : (length floors ≡ m → ⊥) → number ≡ 3
        three-floors ne = past-start ∙ given 3 (bad_length floors m) _ (inexact floors m ne)

        module _ (f : length floors ≡ m) where
          past-floors : number ≡ first (on 3 (bad_tables n ts) ∷ on 4 (any_over start) ∷ on 18 (bad_floors start floors) ∷ [])
          past-floors = past-start ∙ passed 3 (bad_length floors m) _ (exact floors m f)

          pub three-tables : (length ts ≡ n * 1089 → ⊥) → number ≡ 3
          three-tables ne = past-floors ∙ given 3 (bad_tables n ts) _ (tables-inexact n ts ne)

          module _ (l : length ts ≡ n * 1089) where
            past_three : number ≡ first (on 4 (any_over start) ∷ on 18 (bad_floors start floors) ∷ [])
            past_three = past-floors ∙ passed 3 (bad_tables n ts) _ (tables-exact n ts l)

            pub four : any_over start ≡ true → number ≡ 4
            four q = past_three ∙ given 4 (any_over start) _ q

            module _ (q : any_over start ≡ false) where
              -- past 4, a price below its floor is all that 18 asks
              past-four : number ≡ first (on 18 (any_under start floors) ∷ [])
              unfolding amount
              past-four =
                  past_three ∙ passed 4 (any_over start) _ q
                  ∙ ap (λ (x : Bool). first (on 18 x ∷ [])) (floors-test start floors (λ k. not-over start q (suc k)))

              pub eighteen : any_under start floors ≡ true → number ≡ 18
              eighteen u = past-four ∙ given 18 (any_under start floors) [] u

              pub no_number : any_under start floors ≡ false → number ≡ 0
              no_number u = past-four ∙ passed 18 (any_under start floors) [] u ∙ first-nil

  -- no number: the record is made
  pub accepts : number ≡ 0 → open_above m n start floors ts ≡ record { number = 0; next = opened m n start floors }
  unfolding open_above opened_by
  accepts e = ap (λ (x : ℕ). opened_by x m n start floors) e

  -- a number: the record beside it is of zeros, and the tables are as they came
  pub by-number : (j : ℕ) → number ≡ suc j → open_above m n start floors ts ≡ unopened (suc j)
  unfolding open_above opened_by
  by-number j e = ap (λ (x : ℕ). opened_by x m n start floors) e

  pub turned-down : (x : ℕ) → x ≡ number → (x ≡ 0 → ⊥) → (unopened x ≡ open_above m n start floors ts) × (ts ≡ filled_by number m n ts)
  unfolding filled_by
  turned-down zero e ne = absurd (ne refl)
  turned-down (suc j) e ne = (sym (by-number j (sym e)), ap (λ (x : ℕ). filled_by x m n ts) e)

  pub opens : number ≡ 0 → Opens m n start floors ts
  unfolding open_above_number bad_items bad_live_bidders
  opens e =
      let q₁ = none 0 (bad_items m) _ e in
      let q₂ = none 1 (bad_live_bidders n) _ q₁.1 in
      let q₃ = none 2 (bad_length start m) _ q₂.1 in
      let q₄ = none 2 (bad_length floors m) _ q₃.1 in
      let q₅ = none 2 (bad_tables n ts) _ q₄.1 in
      let q₆ = none 3 (any_over start) _ q₅.1 in
      let q₇ = none 17 (bad_floors start floors) [] q₆.1 in
      record {
        some_item = (in-range 32 m q₁.0).0;
        max_items = (in-range 32 m q₁.0).1;
        some-bidder = (in-range most_live_bidders n q₂.0).0;
        max_bidders = (in-range most_live_bidders n q₂.0).1;
        start-long = exact-is start m q₃.0;
        floors-long = exact-is floors m q₄.0;
        lent-long = tables_long n ts q₅.0;
        starts = q₆.0;
        lows = q₇.0;
      }

  pub fills : number ≡ 0 → filled_by number m n ts ≡ open_tables m n
  unfolding filled_by
  fills e = ap (λ (x : ℕ). filled_by x m n ts) e

-- ---- without floors

pub number-zero : (m n : ℕ) (start : List ℕ) (ts : List ℤ) → open_above_number m n start (replicate m 0) ts ≡ open_number m n start ts
unfolding open_above_number open_number first
number-zero m n start ts =
    ap₂ (λ (x y : Bool). first (on 1 (bad_items m) ∷ on 2 (bad_live_bidders n) ∷ on 3 (bad_length start m) ∷ on 3 x ∷ on 3 (bad_tables n ts) ∷ on 4 (any_over start) ∷ on 18 y ∷ []))
    (exact (replicate m 0) m (length-replicate {A = ℕ} m 0)) (floors-none start m)

pub zero-floors : (m n : ℕ) (start : List ℕ) (ts : List ℤ) → open_above m n start (replicate m 0) ts ≡ open_auction m n start ts
unfolding open_above open_auction
zero-floors m n start ts = ap (λ (x : ℕ). opened_by x m n start (replicate m 0)) (number-zero m n start ts)
