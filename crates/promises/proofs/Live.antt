-- The live letting's calls on any record, from the definitions of `live` and its laws of an end. Assumes nothing.
use Prim.Native.Nat.{ℕ, zero, suc}
use mathlib.Core.Path.{◌≡◌, refl, sym, ap, ◌∙◌}
use mathlib.Core.Bool.{Bool, true, false, not, ◌&&◌}
use mathlib.Core.List.{List}
use native.Mathlib.Omega.{arith}
use lib.Dec.{eqb}
use lib.IntN.{ℤ}
use borrow.Author.Tests.{ne_eqb}
use Rattle.rule.specs.Round.{Round, raised, lowered, closed}
use Rattle.rule.proofs.Refusal.{none}
use Rattle.rule.proofs.Moves as moves
use Rattle.round.specs.Reports.{reports}
use Rattle.live.specs.Auction.{place, reports_of, items_above, well_formed, missing, rising_set, falling_set}
use Rattle.live.specs.Tables.{bad_tables, tables_fit, any_unexplained}
use Rattle.live.specs.Calls.{is_closed, is_falling, opened, unopened, opened_by, open_above, with_report, report, cleared, clear, round_by, settled, move_of, ending_of, Ending, gives, refused, end_number, end_answer, end_next}
use Rattle.live.specs.Reading.{names_of, sheet_of, read_bytes}
use Rattle.live.specs.declared.Auction.{Auction}
use Rattle.live.specs.declared.Phase.{Phase}
use Rattle.live.specs.declared.Phase.TheVariants.{Rising, Falling, Closed}
use Rattle.live.proofs.Ending as ending
use Rattle.agreement.proofs.Endings as endings
use Rattle.lines.specs.Lines.{written_to}
use Rattle.promises.specs.Demand2.{Live}

-- an opening is answered its number
pub opened-is : (x m n : ℕ) (start floors : List ℕ) → (opened_by x m n start floors).number ≡ x
unfolding opened_by unopened
opened-is zero m n start floors = refl
opened-is (suc j) m n start floors = refl

pub no-round : (x : Round) (n : ℕ) → gives x ≡ refused n → ⊥
no-round x n e = let z : ◌≡◌ {A = ℕ} 0 1 = cc in omega arith

raised-closed : (x : ℕ) → gives (raised x) ≡ gives closed → ⊥
raised-closed x e = let z : ◌≡◌ {A = ℕ} 0 1 = cc in omega arith

lowered-closed : (x : ℕ) → gives (lowered x) ≡ gives closed → ⊥
lowered-closed x e = let z : ◌≡◌ {A = ℕ} 0 1 = cc in omega arith

module _ (r : Auction) (ts : List ℤ) where
  -- an end gives the reports' round where no number applies, and only there
  pub gives-round : end_number r ts ≡ 0 → end_answer r ts ≡ gives (round_by r)
  unfolding end_answer
  gives-round e = ap (λ (n : ℕ). elim n [ zero ↦ gives (round_by r) | suc j ↦ refused (suc j) ]) e

  pub given_by : (x : Round) → end_answer r ts ≡ gives x → (end_number r ts ≡ 0) × (round_by r ≡ x)
  unfolding end_answer
  given_by x e = go (end_number r ts) refl e
    where
      go : (n : ℕ) → end_number r ts ≡ n → ◌≡◌ {A = Ending} (elim n [ zero ↦ gives (round_by r) | suc j ↦ refused (suc j) ]) (gives x) → (end_number r ts ≡ 0) × (round_by r ≡ x)
      go zero q h = let y : round_by r ≡ x = cc in (q, y)
      go (suc j) q h = absurd (no-round x (suc j) (sym h))

  turned-down : (why : ℕ) → end_number r ts ≡ suc why → end_answer r ts ≡ refused (suc why)
  unfolding end_answer
  turned-down why e = ap (λ (n : ℕ). elim n [ zero ↦ gives (round_by r) | suc j ↦ refused (suc j) ]) e

  -- no number: neither 12 nor 16, so a rising set that is not empty is one while rising
  rising : end_number r ts ≡ 0 → (rising_set r ≡ 0 → ⊥) → r.phase ≡ Rising
  unfolding end_number
  rising e ne =
      let a = none 10 (not (well_formed r)) _ e in
      let b = none 2 (bad_tables r.bidders ts) _ a.1 in
      let c = none 10 (not (tables_fit r ts)) _ b.1 in
      let d = none 11 (is_closed r.phase) _ c.1 in
      let f = none 13 (missing r) _ d.1 in
      let g = none 18 (any_unexplained r ts) _ f.1 in
      let h = none 15 (is_falling r.phase && not (eqb (rising_set r) 0)) _ g.1 in
      go r.phase refl d.0 h.0
    where
      go : (p : Phase) → r.phase ≡ p → is_closed p ≡ false → is_falling p && not (eqb (rising_set r) 0) ≡ false → r.phase ≡ Rising
      go Rising q x y = q
      go Falling q x y = let z : ◌≡◌ {A = Bool} true false = sym (ap not (ne_eqb (rising_set r) 0 ne)) ∙ y in cc
      go Closed q x y = cc

  raises : end_number r ts ≡ 0 → (rising_set r ≡ 0 → ⊥) → end_answer r ts ≡ gives (raised (rising_set r))
  raises e ne = gives-round e ∙ ap gives (ending.round-raised r (rising_set r) refl ne (rising e ne))

  lowers : end_number r ts ≡ 0 → rising_set r ≡ 0 → (falling_set r ≡ 0 → ⊥) → end_answer r ts ≡ gives (lowered (falling_set r))
  lowers e z ne = gives-round e ∙ ap gives (ending.round-lowered r z (falling_set r) refl ne)

  closes_if : end_number r ts ≡ 0 → rising_set r ≡ 0 → falling_set r ≡ 0 → end_answer r ts ≡ gives closed
  closes_if e z q = gives-round e ∙ ap gives (ending.round-closed r z (falling_set r) refl q)

  closes_only_if : end_answer r ts ≡ gives closed → (rising_set r ≡ 0) × (falling_set r ≡ 0)
  closes_only_if e = let z = no-rise (rising_set r) refl in (z, no-fall z (falling_set r) refl)
    where
      n : end_number r ts ≡ 0
      n = (given_by closed e).0

      no-rise : (x : ℕ) → rising_set r ≡ x → rising_set r ≡ 0
      no-rise zero q = q
      no-rise (suc k) q = absurd (raised-closed (rising_set r) (sym (raises n (λ z. omega (arith, q, z))) ∙ e))

      no-fall : rising_set r ≡ 0 → (x : ℕ) → falling_set r ≡ x → falling_set r ≡ 0
      no-fall z zero q = q
      no-fall z (suc k) q = absurd (lowered-closed (falling_set r) (sym (lowers n z (λ y. omega (arith, q, y))) ∙ e))

  -- the record after it
  after : (x : Round) → end_answer r ts ≡ gives x → end_next r ts ≡ settled r x
  unfolding end_next
  after x e = let g = given_by x e in ap (λ (n : ℕ). elim n [ zero ↦ settled r (round_by r) | suc j ↦ r ]) g.0 ∙ ap (settled r) g.1

pub live : Live
unfolding place reports reports_of items_above rising_set falling_set open_above opened_by opened move_of ending_of report with_report clear cleared settled sheet_of names_of read_bytes
live =
    record {
      place_is = λ r k. refl;
      reports_are = λ r. refl;
      above_is = λ r. refl;
      rising_is = λ r. refl;
      falling_is = λ r. refl;
      opens = λ m n start floors ts e. ap (λ (x : ℕ). (opened_by x m n start floors).next) e;
      after_report = λ r ts b d e. ap (λ (n : ℕ). elim n [ zero ↦ with_report r b d | suc j ↦ r ]) e;
      after_clear = λ r e. ap (λ (n : ℕ). elim n [ zero ↦ cleared r | suc j ↦ r ]) e;
      raises = raises;
      lowers = lowers;
      closes_if = closes_if;
      closes_only_if = closes_only_if;
      turned-down = turned-down;
      moved_up = λ x. refl;
      moved_down = λ x. refl;
      ends_closed = refl;
      ends_refused = λ why. refl;
      endings_apart = endings.ending-only;
      up_by_one = moves.raise-at 32;
      down_by_one = moves.lower-at 32;
      after_raise = λ r ts x. after r ts (raised x);
      after_lower = λ r ts x. after r ts (lowered x);
      after_close = λ r ts. after r ts closed;
      names_are = λ r. refl;
      reads = λ r out e. ap (λ (n : ℕ). elim n [ zero ↦ written_to out (sheet_of r) | suc j ↦ out ]) e;
    }
