-- What the numbers of a report, and of an end before its round is looked for, say where there is none; and a call that gets a number hands the record back as it came.
-- Assumes nothing.
use Prim.Native.Nat.{ℕ, zero, suc, ◌-◌, ◌≤◌}
use mathlib.Core.Path.{◌≡◌, refl, sym, ap, ◌∙◌}
use mathlib.Core.Bool.{Bool, true, false, not, true≢false}
use mathlib.Core.List.{List, [], ◌∷◌, ◌++◌}
use native.Mathlib.Omega.{arith}
use lib.IntN.{ℤ}
use borrow.Author.Tests.{not-false}
use Rattle.rule.specs.Demand.{Demand}
use Rattle.rule.specs.Refusal.{Refusal, on, first, bad_bidder}
use Rattle.rule.proofs.Refusal.{passed, given, none, in-range}
use Rattle.reports.specs.Report.{unfit}
use Rattle.live.specs.Auction.{has_reported, missing, well_formed}
use Rattle.live.specs.Tables.{bad_tables, tables_fit, unexplained_at, any_unexplained}
use Rattle.live.specs.Calls.{is_closed, report_number}
use Rattle.live.specs.Tidy.{Ready, fit_number, Fit, ready_number}
use Rattle.live.specs.declared.Auction.{Auction}
use Rattle.live.specs.declared.Reply.{Reply}

-- ---- a list of refusals followed by more

-- a number that the front gives is that of the whole
pub front : (xs ys : List Refusal) → (first xs ≡ 0 → ⊥) → first (xs ++ ys) ≡ first xs
unfolding first
front [] ys ne = absurd (ne refl)
front (on n true ∷ xs) ys ne = refl
front (on n false ∷ xs) ys ne = front xs ys ne

-- no refusal goes by the number 0, which says that there is none
unfoldable pub numbered : List Refusal → Bool
numbered [] = true
numbered (on zero a ∷ xs) = false
numbered (on (suc n) a ∷ xs) = numbered xs

-- where the front gives none, the whole's number is that of the rest
pub behind : (xs ys : List Refusal) → numbered xs ≡ true → first xs ≡ 0 → first (xs ++ ys) ≡ first ys
unfolding first numbered
behind [] ys p e = refl
behind (on zero a ∷ xs) ys p e = absurd (true≢false (sym p))
behind (on (suc n) true ∷ xs) ys p e = absurd (omega arith)
behind (on (suc n) false ∷ xs) ys p e = behind xs ys p e

-- ---- 11, 3, 11: record and tables

module _ (r : Auction) (ts : List ℤ) where
  abbrev pub fit_list : List Refusal
  fit_list = on 11 (not (well_formed r)) ∷ on 3 (bad_tables r.bidders ts) ∷ on 11 (not (tables_fit r ts)) ∷ []

  module _ (f : well_formed r ≡ true) where
    past-11 : first (on 3 (bad_tables r.bidders ts) ∷ on 11 (not (tables_fit r ts)) ∷ []) ≡ fit_number r ts
    unfolding fit_number
    past-11 = sym (passed 11 (not (well_formed r)) (on 3 (bad_tables r.bidders ts) ∷ on 11 (not (tables_fit r ts)) ∷ []) (ap not f))

    pub wrong-length : bad_tables r.bidders ts ≡ true → 3 ≡ fit_number r ts
    wrong-length e = sym (given 3 (bad_tables r.bidders ts) (on 11 (not (tables_fit r ts)) ∷ []) e) ∙ past-11

  -- no number: record and tables fit
  pub fits : fit_number r ts ≡ 0 → Fit r ts
  unfolding fit_number
  fits e =
      let a = none 10 (not (well_formed r)) (on 3 (bad_tables r.bidders ts) ∷ on 11 (not (tables_fit r ts)) ∷ []) e in
      let b = none 2 (bad_tables r.bidders ts) (on 11 (not (tables_fit r ts)) ∷ []) a.1 in
      let d = none 10 (not (tables_fit r ts)) [] b.1 in
      record { formed = not-false (well_formed r) a.0; long = b.0; fit = not-false (tables_fit r ts) d.0 }

-- ---- a report: then 12, 7, 13, 8, 19

module _ (r : Auction) (ts : List ℤ) (b : ℕ) (d : Demand) where
  abbrev after-8 : List Refusal
  after-8 = on 19 (unexplained_at r ts (b - 1) d) ∷ []

  abbrev after-13 : List Refusal
  after-13 = on 8 (unfit r.items d) ∷ after-8

  abbrev after-7 : List Refusal
  after-7 = on 13 (has_reported r b) ∷ after-13

  abbrev after-12 : List Refusal
  after-12 = on 7 (bad_bidder r.bidders b) ∷ after-7

  -- a number that record and tables get is the report's
  pub report-unfit : (fit_number r ts ≡ 0 → ⊥) → fit_number r ts ≡ report_number r ts b d
  unfolding fit_number report_number
  report-unfit ne = sym (front (fit_list r ts) (on 12 (is_closed r.phase) ∷ after-12) ne)

  past-fit : fit_number r ts ≡ 0 → first (on 12 (is_closed r.phase) ∷ after-12) ≡ report_number r ts b d
  unfolding fit_number report_number numbered
  past-fit e = sym (behind (fit_list r ts) (on 12 (is_closed r.phase) ∷ after-12) refl e)

-- none of the numbers of a report
pub record Accepted (r : Auction) (ts : List ℤ) (b : ℕ) (d : Demand) : Type 0 where
  pub fit : Fit r ts
  pub running : is_closed r.phase ≡ false
  pub is-bidder : bad_bidder r.bidders b ≡ false
  pub new : has_reported r b ≡ false
  pub report-fit : unfit r.items d ≡ false
  pub explained : unexplained_at r ts (b - 1) d ≡ false

pub accepts : (r : Auction) (ts : List ℤ) (b : ℕ) (d : Demand) → 0 ≡ report_number r ts b d → Accepted r ts b d
accepts r ts b d e = go (fit_number r ts) refl
  where
    go : (x : ℕ) → fit_number r ts ≡ x → Accepted r ts b d
    go zero q =
        let f = none 11 (is_closed r.phase) (after-12 r ts b d) (past-fit r ts b d q ∙ sym e) in
        let g = none 6 (bad_bidder r.bidders b) (after-7 r ts b d) f.1 in
        let h = none 12 (has_reported r b) (after-13 r ts b d) g.1 in
        let i = none 7 (unfit r.items d) (after-8 r ts b d) h.1 in
        let j = none 18 (unexplained_at r ts (b - 1) d) [] i.1 in
        record { fit = fits r ts q; running = f.0; is-bidder = g.0; new = h.0; report-fit = i.0; explained = j.0 }
    go (suc x) q =
        let ne : fit_number r ts ≡ 0 → ⊥ = λ z. omega (arith, q, z) in
        absurd (ne (report-unfit r ts b d ne ∙ sym e))

-- a report that gets no number is of a bidder
pub of-bidder : (r : Auction) (ts : List ℤ) (b : ℕ) (d : Demand) → Accepted r ts b d → (1 ≤ b) × (b ≤ r.bidders)
unfolding bad_bidder
of-bidder r ts b d a = in-range r.bidders b a.is-bidder

-- ---- an end before its round is looked for: then 12, 14, 19

-- none of them
pub record Settling (r : Auction) (ts : List ℤ) : Type 0 where
  pub fit : Fit r ts
  pub ready : Ready r
  pub explained : any_unexplained r ts ≡ false

module _ (r : Auction) (ts : List ℤ) where
  abbrev end_list : List Refusal
  end_list = on 12 (is_closed r.phase) ∷ on 14 (missing r) ∷ on 19 (any_unexplained r ts) ∷ []

  pub end-unfit : (fit_number r ts ≡ 0 → ⊥) → fit_number r ts ≡ ready_number r ts
  unfolding fit_number ready_number
  end-unfit ne = sym (front (fit_list r ts) end_list ne)

  end-fit : fit_number r ts ≡ 0 → first end_list ≡ ready_number r ts
  unfolding fit_number ready_number numbered
  end-fit e = sym (behind (fit_list r ts) end_list refl e)

  -- no number: its round is looked for
  pub settling : ready_number r ts ≡ 0 → Settling r ts
  settling e = go (fit_number r ts) refl
    where
      go : (x : ℕ) → fit_number r ts ≡ x → Settling r ts
      go zero q =
          let f = none 11 (is_closed r.phase) (on 14 (missing r) ∷ on 19 (any_unexplained r ts) ∷ []) (end-fit q ∙ e) in
          let g = none 13 (missing r) (on 19 (any_unexplained r ts) ∷ []) f.1 in
          let h = none 18 (any_unexplained r ts) [] g.1 in
          record { fit = fits r ts q; ready = record { formed = (fits r ts q).formed; running = f.0; complete = g.0 }; explained = h.0 }
      go (suc x) q =
          let ne : fit_number r ts ≡ 0 → ⊥ = λ z. omega (arith, q, z) in
          absurd (ne (end-unfit ne ∙ e))

-- ---- what is handed back

abbrev pub replied : ℕ → Auction → Auction → Reply
replied x new old = record { number = x; next = elim x [ zero ↦ new | suc j ↦ old ] }

pub reply-kept : (x : ℕ) (new old : Auction) → (x ≡ 0 → ⊥) → record { number = x; next = old } ≡ replied x new old
reply-kept zero new old ne = absurd (ne refl)
reply-kept (suc j) new old ne = refl

pub reply-new : (x : ℕ) (new old : Auction) → 0 ≡ x → record { number = 0; next = new } ≡ replied x new old
reply-new zero new old e = refl
reply-new (suc j) new old e = absurd (omega arith)
