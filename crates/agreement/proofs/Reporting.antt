-- Report and clear agree with the machine. Assumes nothing.
use Prim.Native.Nat.{ℕ, suc, ◌-◌, ◌≤◌, ◌<◌}
use mathlib.Core.Path.{◌≡◌, refl, sym, ap, ◌∙◌, subst}
use mathlib.Core.Bool.{Bool, true, false, ◌&&◌, ◌||◌, not, cond}
use mathlib.Core.List.{List, [], ◌∷◌}
use native.Mathlib.Omega.{arith}
use lib.Dec.{eqb, eqb-suc-suc}
use lib.ListN.{length, set}
use borrow.Author.Tests.{eqb-true}
use Rattle.sets.specs.Bit.{has, set_of}
use Rattle.sets.specs.Lists.{tabulate}
use Rattle.sets.proofs.Lists.{tabulate-same}
use Rattle.sets.proofs.Counting.{not-both, or_right, or-false, and-true, and-right-false}
use Rattle.sets.proofs.Members.{has-set_of, set_of-cong}
use Rattle.rule.specs.Sheet.{Sheet}
use Rattle.rule.specs.Demand.{Demand}
use Rattle.rule.specs.Refusal.{Refusal, on, first, bad_bidder}
use Rattle.rule.proofs.Limits.{Limits}
use Rattle.rule.proofs.Refusal.{passed, none as first_none, in-range}
use Rattle.reports.specs.Report.{unfit}
use Rattle.live.specs.Auction.{has_reported, well_formed}
use Rattle.live.specs.Tables.{bad_tables, tables_fit, unexplained_at}
use Rattle.live.specs.Calls.{is_closed, report_number, with_report, report, clear_number, cleared, clear}
use Rattle.live.proofs.Parts.{by_parts}
use Rattle.agreement.specs.Calls.{reporting, clearing, call}
use Rattle.agreement.specs.Machine.{Standing, none, stands, Machine, at, phase, does_stand, said, tells, unexplained_by, machine, machine_report, machine_clear}
use Rattle.agreement.specs.Agreement.{stands_for, tables_of, held_for}
use Rattle.agreement.proofs.Lists.{tabulate-set}
use Rattle.agreement.proofs.Numbers.{first-same}
use Rattle.agreement.proofs.Standing.{closed-stands, reported-is}
use Rattle.agreement.proofs.Tabled.{Tabled, not-bad, tables-fit, nineteen_is}
use Rattle.agreement.proofs.Follows.{Good, Follows, replies, no-nulls, no-reported, no-sets}

-- one more report stands, and none stands
abbrev with : Machine → ℕ → Demand → Machine
with t b d = record { moves = t.moves; has_closed = t.has_closed; standing = λ i. cond (eqb i b) (stands d) (t.standing i); tables = t.tables }

abbrev without : Machine → Machine
without t = record { moves = t.moves; has_closed = t.has_closed; standing = λ i. none; tables = t.tables }

not-standing : (x : Standing) → does_stand x ≡ false → x ≡ none
not-standing none e = refl
not-standing (stands d) e = absurd (not-both true refl (unfold does_stand in e))

module _ (s : Sheet) (t : Machine) (g : Good s t) (w : well_formed (stands_for s t) ≡ true) where
  abbrev n : ℕ
  n = length s.bids

  pub not-eleven : not (well_formed (stands_for s t)) ≡ false
  not-eleven = ap not w

  -- what is said of the path and of the tables stays, and the machine has not closed
  pub good-open : (u : Machine) → u.moves ≡ t.moves → u.tables ≡ t.tables → u.has_closed ≡ false → Good s u
  good-open u e q o =
      record {
        not_before = λ k l. g.not_before k (subst (λ (x : ℕ). k < x) e l);
        at_close = λ h. absurd (not-both u.has_closed h o);
        tabled = subst (Tabled s) (sym q) g.tabled;
      }

  -- ---- clear

  clear-number : clear_number (stands_for s t) ≡ first (on 12 t.has_closed ∷ [])
  unfolding clear_number
  clear-number =
      passed 11 (not (well_formed (stands_for s t))) (on 12 (is_closed (stands_for s t).phase) ∷ []) not-eleven
      ∙ first-same 12 (is_closed (stands_for s t).phase) t.has_closed [] [] (closed-stands s t) (λ e. refl)

  clear-record : cleared (stands_for s t) ≡ stands_for s (without t)
  unfolding cleared stands_for at phase
  clear-record = by_parts (cleared (stands_for s t)) (stands_for s (without t)) refl refl refl refl no-sets no-nulls no-reported refl refl refl

  pub clear-follows : Follows s (call (held_for s t) clearing) (machine s t clearing)
  unfolding call clear machine machine_clear held_for tables_of
  clear-follows =
      subst (λ (x : ℕ). Follows s (call (held_for s t) clearing) (tells x t (without t))) clear-number
      (replies s t (without t) (clear_number (stands_for s t)) (cleared (stands_for s t)) g refl
      (λ e. (clear-record, good-open (without t) refl refl (first_none 11 t.has_closed [] (sym clear-number ∙ e)).0)))

  -- ---- report

  module _ (lim : Limits s) (b : ℕ) (d : Demand) where
    range : bad_bidder n b ≡ false → (1 ≤ b) × (b ≤ n)
    unfolding bad_bidder
    range e = in-range n b e

    -- 13, of a bidder whose number is in range
    thirteen : bad_bidder n b ≡ false → has_reported (stands_for s t) b ≡ does_stand (t.standing b)
    thirteen e = reported-is s t b (range e).0 (omega (arith, lim.max_bidders, (range e).1))

    -- 19, of such a bidder
    nineteen : bad_bidder n b ≡ false → unexplained_at (stands_for s t) (tables_of s t) (b - 1) d ≡ unexplained_by s t (b - 1) d
    nineteen e = let q = range e in nineteen_is s t g.tabled lim (b - 1) (omega (arith, q.0, q.1)) d

    abbrev numbers : List Refusal
    numbers =
        on 12 t.has_closed ∷ on 7 (bad_bidder n b) ∷ on 13 (does_stand (t.standing b)) ∷ on 8 (unfit s.items d) ∷ on 19 (unexplained_by s t (b - 1) d) ∷ []

    report-number : report_number (stands_for s t) (tables_of s t) b d ≡ first numbers
    unfolding report_number stands_for
    report-number =
        passed 11 (not (well_formed (stands_for s t))) _ not-eleven
        ∙ passed 3 (bad_tables (stands_for s t).bidders (tables_of s t)) _ (not-bad s t g.tabled)
        ∙ passed 11 (not (tables_fit (stands_for s t) (tables_of s t))) _ (ap not (tables-fit s t g.tabled))
        ∙ first-same 12 (is_closed (stands_for s t).phase) t.has_closed _ _ (closed-stands s t)
        (λ e. first-same 7 (bad_bidder n b) (bad_bidder n b) _ _ refl
        (λ q. first-same 13 (has_reported (stands_for s t) b) (does_stand (t.standing b)) _ _ (thirteen q)
        (λ e. first-same 8 (unfit s.items d) (unfit s.items d) _ _ refl
        (λ e. first-same 19 (unexplained_at (stands_for s t) (tables_of s t) (b - 1) d) (unexplained_by s t (b - 1) d) [] [] (nineteen q) (λ e. refl)))))

    -- what no number says
    record Accepted : Type 0 where
      before_close : t.has_closed ≡ false
      some : 1 ≤ b
      first-time : t.standing b ≡ none

    accepted : first numbers ≡ 0 → Accepted
    accepted e =
        let q₁ = first_none 11 t.has_closed _ e in
        let q₂ = first_none 6 (bad_bidder n b) _ q₁.1 in
        let q₃ = first_none 12 (does_stand (t.standing b)) _ q₂.1 in
        record { before_close = q₁.0; some = (range q₂.0).0; first-time = not-standing (t.standing b) q₃.0 }

    -- place by place
    set_at : (k : ℕ) → cond (eqb k (b - 1)) d.items (said (t.standing (suc k))).items ≡ (said (cond (eqb k (b - 1)) (stands d) (t.standing (suc k)))).items
    set_at k = go (eqb k (b - 1))
      where
        go : (x : Bool) → cond x d.items (said (t.standing (suc k))).items ≡ (said (cond x (stands d) (t.standing (suc k)))).items
        go true = unfold said in refl
        go false = refl

    null-at : t.standing b ≡ none → (i : ℕ) → (said (t.standing i)).null || (d.null && eqb i b) ≡ (said (cond (eqb i b) (stands d) (t.standing i))).null
    null-at e i = go (eqb i b) refl
      where
        go : (x : Bool) → eqb i b ≡ x → (said (t.standing i)).null || (d.null && x) ≡ (said (cond x (stands d) (t.standing i))).null
        go true q =
            let z : t.standing i ≡ none = ap t.standing (eqb-true i b q) ∙ e in
            ap (λ (y : Standing). (said y).null || (d.null && true)) z ∙ (unfold said in and-true d.null)
        go false q = ap (λ (y : Bool). (said (t.standing i)).null || y) (and-right-false d.null false refl) ∙ or-false (said (t.standing i)).null

    stand-at : (i : ℕ) → does_stand (t.standing i) || eqb i b ≡ does_stand (cond (eqb i b) (stands d) (t.standing i))
    stand-at i = go (eqb i b)
      where
        go : (x : Bool) → does_stand (t.standing i) || x ≡ does_stand (cond x (stands d) (t.standing i))
        go true = or_right (does_stand (t.standing i)) true refl ∙ (unfold does_stand in refl)
        go false = or-false (does_stand (t.standing i))

    report-sets : 1 ≤ b → set (tabulate 64 (λ k. (said (t.standing (suc k))).items) 0) (b - 1) d.items ≡ tabulate 64 (λ k. (said ((with t b d).standing (suc k))).items) 0
    report-sets l =
        let q : suc (b - 1) ≡ b = omega arith in
        tabulate-set 64 (λ k. (said (t.standing (suc k))).items) (b - 1) d.items
        ∙ tabulate-same 64 (λ k. cond (eqb k (b - 1)) d.items (said (t.standing (suc k))).items) (λ k. (said ((with t b d).standing (suc k))).items)
        (λ k l. set_at k ∙ ap (λ (x : Bool). (said (cond x (stands d) (t.standing (suc k)))).items) (sym (eqb-suc-suc k (b - 1)) ∙ ap (eqb (suc k)) q))

    report-nulls : t.standing b ≡ none → set_of 64 (λ i. has (set_of 64 (λ i. (said (t.standing i)).null)) i || (d.null && eqb i b)) ≡ set_of 64 (λ i. (said ((with t b d).standing i)).null)
    report-nulls e =
        set_of-cong 64 (λ i. has (set_of 64 (λ i. (said (t.standing i)).null)) i || (d.null && eqb i b)) (λ i. (said ((with t b d).standing i)).null)
        (λ k l. ap (λ (x : Bool). x || (d.null && eqb (suc k) b)) (has-set_of 64 (λ i. (said (t.standing i)).null) k l) ∙ null-at e (suc k))

    report-reported : set_of 64 (λ i. has (set_of 64 (λ i. does_stand (t.standing i))) i || eqb i b) ≡ set_of 64 (λ i. does_stand ((with t b d).standing i))
    report-reported =
        set_of-cong 64 (λ i. has (set_of 64 (λ i. does_stand (t.standing i))) i || eqb i b) (λ i. does_stand ((with t b d).standing i))
        (λ k l. ap (λ (x : Bool). x || eqb (suc k) b) (has-set_of 64 (λ i. does_stand (t.standing i)) k l) ∙ stand-at (suc k))

    report-record : Accepted → with_report (stands_for s t) b d ≡ stands_for s (with t b d)
    unfolding with_report stands_for at phase
    report-record a =
        by_parts (with_report (stands_for s t) b d) (stands_for s (with t b d)) refl refl refl refl (report-sets a.some) (report-nulls a.first-time) report-reported refl refl refl

    pub report-follows : Follows s (call (held_for s t) (reporting b d)) (machine s t (reporting b d))
    unfolding call report machine machine_report held_for tables_of
    report-follows =
        subst (λ (x : ℕ). Follows s (call (held_for s t) (reporting b d)) (tells x t (with t b d))) report-number
        (replies s t (with t b d) (report_number (stands_for s t) (tables_of s t) b d) (with_report (stands_for s t) b d) g refl
        (λ e. let a = accepted (sym report-number ∙ e) in (report-record a, good-open (with t b d) refl refl a.before_close)))
