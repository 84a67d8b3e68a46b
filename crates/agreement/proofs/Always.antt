-- Every call hands back a well formed record and leaves tables that fit if it was given such, and an opening that is not turned down makes them: after an opening,
-- 11 applies to no call of any list, whatever is reported. The record beside an opening that is turned down gets 11, whatever tables are lent. A call that is
-- turned down leaves record, tables and lent bytes as before. Assumes nothing.
use Prim.Native.Nat.{ℕ, zero, suc, ◌*◌, ◌≤◌, ◌<◌}
use mathlib.Core.Path.{◌≡◌, refl, sym, ap, ◌∙◌, subst}
use mathlib.Core.Bool.{Bool, true, false, ◌&&◌, not}
use mathlib.Core.List.{List, [], ◌∷◌}
use native.Mathlib.Omega.{arith}
use native.Mathlib.Decide.{dec_le}
use lib.Dec.{eqb}
use lib.IntN.{ℤ}
use lib.ListN.{length, replicate, length-set, length-replicate, get_or-eq_default}
use borrow.Author.Tests.{ne_eqb}
use Rattle.sets.specs.Lists.{places}
use Rattle.sets.proofs.Counting.{and_both}
use Rattle.sets.proofs.Lists.{places-length, places-at}
use Rattle.sets.proofs.Sums.{sum_mono}
use Rattle.rule.specs.Sheet.{amount, price_sum}
use Rattle.rule.specs.Demand.{Demand}
use Rattle.rule.specs.Round.{Round, raised, lowered, closed}
use Rattle.rule.specs.Refusal.{Refusal, on, first, any_over, bad_floors, bad_bidder}
use Rattle.rule.proofs.Refusal.{passed, given, none as first_none, other, in-range, floors-fit}
use Rattle.rule.proofs.Limits.{amount-beyond}
use Rattle.lines.specs.Lines.{written_to}
use Rattle.reports.specs.Report.{unfit}
use Rattle.live.specs.Auction.{has_reported, missing, rising_set, well_formed}
use Rattle.live.specs.Tables.{bad_tables, tables_fit, any_unexplained}
use Rattle.live.specs.Calls.{is_closed, is_falling, is_rising, at_top, open_number, open_above_number, zeros, opened, unopened, opened_by, open_above, open_auction, filled_by, report_number, with_report, report, clear_number, cleared, clear, end_number, round_by, settled, gives, refused, end_answer, end_next, narrowed_by, end_tables}
use Rattle.live.specs.Reading.{read_number, sheet_of, read_bytes}
use Rattle.live.specs.declared.Auction.{Auction}
use Rattle.live.specs.declared.Phase.TheVariants.{Rising}
use Rattle.live.specs.declared.Reply.{Reply}
use Rattle.agreement.specs.Calls.{Call, reporting, ending, clearing, reading, ended, Held, call, run}
use Rattle.agreement.specs.Agreement.{opened_with, number_of, never}
use Rattle.live.proofs.Formed.{not-over, Formed, formed, well}
use Rattle.live.proofs.Opening.{tables-exact, opens, number-zero, zero-floors}
use Rattle.agreement.proofs.Lent.{open-long, open-fit, after-fit, after-long}
use Rattle.agreement.proofs.Keeps.{without-reports, not-closed, cleared-formed, reported-formed}
use Rattle.agreement.proofs.Settles.{settled-formed, rising-make}

-- what is held is sound if the record is well formed and the tables fit it; the record's item sets stand in 64 places and its floors in 32, as those of every
-- record of the code do, and there is a table for each bidder
pub record Sound (h : Held) : Type 0 where
  pub placed : length h.auction.sets ≡ 64
  pub floored : length h.auction.floors ≡ 32
  pub well-formed : well_formed h.auction ≡ true
  pub long : length h.tables ≡ h.auction.bidders * 1089
  pub fit : tables_fit h.auction h.tables ≡ true

-- ---- calls

sets-after : (r : Auction) (x : Round) → length r.sets ≡ 64 → length (settled r x).sets ≡ 64
unfolding settled
sets-after r (raised s) e = length-replicate {A = ℕ} 64 0
sets-after r (lowered s) e = length-replicate {A = ℕ} 64 0
sets-after r closed e = e

floors-after : (r : Auction) (x : Round) → length r.floors ≡ 32 → length (settled r x).floors ≡ 32
unfolding settled
floors-after r (raised s) e = e
floors-after r (lowered s) e = e
floors-after r closed e = e

-- a report or a clear leaves the tables; an end may not
sound-by : (x : ℕ) (new : Auction) (h : Held) → (x ≡ 0 → Sound (record { auction = new; tables = h.tables })) → Sound h
    → Sound (record { auction = elim x [ zero ↦ new | suc j ↦ h.auction ]; tables = h.tables })
sound-by zero new h f g = f refl
sound-by (suc j) new h f g = g

end_by : (x : ℕ) (new : Auction) (after : List ℤ) (h : Held) → (x ≡ 0 → Sound (record { auction = new; tables = after })) → Sound h
    → Sound (record { auction = elim x [ zero ↦ new | suc j ↦ h.auction ]; tables = elim x [ zero ↦ after | suc j ↦ h.tables ] })
end_by zero new after h f g = f refl
end_by (suc j) new after h f g = g

-- what it says that a call gets no number
bidder-range : (n b : ℕ) → bad_bidder n b ≡ false → (1 ≤ b) × (b ≤ n)
unfolding bad_bidder
bidder-range n b e = in-range n b e

module _ (h : Held) (g : Sound h) where
  abbrev r : Auction
  r = h.auction

  abbrev ts : List ℤ
  ts = h.tables

  f : Formed r
  f = formed r g.well-formed

  report-sound : (b : ℕ) (d : Demand) → report_number h.auction h.tables b d ≡ 0 → Sound (record { auction = with_report h.auction b d; tables = h.tables })
  unfolding report_number with_report
  report-sound b d e =
      let q₁ = first_none 10 (not (well_formed r)) _ e in
      let q₂ = first_none 2 (bad_tables r.bidders ts) _ q₁.1 in
      let q₃ = first_none 10 (not (tables_fit r ts)) _ q₂.1 in
      let q₄ = first_none 11 (is_closed r.phase) _ q₃.1 in
      let q₅ = first_none 6 (bad_bidder r.bidders b) _ q₄.1 in
      let q₆ = first_none 12 (has_reported r b) _ q₅.1 in
      let q₇ = first_none 7 (unfit r.items d) _ q₆.1 in
      let range = bidder-range r.bidders b q₅.0 in
      record {
        placed = length-set r.sets _ d.items ∙ g.placed;
        floored = g.floored;
        well-formed = well (with_report r b d) (reported-formed r g.placed f b d range.0 range.1 q₆.0 q₇.0 q₄.0);
        long = g.long;
        fit = unfold tables_fit in g.fit;
      }

  clear-sound : clear_number h.auction ≡ 0 → Sound (record { auction = cleared h.auction; tables = h.tables })
  unfolding clear_number cleared
  clear-sound e =
      let q₁ = first_none 10 (not (well_formed r)) _ e in
      let q₂ = first_none 11 (is_closed r.phase) [] q₁.1 in
      record {
        placed = length-replicate {A = ℕ} 64 0;
        floored = g.floored;
        well-formed = well (cleared r) (cleared-formed r q₂.0 f);
        long = g.long;
        fit = unfold tables_fit in g.fit;
      }

  end-sound : end_number h.auction h.tables ≡ 0
      → Sound (record { auction = settled h.auction (round_by h.auction); tables = narrowed_by h.auction h.tables (round_by h.auction) })
  unfolding end_number
  end-sound e =
      let q₁ = first_none 10 (not (well_formed r)) _ e in
      let q₂ = first_none 2 (bad_tables r.bidders ts) _ q₁.1 in
      let q₃ = first_none 10 (not (tables_fit r ts)) _ q₂.1 in
      let q₄ = first_none 11 (is_closed r.phase) _ q₃.1 in
      let q₅ = first_none 13 (missing r) _ q₄.1 in
      let q₆ = first_none 18 (any_unexplained r ts) _ q₅.1 in
      let q₇ = first_none 15 (is_falling r.phase && not (eqb (rising_set r) 0)) _ q₆.1 in
      let q₈ = first_none 16 (is_rising r.phase && at_top r.items r.prices (rising_set r)) [] q₇.1 in
      record {
        placed = sets-after r (round_by r) g.placed;
        floored = floors-after r (round_by r) g.floored;
        well-formed = well (settled r (round_by r)) (settled-formed r f g.floored q₄.0 q₅.0 q₇.0 q₈.0);
        long = after-long r ts g.long (round_by r);
        fit = after-fit r ts f g.fit q₆.0 (round_by r);
      }

  pub keeps : (c : Call) → Sound (call h c).next
  unfolding call report clear end_next end_tables
  keeps (reporting b d) = sound-by (report_number r ts b d) (with_report r b d) h (report-sound b d) g
  keeps ending = end_by (end_number r ts) (settled r (round_by r)) (narrowed_by r ts (round_by r)) h end-sound g
  keeps clearing = sound-by (clear_number r) (cleared r) h clear-sound g
  keeps (reading out) = g

  -- 3 does not apply to the tables
  pub not_three : bad_tables h.auction.bidders h.tables ≡ false
  not_three = tables-exact r.bidders ts g.long

-- ---- lists of calls

pub keeps-all : (h : Held) → Sound h → (calls : List Call) → Sound (run h calls).last
unfolding run
keeps-all h g [] = g
keeps-all h g (c ∷ calls) = keeps-all (call h c).next (keeps h g c) calls

none-eleven : first [] ≡ 11 → ⊥
unfolding first
none-eleven e = omega arith

pub ended-number : (x : ℕ) (y : Round) → number_of (ended (elim x [ zero ↦ gives y | suc j ↦ refused (suc j) ])) ≡ x
unfolding number_of
ended-number zero y = refl
ended-number (suc j) y = refl

module _ (h : Held) (w : well_formed h.auction ≡ true) (fit : tables_fit h.auction h.tables ≡ true) where
  eleven : (rest : List Refusal) → (first rest ≡ 11 → ⊥) → first (on 11 (not (well_formed h.auction)) ∷ rest) ≡ 11 → ⊥
  eleven rest ne e = ne (sym (passed 11 (not (well_formed h.auction)) rest (ap not w)) ∙ e)

  -- 3 and 11 of the tables, behind it
  tables-eleven : (rest : List Refusal) → (first rest ≡ 11 → ⊥)
      → first (on 3 (bad_tables h.auction.bidders h.tables) ∷ on 11 (not (tables_fit h.auction h.tables)) ∷ rest) ≡ 11 → ⊥
  tables-eleven rest ne =
      other 3 11 (bad_tables h.auction.bidders h.tables) (on 11 (not (tables_fit h.auction h.tables)) ∷ rest) (λ q. omega arith)
      (λ e. ne (sym (passed 11 (not (tables_fit h.auction h.tables)) rest (ap not fit)) ∙ e))

  pub not-eleven : (c : Call) → number_of (call h c).answer ≡ 11 → ⊥
  unfolding call report clear end_answer report_number clear_number end_number read_number number_of
  not-eleven (reporting b d) e =
      eleven _ (tables-eleven _ (other 12 11 _ _ (λ q. omega arith) (other 7 11 _ _ (λ q. omega arith) (other 13 11 _ _ (λ q. omega arith)
      (other 8 11 _ _ (λ q. omega arith) (other 19 11 _ _ (λ q. omega arith) none-eleven))))))
      e
  not-eleven ending e =
      eleven _ (tables-eleven _ (other 12 11 _ _ (λ q. omega arith) (other 14 11 _ _ (λ q. omega arith) (other 19 11 _ _ (λ q. omega arith)
      (other 16 11 _ _ (λ q. omega arith) (other 17 11 _ _ (λ q. omega arith) none-eleven))))))
      (sym (ended-number (end_number h.auction h.tables) (round_by h.auction)) ∙ e)
  not-eleven clearing e = eleven _ (other 12 11 _ _ (λ q. omega arith) none-eleven) e
  not-eleven (reading out) e = eleven _ (other 15 11 _ _ (λ q. omega arith) (other 3 11 _ _ (λ q. omega arith) none-eleven)) e

pub never_eleven : (h : Held) → Sound h → (calls : List Call) → never 11 (run h calls).answers ≡ true
unfolding run never
never_eleven h g [] = refl
never_eleven h g (c ∷ calls) =
    and_both (not (eqb (number_of (call h c).answer) 11)) (never 11 (run (call h c).next calls).answers)
    (ap not (ne_eqb (number_of (call h c).answer) 11 (not-eleven h g.well-formed g.fit c))) (never_eleven (call h c).next (keeps h g c) calls)

-- ---- opening

module _ (m n : ℕ) (start floors : List ℕ) (lent : List ℤ) where
  opened-formed : open_above_number m n start floors lent ≡ 0 → Formed (opened m n start floors)
  unfolding opened
  opened-formed e =
      let a = opens m n start floors lent e in
      without-reports (opened m n start floors) refl refl refl a.some_item a.max_items a.some-bidder a.max_bidders (range a.starts) (past a.start-long) (low a.lows)
      (rising-make (opened m n start floors) refl (omega (arith, low_sum a.lows))) (not-closed Rising (opened m n start floors) refl)
    where
      range : any_over start ≡ false → (i : ℕ) → amount (places 32 start) i ≤ 4095
      range e zero = unfold amount in omega arith
      range e (suc k) = go (dec_le 32 k)
        where
          go : Dec (32 ≤ k) → amount (places 32 start) (suc k) ≤ 4095
          go (yes l) = omega (arith, amount-beyond 32 (places 32 start) (places-length 32 start) (suc k) (omega arith))
          go (no l) = unfold amount in omega (arith, places-at 32 start k (omega arith), not-over start e (suc k))

      past : length start ≡ m → (k : ℕ) → k < 32 → m ≤ k → amount (places 32 start) (suc k) ≡ 0
      past e k l h = unfold amount in places-at 32 start k l ∙ get_or-eq_default start 0 (omega arith)

      low : bad_floors start floors ≡ false → (i : ℕ) → amount (places 32 floors) i ≤ amount (places 32 start) i
      low e zero = unfold amount in omega arith
      low e (suc k) = go (dec_le 32 k)
        where
          go : Dec (32 ≤ k) → amount (places 32 floors) (suc k) ≤ amount (places 32 start) (suc k)
          go (yes l) = omega (arith, amount-beyond 32 (places 32 floors) (places-length 32 floors) (suc k) (omega arith))
          go (no l) = unfold amount in omega (arith, places-at 32 start k (omega arith), places-at 32 floors k (omega arith), (floors-fit start floors e).0 k)

      low_sum : bad_floors start floors ≡ false → price_sum m (places 32 floors) ≤ price_sum m (places 32 start)
      low_sum e = unfold price_sum in sum_mono m (λ k. amount (places 32 floors) (suc k)) (λ k. amount (places 32 start) (suc k)) (λ k l. low e (suc k))

  pub above-sound : (open_above m n start floors lent).number ≡ 0 → Sound (opened_with m n start floors lent)
  unfolding open_above opened_by opened_with filled_by
  above-sound e = go (open_above_number m n start floors lent) refl e
    where
      go : (x : ℕ) → open_above_number m n start floors lent ≡ x → (opened_by x m n start floors).number ≡ 0
          → Sound (record { auction = (opened_by x m n start floors).next; tables = filled_by x m n lent })
      go zero q h =
          record {
            placed = unfold opened in length-replicate {A = ℕ} 64 0;
            floored = unfold opened in places-length 32 floors;
            well-formed = well (opened m n start floors) (opened-formed q);
            long = unfold opened in open-long m n;
            fit = unfold opened in open-fit (opened m n start floors) (opened-formed q).max_items;
          }
      go (suc j) q h = absurd (let z : suc j ≡ 0 = unfold unopened in h in omega arith)

-- ---- the record beside an opening that is turned down

zeros-malformed : well_formed zeros ≡ false
zeros-malformed = go (well_formed zeros) refl
  where
    go : (b : Bool) → well_formed zeros ≡ b → well_formed zeros ≡ false
    go false e = e
    go true e = absurd (let few : 1 ≤ zeros.items = (formed zeros e).some_item in let z : zeros.items ≡ 0 = unfold zeros in refl in omega arith)

pub zeros_eleven : (ts : List ℤ) (c : Call) → number_of (call (record { auction = zeros; tables = ts }) c).answer ≡ 11
unfolding call report clear end_answer report_number clear_number end_number read_number number_of
zeros_eleven ts (reporting b d) = given 11 (not (well_formed zeros)) _ (ap not zeros-malformed)
zeros_eleven ts ending = ended-number (end_number zeros ts) (round_by zeros) ∙ given 11 (not (well_formed zeros)) _ (ap not zeros-malformed)
zeros_eleven ts clearing = given 11 (not (well_formed zeros)) _ (ap not zeros-malformed)
zeros_eleven ts (reading out) = given 11 (not (well_formed zeros)) _ (ap not zeros-malformed)

pub above-eleven : (m n : ℕ) (start floors : List ℕ) (lent : List ℤ) → ((open_above m n start floors lent).number ≡ 0 → ⊥) → (ts : List ℤ) (c : Call)
    → number_of (call (record { auction = (open_above m n start floors lent).next; tables = ts }) c).answer ≡ 11
unfolding open_above opened_by
above-eleven m n start floors lent ne ts c = go (open_above_number m n start floors lent) ne
  where
    go : (x : ℕ) → ((opened_by x m n start floors).number ≡ 0 → ⊥) → number_of (call (record { auction = (opened_by x m n start floors).next; tables = ts }) c).answer ≡ 11
    go zero h = absurd (h refl)
    go (suc j) h = unfold unopened in zeros_eleven ts c

-- ---- an opening without floors is one with floors of 0

-- what is held after an opening without floors
abbrev pub opened_from : (items bidders : ℕ) (start : List ℕ) (lent : List ℤ) → Held
opened_from m n start lent = record { auction = (open_auction m n start lent).next; tables = filled_by (open_number m n start lent) m n lent }

held-zero : (m n : ℕ) (start : List ℕ) (lent : List ℤ) → opened_with m n start (replicate m 0) lent ≡ opened_from m n start lent
unfolding opened_with
held-zero m n start lent =
    ap (λ (x : Reply). record { auction = x.next; tables = filled_by (open_above_number m n start (replicate m 0) lent) m n lent }) (zero-floors m n start lent)
    ∙ ap (λ (x : ℕ). record { auction = (open_auction m n start lent).next; tables = filled_by x m n lent }) (number-zero m n start lent)

pub open-sound : (m n : ℕ) (start : List ℕ) (lent : List ℤ) → (open_auction m n start lent).number ≡ 0 → Sound (opened_from m n start lent)
open-sound m n start lent e =
    subst Sound (held-zero m n start lent) (above-sound m n start (replicate m 0) lent (ap (λ (x : Reply). x.number) (zero-floors m n start lent) ∙ e))

pub refused-eleven : (m n : ℕ) (start : List ℕ) (lent : List ℤ) → ((open_auction m n start lent).number ≡ 0 → ⊥) → (ts : List ℤ) (c : Call)
    → number_of (call (record { auction = (open_auction m n start lent).next; tables = ts }) c).answer ≡ 11
refused-eleven m n start lent =
    subst (λ (x : Reply). (x.number ≡ 0 → ⊥) → (ts : List ℤ) (c : Call) → number_of (call (record { auction = x.next; tables = ts }) c).answer ≡ 11) (zero-floors m n start lent)
    (above-eleven m n start (replicate m 0) lent)

-- an opening that is turned down leaves the lent tables as before
pub lent_before : (m n : ℕ) (start floors : List ℕ) (lent : List ℤ) → ((open_above m n start floors lent).number ≡ 0 → ⊥) → (opened_with m n start floors lent).tables ≡ lent
unfolding open_above opened_by opened_with filled_by
lent_before m n start floors lent ne = go (open_above_number m n start floors lent) ne
  where
    go : (x : ℕ) → ((opened_by x m n start floors).number ≡ 0 → ⊥) → filled_by x m n lent ≡ lent
    go zero h = absurd (h refl)
    go (suc j) h = refl

-- ---- a call that is turned down hands back record, tables and lent bytes as before

by-number : (x : ℕ) (new : Auction) (after : List ℤ) (h : Held) → (x ≡ 0 → ⊥)
    → record { auction = elim x [ zero ↦ new | suc j ↦ h.auction ]; tables = elim x [ zero ↦ after | suc j ↦ h.tables ] } ≡ h
by-number zero new after h ne = absurd (ne refl)
by-number (suc j) new after h ne = refl

told-number : (x : ℕ) (new : Auction) (h : Held) → (x ≡ 0 → ⊥) → record { auction = elim x [ zero ↦ new | suc j ↦ h.auction ]; tables = h.tables } ≡ h
told-number zero new h ne = absurd (ne refl)
told-number (suc j) new h ne = refl

pub as_before : (h : Held) (c : Call) → (number_of (call h c).answer ≡ 0 → ⊥) → (call h c).next ≡ h
unfolding call report clear end_answer end_next end_tables number_of
as_before h (reporting b d) ne = told-number (report_number h.auction h.tables b d) (with_report h.auction b d) h ne
as_before h ending ne =
    by-number (end_number h.auction h.tables) (settled h.auction (round_by h.auction)) (narrowed_by h.auction h.tables (round_by h.auction)) h
    (λ e. ne (ended-number (end_number h.auction h.tables) (round_by h.auction) ∙ e))
as_before h clearing ne = told-number (clear_number h.auction) (cleared h.auction) h ne
as_before h (reading out) ne = refl

pub bytes-before : (r : Auction) (out : List ℕ) → (read_number r out ≡ 0 → ⊥) → read_bytes r out ≡ out
unfolding read_bytes
bytes-before r out h = go (read_number r out) h
  where
    go : (x : ℕ) → (x ≡ 0 → ⊥) → elim x [ zero ↦ written_to out (sheet_of r) | suc j ↦ out ] ≡ out
    go zero h = absurd (h refl)
    go (suc j) h = refl
