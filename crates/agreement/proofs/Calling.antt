-- What every call leaves as it was: the counts; and once the auction is closed, everything. Assumes nothing.
use Prim.Native.Nat.{ℕ, zero, suc}
use mathlib.Core.Path.{◌≡◌, refl, ap, ap₂, ◌∙◌}
use mathlib.Core.Bool.{true, false, not}
use mathlib.Core.List.{List, [], ◌∷◌, ◌++◌}
use lib.IntN.{ℤ}
use Rattle.sets.proofs.Counting.{not-both}
use Rattle.rule.specs.Demand.{Demand}
use Rattle.rule.specs.Round.{Round, raised, lowered, closed}
use Rattle.rule.proofs.Refusal.{none as first_none}
use Rattle.live.specs.Auction.{missing, well_formed}
use Rattle.live.specs.Tables.{bad_tables, tables_fit, any_unexplained}
use Rattle.live.specs.Calls.{is_closed, report_number, with_report, report, clear_number, cleared, clear, end_number, round_by, settled, gives, refused, end_answer, end_next, narrowed_by, end_tables}
use Rattle.live.specs.declared.Auction.{Auction}
use Rattle.agreement.specs.Calls.{Call, reporting, ending, clearing, reading, Held, call, run}
use Rattle.agreement.specs.Explained.{Played, played_by, played_in, played}

-- ---- counts

by-counts : (f : Auction → ℕ) (x : ℕ) (new r : Auction) → f new ≡ f r → f (elim x [ zero ↦ new | suc j ↦ r ]) ≡ f r
by-counts f zero new r e = e
by-counts f (suc j) new r e = refl

settled-items : (r : Auction) (x : Round) → (settled r x).items ≡ r.items
unfolding settled
settled-items r (raised s) = refl
settled-items r (lowered s) = refl
settled-items r closed = refl

settled-bidders : (r : Auction) (x : Round) → (settled r x).bidders ≡ r.bidders
unfolding settled
settled-bidders r (raised s) = refl
settled-bidders r (lowered s) = refl
settled-bidders r closed = refl

pub same_items : (h : Held) (c : Call) → (call h c).next.auction.items ≡ h.auction.items
unfolding call report clear end_next with_report cleared
same_items h (reporting b d) = by-counts (λ (r : Auction). r.items) (report_number h.auction h.tables b d) (with_report h.auction b d) h.auction refl
same_items h ending = by-counts (λ (r : Auction). r.items) (end_number h.auction h.tables) (settled h.auction (round_by h.auction)) h.auction (settled-items h.auction (round_by h.auction))
same_items h clearing = by-counts (λ (r : Auction). r.items) (clear_number h.auction) (cleared h.auction) h.auction refl
same_items h (reading out) = refl

pub same_bidders : (h : Held) (c : Call) → (call h c).next.auction.bidders ≡ h.auction.bidders
unfolding call report clear end_next with_report cleared
same_bidders h (reporting b d) = by-counts (λ (r : Auction). r.bidders) (report_number h.auction h.tables b d) (with_report h.auction b d) h.auction refl
same_bidders h ending = by-counts (λ (r : Auction). r.bidders) (end_number h.auction h.tables) (settled h.auction (round_by h.auction)) h.auction (settled-bidders h.auction (round_by h.auction))
same_bidders h clearing = by-counts (λ (r : Auction). r.bidders) (clear_number h.auction) (cleared h.auction) h.auction refl
same_bidders h (reading out) = refl

-- ---- an end that gets no number: the auction is open, no report is missing, and every report is explained

pub record Ends (r : Auction) (ts : List ℤ) : Type 0 where
  pub running : is_closed r.phase ≡ false
  pub complete : missing r ≡ false
  pub explained : any_unexplained r ts ≡ false

pub ends : (r : Auction) (ts : List ℤ) → end_number r ts ≡ 0 → Ends r ts
unfolding end_number
ends r ts e =
    let q₁ = first_none 10 (not (well_formed r)) _ e in
    let q₂ = first_none 2 (bad_tables r.bidders ts) _ q₁.1 in
    let q₃ = first_none 10 (not (tables_fit r ts)) _ q₂.1 in
    let q₄ = first_none 11 (is_closed r.phase) _ q₃.1 in
    let q₅ = first_none 13 (missing r) _ q₄.1 in
    let q₆ = first_none 18 (any_unexplained r ts) _ q₅.1 in
    record { running = q₄.0; complete = q₅.0; explained = q₆.0 }

-- ---- once closed, no call changes anything, and no round is played

module _ (h : Held) (shut : is_closed h.auction.phase ≡ true) where
  abbrev r : Auction
  r = h.auction

  abbrev ts : List ℤ
  ts = h.tables

  not-ended : end_number r ts ≡ 0 → ⊥
  not-ended e = not-both (is_closed r.phase) shut (ends r ts e).running

  not-reported : (b : ℕ) (d : Demand) → report_number r ts b d ≡ 0 → ⊥
  unfolding report_number
  not-reported b d e =
      let q₁ = first_none 10 (not (well_formed r)) _ e in
      let q₂ = first_none 2 (bad_tables r.bidders ts) _ q₁.1 in
      let q₃ = first_none 10 (not (tables_fit r ts)) _ q₂.1 in
      let q₄ = first_none 11 (is_closed r.phase) _ q₃.1 in
      not-both (is_closed r.phase) shut q₄.0

  not-cleared : clear_number r ≡ 0 → ⊥
  unfolding clear_number
  not-cleared e =
      let q₁ = first_none 10 (not (well_formed r)) _ e in
      let q₂ = first_none 11 (is_closed r.phase) _ q₁.1 in
      not-both (is_closed r.phase) shut q₂.0

  kept : (x : ℕ) (new : Auction) → (x ≡ 0 → ⊥) → elim x [ zero ↦ new | suc j ↦ r ] ≡ r
  kept zero new ne = absurd (ne refl)
  kept (suc j) new ne = refl

  kept_tables : (x : ℕ) (new : List ℤ) → (x ≡ 0 → ⊥) → elim x [ zero ↦ new | suc j ↦ ts ] ≡ ts
  kept_tables zero new ne = absurd (ne refl)
  kept_tables (suc j) new ne = refl

  none-played : (x : ℕ) (y : Round) → (x ≡ 0 → ⊥) → played_by r (elim x [ zero ↦ gives y | suc j ↦ refused (suc j) ]) ≡ []
  unfolding played_by
  none-played zero y ne = absurd (ne refl)
  none-played (suc j) y ne = refl

  pub closed-keeps : (c : Call) → (call h c).next ≡ h
  unfolding call report clear end_next end_tables
  closed-keeps (reporting b d) = ap (λ (a : Auction). record { auction = a; tables = ts }) (kept (report_number r ts b d) (with_report r b d) (not-reported b d))
  closed-keeps ending =
      ap₂ (λ (a : Auction) (t : List ℤ). record { auction = a; tables = t }) (kept (end_number r ts) (settled r (round_by r)) not-ended)
      (kept_tables (end_number r ts) (narrowed_by r ts (round_by r)) not-ended)
  closed-keeps clearing = ap (λ (a : Auction). record { auction = a; tables = ts }) (kept (clear_number r) (cleared r) not-cleared)
  closed-keeps (reading out) = refl

  pub closed-plays : (c : Call) → played_in h c ≡ []
  unfolding played_in end_answer
  closed-plays (reporting b d) = refl
  closed-plays ending = none-played (end_number r ts) (round_by r) not-ended
  closed-plays clearing = refl
  closed-plays (reading out) = refl

pub closed-last : (h : Held) → is_closed h.auction.phase ≡ true → (calls : List Call) → (run h calls).last ≡ h
unfolding run
closed-last h shut [] = refl
closed-last h shut (c ∷ calls) = ap (λ (x : Held). (run x calls).last) (closed-keeps h shut c) ∙ closed-last h shut calls

pub closed-played : (h : Held) → is_closed h.auction.phase ≡ true → (calls : List Call) → played h calls ≡ []
unfolding played
closed-played h shut [] = refl
closed-played h shut (c ∷ calls) =
    ap₂ (λ (xs ys : List Played). xs ++ ys) (closed-plays h shut c) (ap (λ (x : Held). played x calls) (closed-keeps h shut c) ∙ closed-played h shut calls)
