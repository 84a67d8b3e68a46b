-- After every call of a list from an opening each bidder has bids of 0 to 4,095 that meet the table and, where a report stands, explain it. THEORY.md 4.4. Assumes nothing.
use Prim.Native.Nat.{ℕ, zero, suc, ◌-◌, ◌≤◌, ◌<◌}
use mathlib.Core.Path.{◌≡◌, refl, ap, ap₂, ◌∙◌, subst}
use mathlib.Core.Bool.{Bool, true, false, ◌&&◌, not}
use mathlib.Core.List.{List, [], ◌∷◌}
use native.Mathlib.Omega.{arith}
use native.Mathlib.Decide.{ℕ_discrete}
use lib.IntN.{ℤ}
use Rattle.sets.specs.Count.{◌⇒◌}
use Rattle.sets.proofs.Counting.{and-true, and_left}
use Rattle.sets.proofs.Members.{empty-has}
use Rattle.rule.specs.Demand.{Demand}
use Rattle.rule.specs.Round.{Round, raised, lowered, closed}
use Rattle.rule.specs.Refusal.{bad_bidder}
use Rattle.rule.proofs.Refusal.{none as first_none, in-range}
use Rattle.reports.specs.Report.{unfit}
use Rattle.differences.specs.Table.{some_bids, meets}
use Rattle.differences.specs.Allowed.{explains, allows, unexplained}
use Rattle.differences.specs.Lent.{table_at}
use Rattle.differences.proofs.Laws.{explained-some, some_more, some-opening}
use Rattle.live.specs.Auction.{place, has_reported, well_formed}
use Rattle.live.specs.Tables.{bad_tables, tables_fit, open_tables, unexplained_at, narrowed_tables}
use Rattle.live.specs.Calls.{is_closed, opened, report_number, with_report, report, clear_number, cleared, clear, end_number, round_by, settled, end_next, narrowed_by, end_tables}
use Rattle.live.specs.declared.Auction.{Auction}
use Rattle.live.proofs.Formed.{Formed, formed}
use Rattle.agreement.specs.Calls.{Call, reporting, ending, clearing, reading, Held, call, run}
use Rattle.agreement.proofs.Keeps.{place_same, place_other, reported-same, reported-other}
use Rattle.agreement.proofs.Always.{Sound, keeps}
use Rattle.agreement.proofs.Calling.{ends}
use Rattle.agreement.proofs.Lent.{open_at, explained-at}
use Rattle.agreement.proofs.Allowed.{move-allows}

-- bids meet a table and, if a report stands, explain it
abbrev pub passes : (m : ℕ) (t : List (List ℤ)) (p : List ℕ) (stands : Bool) (d : Demand) → List ℕ → Bool
passes m t p stands d b = meets m t b && (stands ⇒ explains m p d b)

-- bids of the bidder at place k
abbrev pub passes_at : Held → ℕ → List ℕ → Bool
passes_at h k = passes h.auction.items (table_at h.tables k) h.auction.prices (has_reported h.auction (suc k)) (place h.auction k)

unfoldable pub Explainable : Held → Type 0
Explainable h = (k : ℕ) → k < h.auction.bidders → some_bids h.auction.items (passes_at h k) ≡ true

-- where no report stands, some bids meet the table
some-quiet : (m : ℕ) (t : List (List ℤ)) (p : List ℕ) (d : Demand) → some_bids m (meets m t) ≡ true → some_bids m (passes m t p false d) ≡ true
some-quiet m t p d e = some_more m (meets m t) (passes m t p false d) (λ b q h. and-true (meets m t b) ∙ h) e

module _ (h : Held) (g : Sound h) (x : Explainable h) where
  abbrev r : Auction
  r = h.auction

  abbrev ts : List ℤ
  ts = h.tables

  abbrev m : ℕ
  m = r.items

  f : Formed r
  f = formed r g.well-formed

  some-met : (k : ℕ) → k < r.bidders → some_bids m (meets m (table_at ts k)) ≡ true
  unfolding Explainable
  some-met k l = some_more m (passes_at h k) (meets m (table_at ts k)) (λ b q e. and_left (meets m (table_at ts k) b) _ e) (x k l)

  -- ---- a report

  some-told : (k : ℕ) (d : Demand) → unexplained m (table_at ts k) r.prices d ≡ false → some_bids m (passes m (table_at ts k) r.prices true d) ≡ true
  unfolding allows
  some-told k d e = explained-some m (table_at ts k) r.prices d e

  report-explainable : (b : ℕ) (d : Demand) → report_number r ts b d ≡ 0 → Explainable (record { auction = with_report r b d; tables = ts })
  unfolding report_number Explainable unexplained_at
  report-explainable b d e k l =
      let q₁ = first_none 10 (not (well_formed r)) _ e in
      let q₂ = first_none 2 (bad_tables r.bidders ts) _ q₁.1 in
      let q₃ = first_none 10 (not (tables_fit r ts)) _ q₂.1 in
      let q₄ = first_none 11 (is_closed r.phase) _ q₃.1 in
      let q₅ = first_none 6 (bad_bidder r.bidders b) _ q₄.1 in
      let q₆ = first_none 12 (has_reported r b) _ q₅.1 in
      let q₇ = first_none 7 (unfit m d) _ q₆.1 in
      let q₈ = first_none 18 (unexplained m (table_at ts (b - 1)) r.prices d) [] q₇.1 in
      let range : (1 ≤ b) × (b ≤ r.bidders) = in-range r.bidders b (unfold bad_bidder in q₅.0) in
      go range.0 range.1 q₆.0 q₇.0 q₈.0 (ℕ_discrete (suc k) b)
    where
      less : k < r.bidders
      less = unfold with_report in l

      wide : k < 64
      wide = omega (arith, less, f.max_bidders)

      -- what the bidder of place k has to pass after the report
      by : (s : Bool) (c : Demand) → has_reported (with_report r b d) (suc k) ≡ s → place (with_report r b d) k ≡ c → some_bids m (passes m (table_at ts k) r.prices s c) ≡ true
          → some_bids (with_report r b d).items (passes_at (record { auction = with_report r b d; tables = ts }) k) ≡ true
      by s c es ec h = unfold with_report in
          ap₂ (λ (s : Bool) (c : Demand). some_bids m (passes m (table_at ts k) r.prices s c)) (unfold with_report in es) (unfold with_report in ec) ∙ h

      go : 1 ≤ b → b ≤ r.bidders → has_reported r b ≡ false → unfit m d ≡ false → unexplained m (table_at ts (b - 1)) r.prices d ≡ false → Dec (suc k ≡ b)
          → some_bids (with_report r b d).items (passes_at (record { auction = with_report r b d; tables = ts }) k) ≡ true
      go some most fresh fit told (yes q) =
          let at : b - 1 ≡ k = omega arith in
          by true d (reported-same r g.placed f b d some most fresh fit k wide q) (place_same r g.placed f b d some most fresh fit k wide q)
          (some-told k d (subst (λ (j : ℕ). unexplained m (table_at ts j) r.prices d ≡ false) at told))
      go some most fresh fit told (no q) =
          by (has_reported r (suc k)) (place r k) (reported-other r g.placed f b d some most fresh fit k wide q) (place_other r g.placed f b d some most fresh fit k wide q) (x k less)

  -- ---- a clear, and a round

  clear-explainable : Explainable (record { auction = cleared r; tables = ts })
  unfolding Explainable cleared has_reported
  clear-explainable k l =
      ap (λ (s : Bool). some_bids m (passes m (table_at ts k) r.prices s (place (cleared r) k))) (empty-has (suc k))
      ∙ some-quiet m (table_at ts k) r.prices (place (cleared r) k) (some-met k l)

  -- after a move none stands, and whoever's report was explained has such bids left
  some-narrowed : end_number r ts ≡ 0 → (k : ℕ) → k < r.bidders → some_bids m (meets m (table_at (narrowed_tables r ts) k)) ≡ true
  unfolding allows
  some-narrowed e k l =
      some_more m (allows m (table_at ts k) r.prices (place r k)) (meets m (table_at (narrowed_tables r ts) k)) (λ b q ok. move-allows h g e k l b q ∙ ok)
      (explained-some m (table_at ts k) r.prices (place r k) (explained-at r ts (ends r ts e).explained k l))

  round-explainable : end_number r ts ≡ 0 → (y : Round) → Explainable (record { auction = settled r y; tables = narrowed_by r ts y })
  unfolding Explainable settled narrowed_by has_reported
  round-explainable e (raised s) k l =
      ap (λ (s' : Bool). some_bids m (passes m (table_at (narrowed_tables r ts) k) (settled r (raised s)).prices s' (place (settled r (raised s)) k))) (empty-has (suc k))
      ∙ some-quiet m (table_at (narrowed_tables r ts) k) (settled r (raised s)).prices (place (settled r (raised s)) k) (some-narrowed e k l)
  round-explainable e (lowered s) k l =
      ap (λ (s' : Bool). some_bids m (passes m (table_at (narrowed_tables r ts) k) (settled r (lowered s)).prices s' (place (settled r (lowered s)) k))) (empty-has (suc k))
      ∙ some-quiet m (table_at (narrowed_tables r ts) k) (settled r (lowered s)).prices (place (settled r (lowered s)) k) (some-narrowed e k l)
  round-explainable e closed k l = unfold place has_reported in x k l

  -- ---- every call

  by-number : (n : ℕ) (new : Auction) → (n ≡ 0 → Explainable (record { auction = new; tables = ts })) → Explainable (record { auction = elim n [ zero ↦ new | suc j ↦ r ]; tables = ts })
  by-number zero new h = h refl
  by-number (suc j) new h = x

  by_end : (n : ℕ) → end_number r ts ≡ n
      → Explainable (record { auction = elim n [ zero ↦ settled r (round_by r) | suc j ↦ r ]; tables = elim n [ zero ↦ narrowed_by r ts (round_by r) | suc j ↦ ts ] })
  by_end zero e = round-explainable e (round_by r)
  by_end (suc j) e = x

  pub keeps-explainable : (c : Call) → Explainable (call h c).next
  unfolding call report clear end_next end_tables
  keeps-explainable (reporting b d) = by-number (report_number r ts b d) (with_report r b d) (report-explainable b d)
  keeps-explainable ending = by_end (end_number r ts) refl
  keeps-explainable clearing = by-number (clear_number r) (cleared r) (λ e. clear-explainable)
  keeps-explainable (reading out) = x

-- ---- lists, and the opening

pub all-explainable : (h : Held) → Sound h → Explainable h → (calls : List Call) → Explainable (run h calls).last
unfolding run
all-explainable h g x [] = x
all-explainable h g x (c ∷ calls) = all-explainable (call h c).next (keeps h g c) (keeps-explainable h g x c) calls

pub opened-explainable : (m n : ℕ) (start floors : List ℕ) → m ≤ 32 → Explainable (record { auction = opened m n start floors; tables = open_tables m n })
unfolding Explainable opened has_reported
opened-explainable m n start floors few k l =
    ap (λ (s : Bool). some_bids m (passes m (table_at (open_tables m n) k) (opened m n start floors).prices s (place (opened m n start floors) k))) (empty-has (suc k))
    ∙ some-quiet m (table_at (open_tables m n) k) (opened m n start floors).prices (place (opened m n start floors) k)
    (ap (λ (t : List (List ℤ)). some_bids m (meets m t)) (open_at m n k l) ∙ some-opening m few)
