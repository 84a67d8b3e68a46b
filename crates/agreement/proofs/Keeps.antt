-- Report and clear keep a record well formed. Assumes nothing.
use Prim.Native.Nat.{ℕ, suc, ◌-◌, ◌≤◌, ◌<◌}
use mathlib.Core.Path.{◌≡◌, refl, sym, ap, ◌∙◌, subst}
use mathlib.Core.Bool.{Bool, true, false, ◌&&◌, ◌||◌, not}
use mathlib.Core.List.{List}
use native.Mathlib.Omega.{arith}
use native.Mathlib.Decide.{ℕ_discrete}
use lib.Dec.{eqb}
use lib.ListN.{length, get_or, set, replicate, get_or-replicate}
use lib.Seq.{get_or-set_same, get_or-set_other}
use borrow.Author.Tests.{eq-eqb, ne_eqb}
use Rattle.sets.specs.Bit.{has, set_of}
use Rattle.sets.proofs.Counting.{and_left, or_right, not-both, not_is, or-false, and-true, and-right-false, or_right_false}
use Rattle.sets.proofs.Members.{has-set_of, empty-has}
use Rattle.rule.specs.Sheet.{amount}
use Rattle.rule.specs.Demand.{Demand}
use Rattle.rule.specs.Refusal.{most_live_bidders}
use Rattle.reports.specs.Report.{is_empty, beyond, unfit}
use Rattle.reports.proofs.Laws.{empty-within}
use Rattle.live.specs.Auction.{place, has_reported, rounds_fit, close_fits}
use Rattle.live.specs.Calls.{is_closed, with_report, cleared}
use Rattle.live.specs.declared.Auction.{Auction}
use Rattle.live.specs.declared.Phase.{Phase}
use Rattle.live.specs.declared.Phase.TheVariants.{Rising, Falling, Closed}
use Rattle.live.proofs.Formed.{Formed}

-- ---- rounds and close of two records

pub rounds-of : (ph : Phase) (a b : Auction) → a.items ≡ b.items → a.prices ≡ b.prices → a.floors ≡ b.floors → a.raised ≡ b.raised → a.lowered ≡ b.lowered → rounds_fit ph a ≡ rounds_fit ph b
unfolding rounds_fit
rounds-of Rising a b e1 e2 e3 e4 e5 = cc
rounds-of Falling a b e1 e2 e3 e4 e5 = cc
rounds-of Closed a b e1 e2 e3 e4 e5 = cc

pub not-closed : (ph : Phase) (q : Auction) → is_closed ph ≡ false → close_fits ph q ≡ true
unfolding close_fits
not-closed Rising q e = refl
not-closed Falling q e = refl
not-closed Closed q e = absurd (not-both true refl e)

-- ---- the empty report

-- of a record without reports
module _ (q : Auction) (no-sets : q.sets ≡ replicate 64 0) (no-nulls : q.nulls ≡ 0) (no-reported : q.reported ≡ 0) where
  empty-place : (k : ℕ) → k < 64 → place q k ≡ record { null = false; items = 0 }
  unfolding place
  empty-place k l =
      let a : has q.nulls (suc k) ≡ false = ap (λ (x : ℕ). has x (suc k)) no-nulls ∙ empty-has (suc k) in
      let b : get_or q.sets k 0 ≡ 0 = ap (λ (x : List ℕ). get_or x k 0) no-sets ∙ get_or-replicate 64 k 0 0 l in
      ap (λ (x : Bool). record { null = x; items = get_or q.sets k 0 }) a ∙ ap (λ (x : ℕ). record { null = false; items = x }) b

  is-empty : (k : ℕ) → k < 64 → is_empty (place q k) ≡ true
  is-empty k l = ap is_empty (empty-place k l) ∙ (unfold is_empty in refl)

  pub none-reported : (b : ℕ) → has_reported q b ≡ false
  unfolding has_reported
  none-reported b = ap (λ (x : ℕ). has x b) no-reported ∙ empty-has b

  pub without-reports : 1 ≤ q.items → q.items ≤ 32 → 1 ≤ q.bidders → q.bidders ≤ most_live_bidders → ((i : ℕ) → amount q.prices i ≤ 4095)
      → ((k : ℕ) → k < 32 → q.items ≤ k → amount q.prices (suc k) ≡ 0) → ((i : ℕ) → amount q.floors i ≤ amount q.prices i)
      → rounds_fit q.phase q ≡ true → close_fits q.phase q ≡ true → Formed q
  without-reports a b c d range past low rounds at_close =
      record {
        some_item = a;
        max_items = b;
        some-bidder = c;
        max_bidders = d;
        price-max = range;
        unused-price = past;
        floor-max = λ i. omega (arith, low i, range i);
        floor-le = low;
        unused-floor = λ k l h. omega (arith, low (suc k), past k l h);
        unused-place = λ k l h. (is-empty k l, none-reported (suc k));
        within = λ k l. empty-within q.items (place q k) (is-empty k l);
        reported-fit = λ k l h. absurd (not-both (has_reported q (suc k)) h (none-reported (suc k)));
        other-empty = λ k l h. is-empty k (omega arith);
        rounds = rounds;
        at_close = at_close;
      }

-- ---- clear

pub cleared-formed : (r : Auction) → is_closed r.phase ≡ false → Formed r → Formed (cleared r)
unfolding cleared
cleared-formed r o f =
    without-reports (cleared r) refl refl refl f.some_item f.max_items f.some-bidder f.max_bidders f.price-max f.unused-price f.floor-le
    (rounds-of r.phase (cleared r) r refl refl refl refl refl ∙ f.rounds) (not-closed r.phase (cleared r) o)

-- ---- report

empty-null : (r : Auction) (k : ℕ) → is_empty (place r k) ≡ true → has r.nulls (suc k) ≡ false
unfolding is_empty place
empty-null r k e = not_is (has r.nulls (suc k)) (and_left (not (has r.nulls (suc k))) (eqb (get_or r.sets k 0) 0) e)

module _ (r : Auction) (long : length r.sets ≡ 64) (f : Formed r) (b : ℕ) (d : Demand) (some : 1 ≤ b) (most : b ≤ r.bidders)
    (fresh : has_reported r b ≡ false) (fit : unfit r.items d ≡ false) where
  abbrev pub next : Auction
  next = with_report r b d

  null-before : has r.nulls b ≡ false
  null-before =
      let q : suc (b - 1) ≡ b = omega arith in
      ap (has r.nulls) (sym q) ∙ empty-null r (b - 1) (f.other-empty (b - 1) (omega arith) (ap (has_reported r) q ∙ fresh))

  abbrev nulls_now : ℕ → Bool
  nulls_now i = has r.nulls i || (d.null && eqb i b)

  pub place_same : (k : ℕ) → k < 64 → suc k ≡ b → place next k ≡ d
  unfolding place with_report
  place_same k l e =
      let q : b - 1 ≡ k = omega arith in
      let a : has (set_of 64 nulls_now) (suc k) ≡ d.null =
      has-set_of 64 nulls_now k l ∙ ap (λ (x : Bool). x || (d.null && eqb (suc k) b)) (ap (has r.nulls) e ∙ null-before)
      ∙ ap (λ (x : Bool). d.null && x) (eq-eqb (suc k) b e) ∙ and-true d.null in
      let c : get_or (set r.sets (b - 1) d.items) k 0 ≡ d.items =
      ap (λ (j : ℕ). get_or (set r.sets j d.items) k 0) q ∙ get_or-set_same r.sets k d.items 0 (subst (λ (n : ℕ). k < n) (sym long) l) in
      ap (λ (x : Bool). record { null = x; items = get_or (set r.sets (b - 1) d.items) k 0 }) a ∙ ap (λ (x : ℕ). record { null = d.null; items = x }) c

  pub place_other : (k : ℕ) → k < 64 → (suc k ≡ b → ⊥) → place next k ≡ place r k
  unfolding place with_report
  place_other k l ne =
      let a : has (set_of 64 nulls_now) (suc k) ≡ has r.nulls (suc k) =
      has-set_of 64 nulls_now k l ∙ ap (λ (x : Bool). has r.nulls (suc k) || (d.null && x)) (ne_eqb (suc k) b ne)
      ∙ ap (λ (x : Bool). has r.nulls (suc k) || x) (and-right-false d.null false refl) ∙ or-false (has r.nulls (suc k)) in
      let c : get_or (set r.sets (b - 1) d.items) k 0 ≡ get_or r.sets k 0 = get_or-set_other r.sets (b - 1) k d.items 0 (λ q. ne (omega arith)) in
      ap (λ (x : Bool). record { null = x; items = get_or (set r.sets (b - 1) d.items) k 0 }) a ∙ ap (λ (x : ℕ). record { null = has r.nulls (suc k); items = x }) c

  pub reported-other : (k : ℕ) → k < 64 → (suc k ≡ b → ⊥) → has_reported next (suc k) ≡ has_reported r (suc k)
  unfolding has_reported with_report
  reported-other k l ne =
      has-set_of 64 (λ i. has r.reported i || eqb i b) k l ∙ ap (λ (x : Bool). has r.reported (suc k) || x) (ne_eqb (suc k) b ne) ∙ or-false (has r.reported (suc k))

  beyond-fit : beyond r.items d ≡ false
  beyond-fit = or_right_false (is_empty d) (beyond r.items d) (unfold unfit in fit)

  pub reported-same : (k : ℕ) → k < 64 → suc k ≡ b → has_reported next (suc k) ≡ true
  unfolding has_reported with_report
  reported-same k l e =
      has-set_of 64 (λ i. has r.reported i || eqb i b) k l ∙ ap (λ (x : Bool). has r.reported (suc k) || x) (eq-eqb (suc k) b e) ∙ or_right (has r.reported (suc k)) true refl

  within : (k : ℕ) → k < 64 → Dec (suc k ≡ b) → beyond r.items (place next k) ≡ false
  within k l (yes e) = ap (beyond r.items) (place_same k l e) ∙ beyond-fit
  within k l (no ne) = ap (beyond r.items) (place_other k l ne) ∙ f.within k l

  fits : (k : ℕ) → k < r.bidders → k < 64 → Dec (suc k ≡ b) → has_reported next (suc k) ≡ true → unfit r.items (place next k) ≡ false
  fits k l l64 (yes e) h = ap (unfit r.items) (place_same k l64 e) ∙ fit
  fits k l l64 (no ne) h = ap (unfit r.items) (place_other k l64 ne) ∙ f.reported-fit k l (sym (reported-other k l64 ne) ∙ h)

  others : (k : ℕ) → k < r.bidders → k < 64 → Dec (suc k ≡ b) → has_reported next (suc k) ≡ false → is_empty (place next k) ≡ true
  others k l l64 (yes e) h = absurd (not-both (has_reported next (suc k)) (reported-same k l64 e) h)
  others k l l64 (no ne) h = ap is_empty (place_other k l64 ne) ∙ f.other-empty k l (sym (reported-other k l64 ne) ∙ h)

  past : (k : ℕ) → k < 64 → r.bidders ≤ k → (is_empty (place next k) ≡ true) × (has_reported next (suc k) ≡ false)
  past k l h =
      let ne : suc k ≡ b → ⊥ = λ e. omega arith in
      (ap is_empty (place_other k l ne) ∙ (f.unused-place k l h).0, reported-other k l ne ∙ (f.unused-place k l h).1)

  pub reported-formed : is_closed r.phase ≡ false → Formed next
  unfolding with_report
  reported-formed o =
      let max = f.max_bidders in
      record {
        some_item = f.some_item;
        max_items = f.max_items;
        some-bidder = f.some-bidder;
        max_bidders = f.max_bidders;
        price-max = f.price-max;
        unused-price = f.unused-price;
        floor-max = f.floor-max;
        floor-le = f.floor-le;
        unused-floor = f.unused-floor;
        unused-place = past;
        within = λ k l. within k l (ℕ_discrete (suc k) b);
        reported-fit = λ k l h. fits k l (omega arith) (ℕ_discrete (suc k) b) h;
        other-empty = λ k l h. others k l (omega arith) (ℕ_discrete (suc k) b) h;
        rounds = rounds-of r.phase next r refl refl refl refl refl ∙ f.rounds;
        at_close = not-closed r.phase next o;
      }
