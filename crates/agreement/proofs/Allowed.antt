-- A table allows just the bids that explain that bidder's reports of the rounds that moved: THEORY.md 4.4. Assumes nothing.
use Prim.Native.Nat.{ℕ, zero, suc, ◌<◌}
use mathlib.Core.Path.{◌≡◌, refl, sym, ap, ◌∙◌, subst}
use mathlib.Core.Bool.{Bool, true, false, ◌&&◌}
use mathlib.Core.List.{List, [], ◌∷◌, ◌++◌}
use native.Mathlib.Nat.{zero-add}
use lib.IntN.{ℤ}
use Rattle.sets.specs.Count.{◌⇒◌}
use Rattle.sets.proofs.Counting.{and-true}
use Rattle.sets.proofs.Lists.{tabulate-at}
use Rattle.rule.specs.Sheet.{each4095}
use Rattle.rule.specs.Demand.{Demand, nth}
use Rattle.rule.specs.Round.{Round, raised, lowered, closed}
use Rattle.round.specs.Reports.{reports}
use Rattle.differences.specs.Table.{meets}
use Rattle.differences.specs.Allowed.{explains, allows}
use Rattle.differences.specs.Lent.{table_at}
use Rattle.differences.proofs.Laws.{narrow-meets}
use Rattle.live.specs.Auction.{place, reports_of}
use Rattle.live.specs.Tables.{narrowed_tables}
use Rattle.live.specs.Calls.{end_number, round_by, gives, refused, end_answer, narrowed_by, end_tables}
use Rattle.live.specs.declared.Auction.{Auction}
use Rattle.live.proofs.Formed.{Formed, formed}
use Rattle.agreement.specs.Calls.{Call, reporting, ending, clearing, reading, Held, call, run}
use Rattle.agreement.specs.Explained.{Played, has_moved, played_by, played_in, played, explains_moved}
use Rattle.agreement.proofs.Lent.{fit_at, explained-at, narrowed_at}
use Rattle.agreement.proofs.Always.{Sound, keeps}
use Rattle.agreement.proofs.Calling.{same_items, same_bidders, ends}

-- ---- rounds one after the other

pub moved-append : (m k : ℕ) (xs ys : List Played) (b : List ℕ) → explains_moved m k (xs ++ ys) b ≡ explains_moved m k xs b && explains_moved m k ys b
unfolding explains_moved
moved-append m k [] ys b = refl
moved-append m k (q ∷ xs) ys b =
    ap (λ (x : Bool). (q.moved ⇒ explains m q.prices (nth q.reports k) b) && x) (moved-append m k xs ys b)
    ∙ assoc (q.moved ⇒ explains m q.prices (nth q.reports k) b) (explains_moved m k xs b) (explains_moved m k ys b)
  where
    assoc : (x y z : Bool) → x && (y && z) ≡ (x && y) && z
    assoc true y z = refl
    assoc false y z = refl

-- ---- a report by its place

pub report-at : (r : Auction) (k : ℕ) → k < r.bidders → nth (reports_of r) k ≡ place r k
unfolding reports_of reports nth place
report-at r k l = tabulate-at r.bidders (place r) 0 k (record { null = false; items = 0 }) l ∙ ap (place r) (zero-add k)

-- ---- a call

module _ (h : Held) (g : Sound h) where
  abbrev r : Auction
  r = h.auction

  abbrev ts : List ℤ
  ts = h.tables

  f : Formed r
  f = formed r g.well-formed

  -- after a move bids meet the table if they met it before and explain the report
  pub move-allows : end_number r ts ≡ 0 → (k : ℕ) → k < r.bidders → (b : List ℕ) → each4095 r.items b ≡ true
      → meets r.items (table_at (narrowed_tables r ts) k) b ≡ meets r.items (table_at ts k) b && explains r.items r.prices (place r k) b
  unfolding allows
  move-allows e k l b q =
      ap (λ (t : List (List ℤ)). meets r.items t b) (narrowed_at r ts k l)
      ∙ narrow-meets r.items f.max_items (table_at ts k) (fit_at r ts g.fit k l) r.prices f.price-max (place r k) (explained-at r ts (ends r ts e).explained k l) b q

  -- each end is a move, a close, or turned down
  end-allows : (k : ℕ) → k < r.bidders → (b : List ℕ) → each4095 r.items b ≡ true
      → meets r.items (table_at (end_tables r ts) k) b ≡ meets r.items (table_at ts k) b && explains_moved r.items k (played_by r (end_answer r ts)) b
  unfolding end_tables end_answer
  end-allows k l b q = go (end_number r ts) refl (round_by r)
    where
      before : Bool
      before = meets r.items (table_at ts k) b

      by_move : end_number r ts ≡ 0 → meets r.items (table_at (narrowed_tables r ts) k) b ≡ before && (explains r.items r.prices (nth (reports_of r) k) b && true)
      by_move e =
          move-allows e k l b q
          ∙ ap (λ (d : Demand). before && explains r.items r.prices d b) (sym (report-at r k l))
          ∙ ap (λ (x : Bool). before && x) (sym (and-true (explains r.items r.prices (nth (reports_of r) k) b)))

      go : (x : ℕ) → end_number r ts ≡ x → (y : Round)
          → meets r.items (table_at (elim x [ zero ↦ narrowed_by r ts y | suc j ↦ ts ]) k) b
          ≡ before && explains_moved r.items k (played_by r (elim x [ zero ↦ gives y | suc j ↦ refused (suc j) ])) b
      go zero e (raised s) = unfold narrowed_by played_by explains_moved has_moved in by_move e
      go zero e (lowered s) = unfold narrowed_by played_by explains_moved has_moved in by_move e
      go zero e closed = unfold narrowed_by played_by explains_moved has_moved in sym (and-true before)
      go (suc j) e y = unfold played_by explains_moved in sym (and-true before)

  call-allows : (c : Call) (k : ℕ) → k < r.bidders → (b : List ℕ) → each4095 r.items b ≡ true
      → meets r.items (table_at (call h c).next.tables k) b ≡ meets r.items (table_at ts k) b && explains_moved r.items k (played_in h c) b
  unfolding call played_in explains_moved
  call-allows (reporting b d) k l v q = sym (and-true (meets r.items (table_at ts k) v))
  call-allows ending k l v q = end-allows k l v q
  call-allows clearing k l v q = sym (and-true (meets r.items (table_at ts k) v))
  call-allows (reading out) k l v q = sym (and-true (meets r.items (table_at ts k) v))

-- ---- a list

module _ (m n : ℕ) where
  pub list-allows : (h : Held) → Sound h → h.auction.items ≡ m → h.auction.bidders ≡ n → (calls : List Call) (k : ℕ) → k < n → (b : List ℕ) → each4095 m b ≡ true
      → meets m (table_at (run h calls).last.tables k) b ≡ meets m (table_at h.tables k) b && explains_moved m k (played h calls) b
  unfolding run played
  list-allows h g em en [] k l b q = unfold explains_moved in sym (and-true (meets m (table_at h.tables k) b))
  list-allows h g em en (c ∷ calls) k l b q =
      list-allows (call h c).next (keeps h g c) (same_items h c ∙ em) (same_bidders h c ∙ en) calls k l b q
      ∙ ap (λ (x : Bool). x && explains_moved m k (played (call h c).next calls) b) one
      ∙ assoc (meets m (table_at h.tables k) b) (explains_moved m k (played_in h c) b) (explains_moved m k (played (call h c).next calls) b)
      ∙ ap (λ (x : Bool). meets m (table_at h.tables k) b && x) (sym (moved-append m k (played_in h c) (played (call h c).next calls) b))
    where
      one : meets m (table_at (call h c).next.tables k) b ≡ meets m (table_at h.tables k) b && explains_moved m k (played_in h c) b
      one =
          subst (λ (m : ℕ). each4095 m b ≡ true → meets m (table_at (call h c).next.tables k) b ≡ meets m (table_at h.tables k) b && explains_moved m k (played_in h c) b) em
          (λ q. call-allows h g c k (subst (λ (n : ℕ). k < n) (sym en) l) b q) q

      assoc : (x y z : Bool) → (x && y) && z ≡ x && (y && z)
      assoc true y z = refl
      assoc false y z = refl
