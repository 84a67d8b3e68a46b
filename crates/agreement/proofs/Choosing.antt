-- A sheet whose rows meet the tables after a list and explain the reports that stand explains all reports not cleared; and there is such a sheet, chosen from the
-- tables. THEORY.md 4.5. Assumes nothing.
use Prim.Native.Nat.{ℕ, zero, suc, ◌≤◌, ◌<◌}
use mathlib.Core.Path.{◌≡◌, refl, sym, ap, ◌∙◌, subst}
use mathlib.Core.Bool.{Bool, true, false, ◌&&◌, not}
use mathlib.Core.List.{List, [], ◌∷◌, ◌++◌}
use native.Mathlib.Omega.{arith}
use native.Mathlib.Nat.{zero-add}
use lib.ListN.{length}
use lib.IntN.{ℤ}
use borrow.Author.Tests.{not-false}
use Rattle.sets.specs.Count.{◌⇒◌}
use Rattle.sets.specs.Lists.{tabulate}
use Rattle.sets.proofs.Counting.{and_left, and_right, imp_use, any_none}
use Rattle.sets.proofs.Lists.{tabulate-at, tabulate-length}
use Rattle.rule.specs.Sheet.{amount, row, each4095, Sheet, within_limits}
use Rattle.rule.specs.Round.{Round, raised, lowered, closed}
use Rattle.rule.specs.Assignment.{choose}
use Rattle.rule.specs.Closing.{demands_at}
use Rattle.rule.proofs.Limits.{within-make}
use Rattle.differences.specs.Table.{some_bids, meets}
use Rattle.differences.specs.Allowed.{explains}
use Rattle.differences.specs.Lent.{table_at}
use Rattle.differences.proofs.Laws.{chosen-bids}
use Rattle.live.specs.Auction.{place, has_reported, missing, reports_of}
use Rattle.live.specs.Tables.{narrowed_tables}
use Rattle.live.specs.Calls.{end_number, round_by, settled, gives, refused, end_answer, end_next, narrowed_by, end_tables}
use Rattle.live.specs.declared.Auction.{Auction}
use Rattle.live.proofs.Explaining.{demand-is, reports-from}
use Rattle.agreement.specs.Calls.{Call, reporting, ending, clearing, reading, Held, call, run}
use Rattle.agreement.specs.Explained.{Played, played_by, played_in, played, explains_moved, ExplainsRounds, ExplainsStanding}
use Rattle.agreement.proofs.Always.{Sound, keeps}
use Rattle.agreement.proofs.Calling.{same_items, same_bidders, ends, closed-last}
use Rattle.agreement.proofs.Allowed.{move-allows, list-allows}
use Rattle.agreement.proofs.Explainable.{passes_at, Explainable}

-- ---- a sheet whose rows suit what is held

pub record Suits (s : Sheet) (h : Held) : Type 0 where
  pub items : h.auction.items ≡ s.items
  pub bidders : h.auction.bidders ≡ length s.bids
  pub rows : (k : ℕ) → k < length s.bids → each4095 s.items (row s.bids k) ≡ true
  pub met : (k : ℕ) → k < length s.bids → meets s.items (table_at h.tables k) (row s.bids k) ≡ true
  pub told : (k : ℕ) → k < length s.bids → has_reported h.auction (suc k) ≡ true → explains s.items h.auction.prices (place h.auction k) (row s.bids k) ≡ true

rounds-append : (s : Sheet) (xs ys : List Played) → ExplainsRounds s xs → ExplainsRounds s ys → ExplainsRounds s (xs ++ ys)
unfolding ExplainsRounds
rounds-append s [] ys a b = b
rounds-append s (q ∷ xs) ys (here, rest) b = (here, rounds-append s xs ys rest b)

module _ (s : Sheet) where
  abbrev m : ℕ
  m = s.items

  abbrev n : ℕ
  n = length s.bids

  -- where all are explained, the sheet's demands are the record's reports
  reports_are : (r : Auction) → r.bidders ≡ n → ((k : ℕ) → k < n → explains m r.prices (place r k) (row s.bids k) ≡ true) → demands_at s r.prices ≡ reports_of r
  reports_are r en h = reports-from m s.bids r en (λ k l. demand-is m s.bids r.prices (place r k) k l (h k l))

  pub standing-explained : (h : Held) → Suits s h → ExplainsStanding s h.auction
  unfolding ExplainsStanding
  standing-explained h u k l e =
      let lk : k < n = subst (λ (x : ℕ). k < x) u.bidders l in
      demand-is m s.bids h.auction.prices (place h.auction k) k lk (u.told k lk e)

  -- where none is missing, everybody has reported
  all-reported : (r : Auction) → missing r ≡ false → (k : ℕ) → k < r.bidders → has_reported r (suc k) ≡ true
  unfolding missing
  all-reported r e k l =
      not-false (has_reported r (suc k)) (any_none r.bidders (λ k. not (has_reported r (suc k))) e k l)

  -- and what a sheet that explains the standing reports demands are then all of them
  pub all_told : (r : Auction) → r.bidders ≡ n → missing r ≡ false → ExplainsStanding s r → demands_at s r.prices ≡ reports_of r
  unfolding ExplainsStanding
  all_told r en e h = reports-from m s.bids r en (λ k l. let lk : k < r.bidders = subst (λ (x : ℕ). k < x) (sym en) l in h k lk (all-reported r e k lk))

  -- ---- every round of a list, by what the rows suit after it

  -- rows that meet the tables after a list met them before
  met-before : (h : Held) → Sound h → h.auction.items ≡ m → h.auction.bidders ≡ n → (calls : List Call) → Suits s (run h calls).last
      → (k : ℕ) → k < n → meets m (table_at h.tables k) (row s.bids k) ≡ true
  met-before h g em en calls u k l =
      and_left (meets m (table_at h.tables k) (row s.bids k)) (explains_moved m k (played h calls) (row s.bids k))
      (sym (list-allows m n h g em en calls k l (row s.bids k) (u.rows k l)) ∙ u.met k l)

  module _ (h : Held) (g : Sound h) (em : h.auction.items ≡ m) (en : h.auction.bidders ≡ n) where
    abbrev r : Auction
    r = h.auction

    abbrev ts : List ℤ
    ts = h.tables

    -- a move: the rows meet the narrowed tables
    moved-round : end_number r ts ≡ 0 → ((k : ℕ) → k < n → each4095 m (row s.bids k) ≡ true)
        → ((k : ℕ) → k < n → meets m (table_at (narrowed_tables r ts) k) (row s.bids k) ≡ true) → demands_at s r.prices ≡ reports_of r
    moved-round e rows met = reports_are r en (λ k l. one k l)
      where
        allowed : (k : ℕ) → k < n → meets m (table_at (narrowed_tables r ts) k) (row s.bids k) ≡ meets m (table_at ts k) (row s.bids k) && explains m r.prices (place r k) (row s.bids k)
        allowed k l =
            subst (λ (m : ℕ). each4095 m (row s.bids k) ≡ true
            → meets m (table_at (narrowed_tables r ts) k) (row s.bids k) ≡ meets m (table_at ts k) (row s.bids k) && explains m r.prices (place r k) (row s.bids k)) em
            (move-allows h g e k (subst (λ (x : ℕ). k < x) (sym en) l) (row s.bids k)) (rows k l)

        one : (k : ℕ) → k < n → explains m r.prices (place r k) (row s.bids k) ≡ true
        one k l = and_right (meets m (table_at ts k) (row s.bids k)) (explains m r.prices (place r k) (row s.bids k)) (sym (allowed k l) ∙ met k l)

    -- a close: the auction stays as it is, and its reports stand
    after-told : Suits s (record { auction = settled r closed; tables = ts }) → (k : ℕ) → k < n → has_reported r (suc k) ≡ true → explains m r.prices (place r k) (row s.bids k) ≡ true
    unfolding settled place has_reported
    after-told u k l e = u.told k l e

    closed-round : end_number r ts ≡ 0 → (calls : List Call) → Suits s (run (record { auction = settled r closed; tables = ts }) calls).last → demands_at s r.prices ≡ reports_of r
    closed-round e calls u = reports_are r en (λ k l. after-told suits k l (all-reported r (ends r ts e).complete k (subst (λ (x : ℕ). k < x) (sym en) l)))
      where
        after : Held
        after = record { auction = settled r closed; tables = ts }

        suits : Suits s after
        suits = subst (Suits s) (closed-last after (unfold settled in refl) calls) u

    end-rounds : (calls : List Call) → Suits s (run (call h ending).next calls).last → Sound (call h ending).next → (call h ending).next.auction.items ≡ m → (call h ending).next.auction.bidders ≡ n
        → ExplainsRounds s (played_in h ending)
    unfolding call end_next end_tables played_in end_answer
    end-rounds calls u g' em' en' = go (end_number r ts) refl (round_by r) u g' em' en'
      where
        next : ℕ → Round → Held
        next x y = record { auction = elim x [ zero ↦ settled r y | suc j ↦ r ]; tables = elim x [ zero ↦ narrowed_by r ts y | suc j ↦ ts ] }

        by_move : end_number r ts ≡ 0 → (h' : Held) → Suits s (run h' calls).last → Sound h' → h'.auction.items ≡ m → h'.auction.bidders ≡ n → h'.tables ≡ narrowed_tables r ts
            → demands_at s r.prices ≡ reports_of r
        by_move e h' u g' em' en' et =
            moved-round e u.rows (λ k l. ap (λ (t : List ℤ). meets m (table_at t k) (row s.bids k)) (sym et) ∙ met-before h' g' em' en' calls u k l)

        go : (x : ℕ) → end_number r ts ≡ x → (y : Round) → Suits s (run (next x y) calls).last → Sound (next x y) → (next x y).auction.items ≡ m → (next x y).auction.bidders ≡ n
            → ExplainsRounds s (played_by r (elim x [ zero ↦ gives y | suc j ↦ refused (suc j) ]))
        go zero e (raised v) u g' em' en' = unfold played_by ExplainsRounds in (by_move e (next 0 (raised v)) u g' em' en' (unfold narrowed_by in refl), tt)
        go zero e (lowered v) u g' em' en' = unfold played_by ExplainsRounds in (by_move e (next 0 (lowered v)) u g' em' en' (unfold narrowed_by in refl), tt)
        go zero e closed u g' em' en' = unfold played_by ExplainsRounds in (closed-round e calls (unfold narrowed_by in u), tt)
        go (suc j) e y u g' em' en' = unfold played_by ExplainsRounds in tt

  pub rounds-explained : (h : Held) → Sound h → h.auction.items ≡ m → h.auction.bidders ≡ n → (calls : List Call) → Suits s (run h calls).last → ExplainsRounds s (played h calls)
  unfolding run played
  rounds-explained h g em en [] u = unfold ExplainsRounds in tt
  rounds-explained h g em en (c ∷ calls) u =
      rounds-append s (played_in h c) (played (call h c).next calls) (here c u) (rounds-explained (call h c).next (keeps h g c) (same_items h c ∙ em) (same_bidders h c ∙ en) calls u)
    where
      here : (c : Call) → Suits s (run (call h c).next calls).last → ExplainsRounds s (played_in h c)
      here (reporting b d) u = unfold played_in ExplainsRounds in tt
      here ending u = end-rounds h g em en calls u (keeps h g ending) (same_items h ending ∙ em) (same_bidders h ending ∙ en)
      here clearing u = unfold played_in ExplainsRounds in tt
      here (reading out) u = unfold played_in ExplainsRounds in tt

-- ---- the sheet that is chosen: for each bidder bids that pass after the list

module _ (m n : ℕ) (start floors : List ℕ) (h : Held) (em : h.auction.items ≡ m) (en : h.auction.bidders ≡ n) (x : Explainable h) where
  abbrev pub chosen_sheet : Sheet
  chosen_sheet = record { items = m; start = start; floors = floors; bids = tabulate n (λ k. choose 4095 m (passes_at h k)) 0 }

  many : length chosen_sheet.bids ≡ n
  many = tabulate-length n (λ k. choose 4095 m (passes_at h k)) 0

  row_is : (k : ℕ) → k < n → row chosen_sheet.bids k ≡ choose 4095 m (passes_at h k)
  unfolding row
  row_is k l = tabulate-at n (λ k. choose 4095 m (passes_at h k)) 0 k [] l ∙ ap (λ (j : ℕ). choose 4095 m (passes_at h j)) (zero-add k)

  row-passes : (k : ℕ) → k < n → (each4095 m (row chosen_sheet.bids k) ≡ true) × (passes_at h k (row chosen_sheet.bids k) ≡ true)
  unfolding Explainable
  row-passes k l =
      subst (λ (b : List ℕ). (each4095 m b ≡ true) × (passes_at h k b ≡ true)) (sym (row_is k l))
      (chosen-bids m (passes_at h k) (subst (λ (m : ℕ). some_bids m (passes_at h k) ≡ true) em (x k (subst (λ (y : ℕ). k < y) (sym en) l))))

  -- the two halves of what the row passes
  abbrev half_met : ℕ → Bool
  half_met k = meets h.auction.items (table_at h.tables k) (row chosen_sheet.bids k)

  abbrev half_told : ℕ → Bool
  half_told k = explains h.auction.items h.auction.prices (place h.auction k) (row chosen_sheet.bids k)

  row-met : (k : ℕ) → k < n → meets m (table_at h.tables k) (row chosen_sheet.bids k) ≡ true
  row-met k l =
      subst (λ (m : ℕ). meets m (table_at h.tables k) (row chosen_sheet.bids k) ≡ true) em
      (and_left (half_met k) (has_reported h.auction (suc k) ⇒ half_told k) (row-passes k l).1)

  row_told : (k : ℕ) → k < n → has_reported h.auction (suc k) ≡ true → explains m h.auction.prices (place h.auction k) (row chosen_sheet.bids k) ≡ true
  row_told k l e =
      subst (λ (m : ℕ). explains m h.auction.prices (place h.auction k) (row chosen_sheet.bids k) ≡ true) em
      (imp_use (has_reported h.auction (suc k)) (half_told k) (and_right (half_met k) (has_reported h.auction (suc k) ⇒ half_told k) (row-passes k l).1) e)

  pub chosen-suits : Suits chosen_sheet h
  chosen-suits =
      record { items = em; bidders = en ∙ sym many; rows = λ k l. (row-passes k (less k l)).0; met = λ k l. row-met k (less k l); told = λ k l. row_told k (less k l) }
    where
      less : (k : ℕ) → k < length chosen_sheet.bids → k < n
      less k l = omega (arith, l, many)

  pub chosen-within : 1 ≤ m → m ≤ 32 → 1 ≤ n → n ≤ 64 → each4095 m start ≡ true → each4095 m floors ≡ true → ((k : ℕ) → k < m → amount floors (suc k) ≤ amount start (suc k))
      → within_limits chosen_sheet ≡ true
  chosen-within a b c d es ef low =
      within-make chosen_sheet a b (omega (arith, c, many)) (omega (arith, d, many)) es ef low (λ k l. (row-passes k (omega (arith, l, many))).0)
