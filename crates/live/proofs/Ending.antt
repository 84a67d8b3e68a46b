-- The ways of an end: 16, 17, or the round that the reports give; and how the whole call goes by its two parts, the numbers before the round and the round. Assumes nothing.
use Prim.Native.Nat.{ℕ, zero, suc}
use mathlib.Core.Path.{◌≡◌, refl, sym, ap, ◌∙◌, subst}
use mathlib.Core.Bool.{Bool, true, false, ◌&&◌, not, cond}
use mathlib.Core.List.{List, [], ◌∷◌, ◌++◌}
use lib.Dec.{eqb}
use lib.IntN.{ℤ}
use borrow.Author.Tests.{eq-eqb, ne_eqb}
use Rattle.sets.specs.Bit.{has}
use Rattle.sets.proofs.Members.{empty-has}
use Rattle.sets.proofs.Counting.{any_false}
use Rattle.rule.specs.Sheet.{amount}
use Rattle.rule.specs.Round.{Round, raised, lowered, closed, round, round_falling}
use Rattle.rule.specs.Refusal.{Refusal, on}
use Rattle.rule.proofs.Refusal.{passed, given, first-nil}
use Rattle.live.specs.Auction.{missing, items_above, reports_of, rising_set, falling_set}
use Rattle.live.specs.Tables.{any_unexplained, narrowed_tables}
use Rattle.live.specs.Calls.{is_closed, is_falling, is_rising, at_top, ruled, round_by, settled, gives, refused, ending_of, end_number, end_answer, end_next, narrowed_by, end_tables}
use Rattle.live.specs.Tidy.{ready_number, round_number, round_answer, round_next, is_move}
use Rattle.live.specs.declared.Auction.{Auction}
use Rattle.live.specs.declared.Step.{Step}
use Rattle.live.specs.declared.Phase.{Phase}
use Rattle.live.specs.declared.Phase.TheVariants.{Rising, Falling, Closed}
use Rattle.live.proofs.Refusing.{front, numbered, behind, fit_list}

-- the empty set has no item at 4,095
empty-top : (m : ℕ) (p : List ℕ) → at_top m p 0 ≡ false
unfolding at_top
empty-top m p = any_false m (λ k. has 0 (suc k) && eqb (amount p (suc k)) 4095) (λ k l. rw (empty-has (suc k)) refl)

module _ (r : Auction) where
  -- ---- 16 and 17

  abbrev sixteen-on : Bool
  sixteen-on = is_falling r.phase && not (eqb (rising_set r) 0)

  abbrev seventeen-on : Bool
  seventeen-on = is_rising r.phase && at_top r.items r.prices (rising_set r)

  abbrev round-list : List Refusal
  round-list = on 16 sixteen-on ∷ on 17 seventeen-on ∷ []

  pub sixteen : r.phase ≡ Falling → (rising_set r ≡ 0 → ⊥) → 16 ≡ round_number r
  unfolding round_number
  sixteen p ne =
      let e : sixteen-on ≡ true = simp (p, ne_eqb (rising_set r) 0 ne) in
      sym (given 16 sixteen-on (on 17 seventeen-on ∷ []) e)

  pub seventeen : r.phase ≡ Rising → at_top r.items r.prices (rising_set r) ≡ true → 17 ≡ round_number r
  unfolding round_number
  seventeen p t =
      let e : sixteen-on ≡ false = simp p in
      let f : seventeen-on ≡ true = simp (p, t) in
      sym (passed 16 sixteen-on (on 17 seventeen-on ∷ []) e ∙ given 17 seventeen-on [] f)

  none-by : sixteen-on ≡ false → seventeen-on ≡ false → 0 ≡ round_number r
  unfolding round_number
  none-by e f = sym (passed 16 sixteen-on (on 17 seventeen-on ∷ []) e ∙ passed 17 seventeen-on [] f ∙ first-nil)

  pub raises : r.phase ≡ Rising → at_top r.items r.prices (rising_set r) ≡ false → 0 ≡ round_number r
  raises p t = none-by (simp p) (simp (p, t))

  pub calm : rising_set r ≡ 0 → 0 ≡ round_number r
  calm z = none-by (by-16 (is_falling r.phase)) (by-17 (is_rising r.phase))
    where
      by-16 : (b : Bool) → b && not (eqb (rising_set r) 0) ≡ false
      by-16 true = ap not (eq-eqb (rising_set r) 0 z)
      by-16 false = refl

      by-17 : (b : Bool) → b && at_top r.items r.prices (rising_set r) ≡ false
      by-17 true = ap (at_top r.items r.prices) z ∙ empty-top r.items r.prices
      by-17 false = refl

  -- ---- the round

  pub round-raised : (set : ℕ) → set ≡ rising_set r → (set ≡ 0 → ⊥) → r.phase ≡ Rising → round_by r ≡ raised set
  unfolding round_by round rising_set
  round-raised set e ne p = simp p (go set e ne)
    where
      go : (x : ℕ) → x ≡ rising_set r → (x ≡ 0 → ⊥)
          → elim (rising_set r) [ suc k ↦ raised (suc k) | zero ↦ round_falling r.items (items_above r) (reports_of r) ] ≡ raised x
      go zero e ne = absurd (ne refl)
      go (suc k) e ne = ap (λ (x : ℕ). elim x [ suc k ↦ raised (suc k) | zero ↦ round_falling r.items (items_above r) (reports_of r) ]) (sym e)

  -- the rising set is empty
  low : rising_set r ≡ 0 → round_by r ≡ round_falling r.items (items_above r) (reports_of r)
  unfolding round_by round rising_set
  low z = go r.phase
    where
      go : (p : Phase) → round r.items (items_above r) (reports_of r) (ruled p) ≡ round_falling r.items (items_above r) (reports_of r)
      go Rising = ap (λ (x : ℕ). elim x [ suc k ↦ raised (suc k) | zero ↦ round_falling r.items (items_above r) (reports_of r) ]) z
      go Falling = refl
      go Closed = refl

  abbrev falls : ℕ → Round
  falls x = elim x [ suc k ↦ lowered (suc k) | zero ↦ closed ]

  falls-some : (x : ℕ) → (x ≡ 0 → ⊥) → falls x ≡ lowered x
  falls-some zero ne = absurd (ne refl)
  falls-some (suc k) ne = refl

  pub round-lowered : rising_set r ≡ 0 → (set : ℕ) → set ≡ falling_set r → (set ≡ 0 → ⊥) → round_by r ≡ lowered set
  unfolding round_falling falling_set
  round-lowered z set e ne = low z ∙ ap falls (sym e) ∙ falls-some set ne

  pub round-closed : rising_set r ≡ 0 → (set : ℕ) → set ≡ falling_set r → set ≡ 0 → round_by r ≡ closed
  unfolding round_falling falling_set
  round-closed z set e q = low z ∙ ap falls (sym e ∙ q)

  -- ---- what the round hands back

  pub handed : (s t : Step) → s ≡ t → (ending_of t.ended ≡ round_answer r) × (t.next ≡ round_next r) → (ending_of s.ended ≡ round_answer r) × (s.next ≡ round_next r)
  handed s t e h = subst (λ (x : Step). (ending_of x.ended ≡ round_answer r) × (x.next ≡ round_next r)) (sym e) h

  pub ends_refused : (x : ℕ) → x ≡ round_number r → (x ≡ 0 → ⊥) → (refused x ≡ round_answer r) × (r ≡ round_next r)
  unfolding round_answer round_next
  ends_refused zero e ne = absurd (ne refl)
  ends_refused (suc j) e ne =
      (ap (λ (y : ℕ). elim y [ zero ↦ gives (round_by r) | suc i ↦ refused (suc i) ]) e, ap (λ (y : ℕ). elim y [ zero ↦ settled r (round_by r) | suc i ↦ r ]) e)

  pub ends_with : (o : Round) → 0 ≡ round_number r → round_by r ≡ o → (gives o ≡ round_answer r) × (settled r o ≡ round_next r)
  unfolding round_answer round_next
  ends_with o e q = (
    sym (ap gives q) ∙ ap (λ (y : ℕ). elim y [ zero ↦ gives (round_by r) | suc i ↦ refused (suc i) ]) e,
    sym (ap (settled r) q) ∙ ap (λ (y : ℕ). elim y [ zero ↦ settled r (round_by r) | suc i ↦ r ]) e,
  )

-- ---- the whole call

module _ (r : Auction) (ts : List ℤ) where
  abbrev ready-list : List Refusal
  ready-list = on 12 (is_closed r.phase) ∷ on 14 (missing r) ∷ on 19 (any_unexplained r ts) ∷ []

  -- a number before the round is that of the end
  pub end-early : (ready_number r ts ≡ 0 → ⊥) → ready_number r ts ≡ end_number r ts
  unfolding ready_number end_number
  end-early ne = sym (front (fit_list r ts ++ ready-list) (round-list r) ne)

  -- if there is none, the round's is
  pub end-late : ready_number r ts ≡ 0 → round_number r ≡ end_number r ts
  unfolding ready_number end_number round_number numbered
  end-late e = sym (behind (fit_list r ts ++ ready-list) (round-list r) refl e)

  -- an end turned down before the round changes nothing
  pub end_refused : (x : ℕ) → x ≡ ready_number r ts → (x ≡ 0 → ⊥) → (refused x ≡ end_answer r ts) × (r ≡ end_next r ts) × (ts ≡ end_tables r ts)
  unfolding end_answer end_next end_tables
  end_refused zero e ne = absurd (ne refl)
  end_refused (suc j) e ne =
      let q : suc j ≡ end_number r ts = e ∙ end-early (λ z. ne (e ∙ z)) in (
        ap (λ (y : ℕ). elim y [ zero ↦ gives (round_by r) | suc i ↦ refused (suc i) ]) q,
        ap (λ (y : ℕ). elim y [ zero ↦ settled r (round_by r) | suc i ↦ r ]) q,
        ap (λ (y : ℕ). elim y [ zero ↦ narrowed_by r ts (round_by r) | suc i ↦ ts ]) q,
      )

  -- else it answers as the round does
  pub end-round : ready_number r ts ≡ 0 → (round_answer r ≡ end_answer r ts) × (round_next r ≡ end_next r ts)
  unfolding end_answer end_next round_answer round_next
  end-round e = (
    ap (λ (y : ℕ). elim y [ zero ↦ gives (round_by r) | suc i ↦ refused (suc i) ]) (end-late e),
    ap (λ (y : ℕ). elim y [ zero ↦ settled r (round_by r) | suc i ↦ r ]) (end-late e),
  )

  -- only a move narrows the tables
  pub tables-by : end_tables r ts ≡ cond (is_move (end_answer r ts)) (narrowed_tables r ts) ts
  unfolding end_answer end_tables is_move
  tables-by = go (end_number r ts)
    where
      by-round : (o : Round) → narrowed_by r ts o ≡ cond (is_move (gives o)) (narrowed_tables r ts) ts
      by-round (raised s) = unfold narrowed_by in refl
      by-round (lowered s) = unfold narrowed_by in refl
      by-round closed = unfold narrowed_by in refl

      go : (n : ℕ) → elim n [ zero ↦ narrowed_by r ts (round_by r) | suc i ↦ ts ] ≡ cond (is_move (elim n [ zero ↦ gives (round_by r) | suc i ↦ refused (suc i) ])) (narrowed_tables r ts) ts
      go zero = by-round (round_by r)
      go (suc n) = refl

  pub narrows : is_move (end_answer r ts) ≡ true → end_tables r ts ≡ narrowed_tables r ts
  narrows e = tables-by ∙ ap (λ (b : Bool). cond b (narrowed_tables r ts) ts) e

  pub keeps : is_move (end_answer r ts) ≡ false → end_tables r ts ≡ ts
  keeps e = tables-by ∙ ap (λ (b : Bool). cond b (narrowed_tables r ts) ts) e
