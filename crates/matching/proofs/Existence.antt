-- The chain and the placing of the bidders with no code: there is always an outcome as the contracts say. Assumes nothing.
use Prim.Native.Nat.{ℕ, zero, suc, ◌+◌, ◌-◌, ◌≤◌, ◌<◌}
use mathlib.Core.Path.{◌≡◌, refl, sym, ◌∙◌, subst}
use mathlib.Core.Bool.{Bool, true, false, ◌||◌}
use mathlib.Core.List.{List}
use native.Mathlib.Decide.{ℕ_discrete}
use native.Mathlib.Nat.{le_refl, not-suc-le-zero, lt-suc_self}
use native.Mathlib.Omega.{arith}
use native.Mathlib.Numerals.{add-one}
use lib.Dec.{eqb}
use lib.ListN.{get_or, set, replicate}
use Rattle.sets.specs.Bit.{is_set, has, set_of, lowest}
use Rattle.sets.proofs.Members.{bits_of, bits_of-lt, is_set-bits_of}
use Rattle.matching.specs.Demand.{largest_excess}
use Rattle.matching.specs.Chain.{End, left, Kept, Sub, Placed, Taken, Spare, Settled}
use Rattle.matching.proofs.Holdings.{holder-is}
use Rattle.matching.proofs.Steps.{sub_refl, left-mono, rest_of, Chosen, chosen, chosen_less, won-free, won-may}
use Rattle.matching.proofs.Outcomes.{taken-now, taken-over, taken_not, placed-none, placed-now, placed_on, stuck-mono}
use Rattle.matching.proofs.Settling.{none-settled, settle-won, settle-failed}
use Rattle.matching.proofs.Excess.{settled-largest}

-- an outcome of the bidder side, and of the item side
abbrev pub PlaceEnds : List ℕ → ℕ → List ℕ → ℕ → ℕ → Type 0
PlaceEnds d may l e b = (n : List ℕ) × (r : End) × Placed d may l e b n r

abbrev TakeEnds : List ℕ → ℕ → List ℕ → ℕ → ℕ → ℕ → Type 0
TakeEnds d may l e i b = (n : List ℕ) × (r : End) × Taken d may l e i b n r

-- ---- the item side, where the holder's chain has an outcome

module _ (d : List ℕ) (may : ℕ) (l : List ℕ) (e i b : ℕ) (li : i < 32) (lb : b < 64) (kept : Kept d l)
    (wants : is_set (get_or d b 0) i ≡ true) (entered : is_set e i ≡ true) where
  handed : (get_or l i 0 ≡ 0 → ⊥) → is_set may (get_or l i 0 - 1) ≡ false → (n : List ℕ) (z : ℕ) (p : Bool)
      → Placed d may l e (get_or l i 0 - 1) n (record { placed = p; entered = z }) → TakeEnds d may l e i b
  handed ne stays n z true w = (set n i (b + 1), record { placed = true; entered = z }, taken-over d may l e i b li lb wants entered ne n z w)
  handed ne stays n z false w = (n, record { placed = false; entered = z }, taken_not d may l e i b li lb wants entered ne n z stays w)

  take-exists : ((c : ℕ) → c < 64 → PlaceEnds d may l e c) → TakeEnds d may l e i b
  take-exists ih = go (ℕ_discrete (get_or l i 0) 0)
    where
      held : (get_or l i 0 ≡ 0 → ⊥) → (q : Bool) → is_set may (get_or l i 0 - 1) ≡ q → TakeEnds d may l e i b
      held ne true q = (set l i (b + 1), record { placed = true; entered = e }, taken-now d may l e i b (won-may d may l i b kept li lb wants q))
      held ne false q = let w = ih (get_or l i 0 - 1) (holder-is d l i kept li ne).0 in handed ne q w.0 w.1.entered w.1.placed w.2

      go : Dec (get_or l i 0 ≡ 0) → TakeEnds d may l e i b
      go (yes z) = (set l i (b + 1), record { placed = true; entered = e }, taken-now d may l e i b (won-free d may l i b kept li lb wants z))
      go (no ne) = held ne (is_set may (get_or l i 0 - 1)) refl

-- ---- the bidder side, by how many items are not yet entered

module _ (k : ℕ) (d : List ℕ) (may : ℕ) (l : List ℕ) (e b : ℕ) (fewer : left e < suc k) (lb : b < 64) (kept : Kept d l)
    (ih : (n : List ℕ) (f c : ℕ) → left f < k → c < 64 → Kept d n → PlaceEnds d may n f c) where
  -- what the item side's outcome makes of it
  ended : (i e' : ℕ) → Chosen (get_or d b 0) e i e' → left e' < k → (n : List ℕ) (z : ℕ) (p : Bool)
      → Taken d may l e' i b n (record { placed = p; entered = z }) → PlaceEnds d may l e b
  ended i e' ch less n z true w = (n, record { placed = true; entered = z }, placed-now d may l e b i e' n z ch w)
  ended i e' ch less n z false w =
      let kept' : Kept d n = subst (λ (x : List ℕ). Kept d x) (sym (w.failed refl).still) kept in
      let p = ih n z b (omega (arith, left-mono e' z w.more)) lb kept' in
      (p.0, p.1, placed_on d may l e b i e' n z p.0 p.1 ch w p.2)

  place-step : PlaceEnds d may l e b
  place-step = go (ℕ_discrete (rest_of w e) 0)
    where
      w : ℕ
      w = get_or d b 0

      item : ℕ
      item = lowest 32 (has (rest_of w e))

      e' : ℕ
      e' = set_of 32 (λ k. has e k || eqb k item)

      go : Dec (rest_of w e ≡ 0) → PlaceEnds d may l e b
      go (yes z) = (l, record { placed = false; entered = e }, placed-none d may l e b z)
      go (no ne) =
          let ch = (chosen w e (rest_of w e) item e' refl ne refl refl).2 in
          let less : left e' < k = omega (arith, chosen_less w e (item - 1) e' e' ch (sub_refl e')) in
          let t = take-exists d may l e' (item - 1) b ch.small lb kept ch.wants ch.entered (λ c lc. ih l e' c less lc kept) in
          ended (item - 1) e' ch less t.0 t.1.entered t.1.placed t.2

pub place-exists : (k : ℕ) (d : List ℕ) (may : ℕ) (l : List ℕ) (e b : ℕ) → left e < k → b < 64 → Kept d l → PlaceEnds d may l e b
place-exists zero d may l e b fewer lb kept = absurd (not-suc-le-zero fewer)
place-exists (suc k) d may l e b fewer lb kept = place-step k d may l e b fewer lb kept (λ n f c. place-exists k d may n f c)

-- ---- the bidders one after the other

pub settle-exists : (d : List ℕ) (n : ℕ) → n ≤ 64 → (l : List ℕ) × (w : ℕ) × Settled d l w n
settle-exists d zero ln =
    (replicate 32 0, 0, none-settled d)
settle-exists d (suc n) ln = go (settle-exists d n (omega arith))
  where
    next : (l : List ℕ) (w : ℕ) → Settled d l w n → (l' : List ℕ) (r : End) → Placed d 0 l w n l' r → (p : Bool) → r.placed ≡ p
        → (l : List ℕ) × (w : ℕ) × Settled d l w (n + 1)
    next l w s l' r p true did = (l', w, settle-won d l l' w n s (p.won did) (p.apart did))
    next l w s l' r p false non = (l', r.entered, settle-failed d l w n l' r.entered (omega arith) s (p.failed non) p.more)

    go : ((l : List ℕ) × (w : ℕ) × Settled d l w n) → (l : List ℕ) × (w : ℕ) × Settled d l w (suc n)
    go s =
        let p = place-exists (suc (left s.1)) d 0 s.0 s.1 n (lt-suc_self (left s.1)) (omega arith) s.2.kept in
        let t = next s.0 s.1 s.2 p.0 p.1 p.2 p.1.placed refl in
        (t.0, t.1, subst (λ (x : ℕ). Settled d t.0 t.1 x) (add-one n) t.2)

-- only the items below 32 matter
settled-cong : (d l : List ℕ) (w x n : ℕ) → ((i : ℕ) → i < 32 → is_set w i ≡ is_set x i) → Settled d l w n → Settled d l x n
unfolding Sub Spare
settled-cong d l w x n same s =
    record {
      kept = s.kept;
      once = s.once;
      later = s.later;
      placed = λ c lc f. s.placed c lc (λ h. f (λ i li q. sym (same i li) ∙ h i li q));
      closed = λ i li h. stuck-mono d 0 l w x i (λ k lk q. sym (same k lk) ∙ q) (s.closed i li (same i li ∙ h));
      spare = λ f i li fi sub.
          let t = s.spare f i li fi (λ k lk q. same k lk ∙ sub k lk q) in
          (t.0, t.1, (λ k lk q. sym (same k lk) ∙ t.2 k lk q), t.3, t.4);
    }

-- all bidders can be placed so that the largest set in excess demand is what is entered
pub settled-exists : (d : List ℕ) → (l : List ℕ) × Settled d l (largest_excess 32 64 d) 64
settled-exists d =
    let s = settle-exists d 64 (le_refl 64) in
    let x : ℕ = bits_of 32 (is_set s.1) in
    let t : Settled d s.0 x 64 = settled-cong d s.0 s.1 x 64 (λ i li. sym (is_set-bits_of 32 (is_set s.1) i li)) s.2 in
    (s.0, subst (λ (y : ℕ). Settled d s.0 y 64) (settled-largest d s.0 x t (bits_of-lt 32 (is_set s.1))) t)
