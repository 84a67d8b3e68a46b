-- Both sides at once: where some match places the bidders and some match holds the items, one match does both. Assumes nothing.
use Prim.Native.Nat.{ℕ, zero, suc, ◌+◌, ◌≤◌, ◌<◌}
use mathlib.Core.Path.{◌≡◌, refl, ap, ◌∙◌, subst}
use mathlib.Core.Bool.{Bool, true, false, ◌&&◌, not}
use mathlib.Core.List.{List}
use mathlib.Core.Logic.{◌⊎◌, inl, inr}
use native.Mathlib.Nat.{le_refl, lt-suc_self, zero-add}
use native.Mathlib.Numerals.{add-one}
use native.Mathlib.Omega.{arith}
use lib.Bits.{bit_and}
use lib.ListN.{get_or}
use Rattle.sets.specs.Bit.{is_set}
use Rattle.sets.specs.Lists.{tabulate}
use Rattle.sets.proofs.Lists.{tabulate-at}
use Rattle.sets.proofs.Members.{is_set-and, bits_of, is_set-bits_of}
use Rattle.matching.specs.Demand.{Matching, Covering}
use Rattle.matching.specs.Chain.{End, left, held, Placed, Filled, Seated, NoSeats}
use Rattle.matching.proofs.Holdings.{no_both, held_by}
use Rattle.matching.proofs.Seating.{seated-more, seated-won, no-seats, seated-none, no_items, seated-matching, seated-covering}
use Rattle.matching.proofs.Existence.{place-exists, settle-exists}

module _ (d : List ℕ) (bidders : ℕ) (some : NoSeats d bidders → ⊥) where
  may : ℕ
  may = bits_of 64 (λ k. not (is_set bidders k))

  others : (k : ℕ) → k < 64 → is_set may k ≡ not (is_set bidders k)
  unfolding may
  others k lk = is_set-bits_of 64 (λ k. not (is_set bidders k)) k lk

  seats : (l : List ℕ) (n : ℕ) → n ≤ 64 → Seated d bidders l 0 → (l' : List ℕ) × Seated d bidders l' n × Filled l l'
  unfolding Filled
  seats l zero ln s = (l, s, λ i li f. f)
  seats l (suc n) ln s = go (seats l n (omega arith) s)
    where
      empty : (x : ℕ) → (x ≡ 0) ⊎ (1 ≤ x)
      empty zero = inl refl
      empty (suc x) = inr (omega arith)

      chained : (m : List ℕ) → Seated d bidders m n → Filled l m → is_set bidders n ≡ true → held m n ≡ 0
          → (m' : List ℕ) (r : End) → Placed d may m 0 n m' r → (p : Bool) → r.placed ≡ p → (l' : List ℕ) × Seated d bidders l' (n + 1) × Filled l l'
      chained m s f must none m' r w true did =
          (m', seated-won d bidders m n s may (omega arith) others none m' (w.won did), λ i li g. (w.won did).filled i li (f i li g))
      chained m s f must none m' r w false non =
          absurd (some (no-seats d bidders m n s may (omega arith) others none m' r.entered must (w.failed non)))

      step : (m : List ℕ) → Seated d bidders m n → Filled l m → (c : Bool) → is_set bidders n ≡ c → (held m n ≡ 0) ⊎ (1 ≤ held m n)
          → (l' : List ℕ) × Seated d bidders l' (n + 1) × Filled l l'
      step m s f false q e = (m, seated-more d bidders m n s (λ h. no_both h q), f)
      step m s f true q (inr one) = (m, seated-more d bidders m n s (λ h. one), f)
      step m s f true q (inl none) =
          let w = place-exists (suc (left 0)) d may m 0 n (lt-suc_self (left 0)) (omega arith) s.kept in
          chained m s f q none w.0 w.1 w.2 w.1.placed refl

      go : ((l' : List ℕ) × Seated d bidders l' n × Filled l l') → (l' : List ℕ) × Seated d bidders l' (suc n) × Filled l l'
      go t =
          let r = step t.0 t.1 t.2 (is_set bidders n) refl (empty (held t.0 n)) in
          (r.0, subst (λ (x : ℕ). Seated d bidders r.0 x) (add-one n) r.1, r.2)

-- some match places the bidders, and some match holds the items: then one match does both
pub both-sides : (d : List ℕ) (bidders items : ℕ) (g h : ℕ → ℕ)
    → Matching 32 64 d g → ((b : ℕ) → b < 64 → is_set bidders b ≡ true → (i : ℕ) × (i < 32) × (g i ≡ b + 1))
    → Matching 32 64 d h → ((i : ℕ) → i < 32 → is_set items i ≡ true → h i ≡ 0 → ⊥)
    → (k : ℕ → ℕ) × Matching 32 64 d k × Covering 32 64 d bidders items k
unfolding NoSeats Filled
both-sides d bidders items g h mg pg mh ph =
    let t = settle-exists d' 64 (le_refl 64) in
    let l = t.0 in
    let r = seats d bidders (λ f. f g mg pg) l 64 (le_refl 64) (seated-none d d' items l t.1 is t.2 bidders) in (
      held_by r.0,
      seated-matching d bidders items r.0 r.1,
      seated-covering d bidders items r.0 r.1
          (λ i li must. r.2 i li (λ free. no_items d d' items l t.1 is t.2 i li must free h mh ph)),
    )
  where
    -- each set, as far as it lies in the items
    d' : List ℕ
    d' = tabulate 64 (λ b. bit_and (get_or d b 0) items) 0

    is : (b i : ℕ) → b < 64 → i < 32 → is_set (get_or d' b 0) i ≡ is_set (get_or d b 0) i && is_set items i
    is b i lb li =
        ap (λ (x : ℕ). is_set x i) (tabulate-at 64 (λ b. bit_and (get_or d b 0) items) 0 b 0 lb ∙ ap (λ (c : ℕ). bit_and (get_or d c 0) items) (zero-add b))
        ∙ is_set-and (get_or d b 0) items i
