-- Records in lent lists. Assumes nothing.
use Prim.Native.Nat.{ℕ, zero, suc}
use mathlib.Core.Path.{◌≡◌, refl, ap, ◌∙◌}
use mathlib.Core.List.{List, [], ◌∷◌}
use Rattle.live.specs.declared.Auction.{Auction}
use Rattle.live.specs.declared.Phase.{Phase}
use Rattle.live.specs.declared.Phase.TheVariants.{Rising, Falling, Closed}
use Rattle.bench_exports.specs.Lent.{phase_of, phase_number, record_in, StandsIn}

-- any other number than 0 and 1 is the closed phase
pub beyond : (n : ℕ) → (n ≡ 0 → ⊥) → (n ≡ 1 → ⊥) → Closed ≡ phase_of n
unfolding phase_of
beyond zero a b = absurd (a refl)
beyond (suc zero) a b = absurd (b refl)
beyond (suc (suc n)) a b = refl

-- lists that hold one record hold its equals
pub stands : (r s : Auction) (numbers prices floors sets rounds : List ℕ) → r ≡ s → StandsIn r numbers prices floors sets rounds → StandsIn s numbers prices floors sets rounds
stands r s numbers prices floors sets rounds e h =
    record {
      in_numbers = h.in_numbers ∙ ap (λ (x : Auction). x.items ∷ x.bidders ∷ x.nulls ∷ x.reported ∷ []) e;
      in_prices = h.in_prices ∙ ap (λ (x : Auction). x.prices) e;
      in_floors = h.in_floors ∙ ap (λ (x : Auction). x.floors) e;
      in_sets = h.in_sets ∙ ap (λ (x : Auction). x.sets) e;
      in_rounds = h.in_rounds ∙ ap (λ (x : Auction). x.raised ∷ x.lowered ∷ phase_number x.phase ∷ []) e;
    }

phase-back : (p : Phase) → phase_of (phase_number p) ≡ p
unfolding phase_of phase_number
phase-back Rising = refl
phase-back Falling = refl
phase-back Closed = refl

-- the record that stands in the lists in which one was left is that one
pub stands-back : (r : Auction) (numbers prices floors sets rounds : List ℕ) → StandsIn r numbers prices floors sets rounds → record_in numbers prices floors sets rounds ≡ r
unfolding record_in
stands-back r numbers prices floors sets rounds h =
    ap (λ (l : List ℕ). record_in l prices floors sets rounds) h.in_numbers ∙ ap (λ (l : List ℕ). record_in (numbers_of r) l floors sets rounds) h.in_prices
    ∙ ap (λ (l : List ℕ). record_in (numbers_of r) r.prices l sets rounds) h.in_floors ∙ ap (λ (l : List ℕ). record_in (numbers_of r) r.prices r.floors l rounds) h.in_sets
    ∙ ap (record_in (numbers_of r) r.prices r.floors r.sets) h.in_rounds
    ∙ ap (λ (p : Phase). record { items = r.items; bidders = r.bidders; prices = r.prices; floors = r.floors; sets = r.sets; nulls = r.nulls; reported = r.reported; phase = p; raised = r.raised; lowered = r.lowered }) (phase-back r.phase)
  where
    numbers_of : Auction → List ℕ
    numbers_of x = x.items ∷ x.bidders ∷ x.nulls ∷ x.reported ∷ []
