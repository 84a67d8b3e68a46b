-- What #102 of document 02 leaves as it was, of every sheet, within the limits or not: the path, each round with its reason, and which prices balance. THEORY.md
-- 1.9. Assumes nothing.
use Prim.Native.Nat.{ℕ, zero, suc, ◌-◌, ◌<◌}
use mathlib.Core.Path.{◌≡◌, refl, sym, ap, ap₂, ◌∙◌}
use mathlib.Core.Bool.{Bool, true, false}
use mathlib.Core.List.{List}
use native.Mathlib.Omega.{arith}
use lib.ListN.{length}
use Rattle.sets.specs.Bit.{has, set_of, any}
use Rattle.sets.proofs.Counting.{not-both, is_false, any-cong}
use Rattle.sets.proofs.Members.{set_of-cong, has-zero}
use Rattle.rule.specs.Sheet.{amount, row, Sheet}
use Rattle.rule.specs.Demand.{Demand, demand, demands, wants, nth}
use Rattle.rule.specs.Excess.{something_in, nothing_outside, excess_demand, excess_supply, above_floors}
use Rattle.rule.specs.Round.{Phase, rising, falling, raised, lowered, closed, round_falling, round, State, move, round_at, after, opening, path, most_rounds, close}
use Rattle.rule.specs.Reasons.{bidders_with, reason_of, reason_at}
use Rattle.rule.specs.Former.{former_demand, former_demands, former_round_at, former_after, former_path, former_close, former_reason_at, Unchanged}
use Rattle.rule.proofs.Limits.{above_floors-up}
use Rattle.rule.proofs.Union.{Part}
use Rattle.rule.proofs.Tests.{outside-use}
use Rattle.rule.proofs.Largest.{supply-above}
use Rattle.rule.proofs.Reasons.{of-each}
use Rattle.rule.proofs.SameBalance.{to-former, from-former}
use Rattle.rule.proofs.Zeros.{same-but-null, same_above, same_rising, same_falling}
use Rattle.rule.proofs.AtPrices.{nth-demands, demands-length, nth-former, former-length}

-- ---- the path

-- a round goes by the two sets
by-sets : (m above : ℕ) (ds es : List Demand) → excess_demand m ds ≡ excess_demand m es → excess_supply m above ds ≡ excess_supply m above es
    → (ph : Phase) → round m above ds ph ≡ round m above es ph
unfolding round round_falling
by-sets m above ds es e f rising =
    ap₂ (λ (x y : ℕ). elim x [ suc k ↦ raised (suc k) | zero ↦ elim y [ suc k ↦ lowered (suc k) | zero ↦ closed ] ]) e f
by-sets m above ds es e f falling = ap (λ (y : ℕ). elim y [ suc k ↦ lowered (suc k) | zero ↦ closed ]) f

module _ (m : ℕ) (floors : List ℕ) (bids : List (List ℕ)) where
  pub same-round : (t : State) → round_at m floors bids t ≡ former_round_at m floors bids t
  unfolding round_at former_round_at
  same-round t =
      by-sets m (above_floors m floors t.prices) (demands m bids t.prices) (former_demands m bids t.prices)
      (same_rising m bids t.prices) (same_falling m bids t.prices (above_floors m floors t.prices) (above_floors-up m floors t.prices)) t.phase

  same_after : (t : State) (k : ℕ) → after m floors bids t k ≡ former_after m floors bids t k
  unfolding after former_after
  same_after t zero = refl
  same_after t (suc k) =
      ap (λ (x : State). move m x (round_at m floors bids x)) (same_after t k) ∙ ap (move m (former_after m floors bids t k)) (same-round (former_after m floors bids t k))

same-path : (s : Sheet) (k : ℕ) → path s k ≡ former_path s k
unfolding path former_path
same-path s k = same_after s.items s.floors s.bids (opening s.start) k

-- ---- reasons

-- who demands null demands something outside every set
null_outside : (m s : ℕ) (d : Demand) → d.null ≡ true → nothing_outside m s d ≡ false
unfolding wants Part
null_outside m s d e = is_false (nothing_outside m s d) (λ h. not-both (has s 0) (outside-use m s d h 0 (omega arith) e) (has-zero s))

module _ (m : ℕ) (bids : List (List ℕ)) (p : List ℕ) where
  -- a test that says the same of each bidder's demand and the former one
  same-with : (f : Demand → Bool) → ((r : List ℕ) → f (demand m p r) ≡ f (former_demand m p r)) → bidders_with (demands m bids p) f ≡ bidders_with (former_demands m bids p) f
  unfolding bidders_with
  same-with f h =
      set_of-cong (length (demands m bids p)) _ _ at ∙ ap (λ (n : ℕ). set_of n λ b. f (nth (former_demands m bids p) (b - 1))) (demands-length m bids p ∙ sym (former-length m bids p))
    where
      at : (b : ℕ) → b < length (demands m bids p) → f (nth (demands m bids p) (suc b - 1)) ≡ f (nth (former_demands m bids p) (suc b - 1))
      at b l =
          let lb : suc b - 1 < length bids = omega (arith, l, demands-length m bids p) in
          ap f (nth-demands m bids p (suc b - 1) lb) ∙ h (row bids (suc b - 1)) ∙ sym (ap f (nth-former m bids p (suc b - 1) lb))

  -- a rise: who demands null does not count, and nobody else's demand differs
  same-rise : (s : ℕ) → reason_of m (demands m bids p) (raised s) ≡ reason_of m (former_demands m bids p) (raised s)
  unfolding reason_of
  same-rise s =
      ap (λ (x : ℕ). record { kind = 1; items = s; bidders = x })
      (same-with (nothing_outside m s) (λ r. same-but-null m p r (nothing_outside m s) (λ d e dn en. null_outside m s d dn ∙ sym (null_outside m s e en))))

  -- a fall: the prices of its items are above 0
  same-fall : (s : ℕ) → ((i : ℕ) → i < suc m → has s i ≡ true → 0 < amount p i)
      → reason_of m (demands m bids p) (lowered s) ≡ reason_of m (former_demands m bids p) (lowered s)
  unfolding reason_of any
  same-fall s up =
      ap (λ (x : ℕ). record { kind = 2; items = s; bidders = x })
      (same-with (something_in m s) (λ r. any-cong (suc m) _ _ (same_above m p r s up)))

  same_none : reason_of m (demands m bids p) closed ≡ reason_of m (former_demands m bids p) closed
  unfolding reason_of
  same_none = refl

  pub same-reason : (floors : List ℕ) (ph : Phase)
      → reason_of m (demands m bids p) (round m (above_floors m floors p) (demands m bids p) ph) ≡ reason_of m (former_demands m bids p) (round m (above_floors m floors p) (demands m bids p) ph)
  same-reason floors =
      of-each m (above_floors m floors p) (demands m bids p) (λ x. reason_of m (demands m bids p) x ≡ reason_of m (former_demands m bids p) x)
      (λ ne. same-rise (excess_demand m (demands m bids p)))
      (λ ne. same-fall (excess_supply m (above_floors m floors p) (demands m bids p)) (λ i l e. omega (arith, supply-above m floors p (demands m bids p) i l e)))
      same_none

same-path-reason : (s : Sheet) (k : ℕ) → reason_at s k ≡ former_reason_at s k
unfolding reason_at former_reason_at round_at
same-path-reason s k =
    same-reason s.items s.bids (path s k).prices s.floors (path s k).phase
    ∙ ap (reason_of s.items (former_demands s.items s.bids (path s k).prices)) (same-round s.items s.floors s.bids (path s k))
    ∙ ap (λ (t : State). reason_of s.items (former_demands s.items s.bids t.prices) (former_round_at s.items s.floors s.bids t)) (same-path s k)

-- ---- and which prices balance

pub unchanged : (s : Sheet) → Unchanged s
unfolding close former_close
unchanged s =
    record {
      states = same-path s;
      closes = same-path s most_rounds;
      rounds = λ k. same-round s.items s.floors s.bids (path s k) ∙ ap (former_round_at s.items s.floors s.bids) (same-path s k);
      reasons = same-path-reason s;
      balance = to-former s.items s.floors s.bids;
      balance_back = from-former s.items s.floors s.bids;
    }
