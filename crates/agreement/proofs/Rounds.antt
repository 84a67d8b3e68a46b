-- A round by cases, and what it does to prices in 32 places and to their sum. Assumes nothing.
use Prim.Native.Nat.{ℕ, zero, suc, ◌*◌, ◌^◌, ◌≤◌, ◌<◌}
use mathlib.Core.Path.{◌≡◌, refl, ◌∙◌}
use mathlib.Core.Bool.{Bool, true, false}
use mathlib.Core.List.{List}
use native.Mathlib.Omega.{arith}
use native.Mathlib.Decide.{dec_le, ℕ_discrete}
use lib.ListN.{length}
use Rattle.sets.specs.Bit.{has}
use Rattle.sets.specs.Sum.{sum}
use Rattle.sets.proofs.Counting.{not-both}
use Rattle.sets.proofs.Members.{has-zero, has-past}
use Rattle.sets.proofs.Sums.{sum_less, sum_bound}
use Rattle.rule.specs.Sheet.{amount, price_sum}
use Rattle.rule.specs.Demand.{Demand}
use Rattle.rule.specs.Excess.{excess_demand, excess_supply}
use Rattle.rule.specs.Round.{Phase, rising, falling, raised, lowered, closed, round, raise, lower}
use Rattle.rule.proofs.Limits.{amount-null, amount-beyond}
use Rattle.rule.proofs.Moves.{raise-length, lower-length, raised-in, raised-out, raised-le, lowered-in, lowered-out, lowered-le, some_item}
use Rattle.rule.proofs.Path.{round-raised, round-lowered, round-closed, round-turned, round-falling}

-- ---- the round

module _ (m above : ℕ) (ds : List Demand) where
  -- it raises the rising set while rising, lowers the falling set, or closes; unless falling, the last two only where the rising set is empty
  pub data Takes (ph : Phase) : Type 0 where
    raises : ph ≡ rising → (excess_demand m ds ≡ 0 → ⊥) → round m above ds ph ≡ raised (excess_demand m ds) → Takes ph
    lowers : (ph ≡ rising → excess_demand m ds ≡ 0) → (excess_supply m above ds ≡ 0 → ⊥) → round m above ds ph ≡ lowered (excess_supply m above ds) → Takes ph
    closes : (ph ≡ rising → excess_demand m ds ≡ 0) → excess_supply m above ds ≡ 0 → round m above ds ph ≡ closed → Takes ph

  not-rising : falling ≡ rising → ⊥
  not-rising e = let z : ◌≡◌ {A = ℕ} 0 1 = cc in omega arith

  pub takes : (ph : Phase) → Takes ph
  takes ph = go ph (ℕ_discrete (excess_demand m ds) 0) (ℕ_discrete (excess_supply m above ds) 0)
    where
      go : (ph : Phase) → Dec (excess_demand m ds ≡ 0) → Dec (excess_supply m above ds ≡ 0) → Takes ph
      go rising (no ne) f = raises refl ne (round-raised m above ds ne)
      go rising (yes e) (no nf) = lowers (λ q. e) nf (round-turned m above ds e rising ∙ round-lowered m above ds nf)
      go rising (yes e) (yes f) = closes (λ q. e) f (round-turned m above ds e rising ∙ round-closed m above ds f)
      go falling d (no nf) = lowers (λ q. absurd (not-rising q)) nf (round-falling m above ds ∙ round-lowered m above ds nf)
      go falling d (yes f) = closes (λ q. absurd (not-rising q)) f (round-falling m above ds ∙ round-closed m above ds f)

-- ---- prices in 32 places

module _ (m : ℕ) (few : m ≤ 32) (p : List ℕ) (x : ℕ) (small : x < 2 ^ m) where
  -- places past the items stay
  pub raise-past : (k : ℕ) → k < 32 → m ≤ k → amount (raise 32 p x) (suc k) ≡ amount p (suc k)
  raise-past k l h = raised-out 32 p x (suc k) (omega arith) (has-past m x (suc k) small (omega arith))

  pub lower-past : (k : ℕ) → k < 32 → amount p (suc k) ≡ 0 → amount (lower 32 p x) (suc k) ≡ 0
  lower-past k l e = omega (arith, e, lowered-le 32 p x (suc k) (omega arith))

  -- a raise of items below 4,095 keeps the range, and a lowering does
  pub raise-range : ((i : ℕ) → amount p i ≤ 4095) → ((k : ℕ) → k < m → has x (suc k) ≡ true → amount p (suc k) ≡ 4095 → ⊥)
      → (i : ℕ) → amount (raise 32 p x) i ≤ 4095
  raise-range range top zero = omega (arith, amount-null (raise 32 p x))
  raise-range range top (suc k) = go (dec_le 32 k) (dec_le m k) (has x (suc k)) refl
    where
      go : Dec (32 ≤ k) → Dec (m ≤ k) → (b : Bool) → has x (suc k) ≡ b → amount (raise 32 p x) (suc k) ≤ 4095
      go (yes l) d b e = omega (arith, amount-beyond 32 (raise 32 p x) (raise-length 32 p x) (suc k) (omega arith))
      go (no l) d false e = omega (arith, raised-out 32 p x (suc k) (omega arith) e, range (suc k))
      go (no l) (yes h) true e = absurd (not-both (has x (suc k)) e (has-past m x (suc k) small (omega arith)))
      go (no l) (no h) true e =
          let ne : amount p (suc k) ≡ 4095 → ⊥ = top k (omega arith) e in
          omega (arith, raised-in 32 p x (suc k) (omega arith) e, range (suc k), ne)

  pub lower-range : ((i : ℕ) → amount p i ≤ 4095) → (i : ℕ) → amount (lower 32 p x) i ≤ 4095
  lower-range range zero = omega (arith, amount-null (lower 32 p x))
  lower-range range (suc k) = go (dec_le 32 k)
    where
      go : Dec (32 ≤ k) → amount (lower 32 p x) (suc k) ≤ 4095
      go (yes l) = omega (arith, amount-beyond 32 (lower 32 p x) (lower-length 32 p x) (suc k) (omega arith))
      go (no l) = omega (arith, lowered-le 32 p x (suc k) (omega arith), range (suc k))

  -- no price comes below its floor
  module _ (floors : List ℕ) (long : length floors ≡ 32) (low : (i : ℕ) → amount floors i ≤ amount p i) where
    pub raise-floors : (i : ℕ) → amount floors i ≤ amount (raise 32 p x) i
    raise-floors i = go (dec_le i 32)
      where
        go : Dec (i ≤ 32) → amount floors i ≤ amount (raise 32 p x) i
        go (yes l) = omega (arith, low i, raised-le 32 p x i (omega arith))
        go (no l) = omega (arith, amount-beyond 32 floors long i (omega arith))

    pub lower-floors : ((i : ℕ) → i < suc m → has x i ≡ true → amount floors i < amount p i) → (i : ℕ) → amount floors i ≤ amount (lower 32 p x) i
    lower-floors above i = go (dec_le i 32) (dec_le i m) (has x i) refl
      where
        go : Dec (i ≤ 32) → Dec (i ≤ m) → (b : Bool) → has x i ≡ b → amount floors i ≤ amount (lower 32 p x) i
        go (no l) d b e = omega (arith, amount-beyond 32 floors long i (omega arith))
        go (yes l) d false e = omega (arith, low i, lowered-out 32 p x i (omega arith) e)
        go (yes l) (no h) true e = absurd (not-both (has x i) e (has-past m x i small (omega arith)))
        go (yes l) (yes h) true e =
            let more = above i (omega arith) e in
            omega (arith, more, lowered-in 32 p x i (omega arith) e (omega arith))

  -- a raise adds at least 1 to the sum, a lowering of prices above 0 takes at least 1 off
  module _ (some : x ≡ 0 → ⊥) where
    pub raise-more : price_sum m p < price_sum m (raise 32 p x)
    unfolding price_sum
    raise-more = go (some_item m x small some)
      where
        go : (i : ℕ) × (i < suc m) × (has x i ≡ true) → sum m (λ k. amount p (suc k)) < sum m (λ k. amount (raise 32 p x) (suc k))
        go (zero, l, h) = absurd (not-both (has x 0) h (has-zero x))
        go (suc j, l, h) =
            sum_less m (λ k. amount p (suc k)) (λ k. amount (raise 32 p x) (suc k)) (λ k lk. raised-le 32 p x (suc k) (omega arith)) j (omega arith)
            (omega (arith, raised-in 32 p x (suc j) (omega arith) h))

    pub lower-less : ((i : ℕ) → i < suc m → has x i ≡ true → 0 < amount p i) → price_sum m (lower 32 p x) < price_sum m p
    unfolding price_sum
    lower-less pos = go (some_item m x small some)
      where
        go : (i : ℕ) × (i < suc m) × (has x i ≡ true) → sum m (λ k. amount (lower 32 p x) (suc k)) < sum m (λ k. amount p (suc k))
        go (zero, l, h) = absurd (not-both (has x 0) h (has-zero x))
        go (suc j, l, h) =
            sum_less m (λ k. amount (lower 32 p x) (suc k)) (λ k. amount p (suc k)) (λ k lk. lowered-le 32 p x (suc k) (omega arith)) j (omega arith)
            (omega (arith, lowered-in 32 p x (suc j) (omega arith) h (pos (suc j) l h)))

pub sum-max : (m : ℕ) (p : List ℕ) → ((i : ℕ) → amount p i ≤ 4095) → price_sum m p ≤ 4095 * m
unfolding price_sum
sum-max m p h = sum_bound m 4095 (λ k. amount p (suc k)) (λ k l. h (suc k))
