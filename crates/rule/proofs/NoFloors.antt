-- Where all floors are 0, what is promised of a close reads as document 01 has it: prices above 0, the only prices of all, the highest total of bids. Assumes
-- nothing.
use Prim.Native.Nat.{ℕ, suc, ◌≤◌, ◌<◌}
use mathlib.Core.Path.{◌≡◌, sym, ap, ◌∙◌, subst}
use mathlib.Core.Bool.{true}
use mathlib.Core.List.{List}
use native.Mathlib.Omega.{arith}
use lib.Dec.{ltb}
use lib.ListN.{length, replicate}
use Rattle.sets.specs.Bit.{has}
use Rattle.sets.proofs.Sums.{sum-zero}
use Rattle.rule.specs.Sheet.{amount, Sheet}
use Rattle.rule.specs.Demand.{demands}
use Rattle.rule.specs.Excess.{above_floors}
use Rattle.rule.specs.Assignment.{option, is_assignment, fits, total, floor_total}
use Rattle.rule.specs.Equilibrium.{Below, Equilibrium}
use Rattle.rule.specs.Closing.{excess_demand_at, excess_supply_at, assignment_at, Closing}
use Rattle.rule.proofs.Limits.{amount-zeros, above_floors-is}

module _ (m : ℕ) where
  pub zeros-below : (q : List ℕ) → Below (replicate m 0) q
  unfolding Below
  zeros-below q i = omega (arith, amount-zeros m i)

  pub above_zero : (p : List ℕ) (i : ℕ) → i < suc m → has (above_floors m (replicate m 0) p) i ≡ ltb 0 (amount p i)
  above_zero p i l = above_floors-is m (replicate m 0) p i l ∙ ap (λ (x : ℕ). ltb x (amount p i)) (amount-zeros m i)

  -- all prices balance at which some assignment fits
  pub balances-anywhere : (bids : List (List ℕ)) (q xs : List ℕ) → fits m (above_floors m (replicate m 0) q) (demands m bids q) xs ≡ true → Equilibrium m (replicate m 0) bids q
  balances-anywhere bids q xs e = record { from-floors = zeros-below q; assigned = xs; balances = e }

  zero-total : (xs : List ℕ) → floor_total (replicate m 0) xs ≡ 0
  unfolding floor_total
  zero-total xs = sum-zero (length xs) (λ b. amount (replicate m 0) (option xs b)) (λ b l. amount-zeros m (option xs b))

module _ (s : Sheet) (c : Closing s) (none : s.floors ≡ replicate s.items 0) where
  pub unique_of_all : (q : List ℕ) → length q ≡ s.items → excess_demand_at s q ≡ 0 → excess_supply_at s q ≡ 0 → q ≡ c.prices
  unique_of_all q long = c.unique q long (subst (λ (f : List ℕ). Below f q) (sym none) (zeros-below s.items q))

  pub highest_of_bids : (xs : List ℕ) → is_assignment s.items (length s.bids) xs ≡ true → total s.bids xs ≤ total s.bids (assignment_at s c.prices)
  highest_of_bids xs e = omega (arith, c.highest xs e, nothing xs, nothing (assignment_at s c.prices))
    where
      nothing : (ys : List ℕ) → floor_total s.floors ys ≡ 0
      nothing ys = ap (λ (f : List ℕ). floor_total f ys) none ∙ zero-total s.items ys
