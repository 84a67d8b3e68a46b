-- A zero is no bid (document 02, #102): an item with bid 0 is of the highest surplus at price 0 only, and then null is too. So without such items a demand is not
-- empty, and both sets are those of the former demands, which have them. THEORY.md 1.9. Assumes nothing.
use Prim.Native.Nat.{ℕ, zero, suc, ◌+◌, ◌≤◌, ◌<◌}
use mathlib.Core.Path.{◌≡◌, refl, sym, ap, ap₂, ◌∙◌}
use mathlib.Core.Bool.{Bool, true, false, ◌&&◌, not}
use mathlib.Core.List.{List, [], ◌∷◌, map}
use native.Mathlib.Omega.{arith}
use native.Mathlib.Decide.{ℕ_discrete}
use lib.Dec.{ltb}
use borrow.Author.Tests.{lt-ltb, le-ltb, ltb-true}
use Rattle.sets.specs.Bit.{has, set_of}
use Rattle.sets.proofs.Counting.{not-both, is_false, and_left, and_right, and-right-false}
use Rattle.sets.proofs.Members.{set_of-cong, has-set_of}
use Rattle.rule.specs.Sheet.{amount}
use Rattle.rule.specs.Demand.{surplus_at_least, best, Demand, demand, demands, wants}
use Rattle.rule.specs.Excess.{excess_demand, positive_excess_demand, excess_supply}
use Rattle.rule.specs.Former.{former_demand, former_demands}
use Rattle.rule.proofs.Limits.{amount-null}
use Rattle.rule.proofs.Profile.{active, active-none, inside, excess_of, rising-profile, positive-profile}
use Rattle.rule.proofs.Surplus.{wants_at, wants-use, wants-make}

-- ---- one bidder, at prices p with bids r

module _ (m : ℕ) (p r : List ℕ) where
  pub best-use : (i : ℕ) → best m p r i ≡ true → (j : ℕ) → j < suc m → amount r j + amount p i ≤ amount r i + amount p j
  unfolding best surplus_at_least wants_at
  best-use i e = wants-use m (λ b. amount r) (amount p) 0 i e

  pub best-make : (i : ℕ) → ((j : ℕ) → j < suc m → amount r j + amount p i ≤ amount r i + amount p j) → best m p r i ≡ true
  unfolding best surplus_at_least wants_at
  best-make i h = wants-make m (λ b. amount r) (amount p) 0 i h

  -- an item with bid 0 of the highest surplus has price 0, and null is of the highest surplus as well
  pub zero-price : (i : ℕ) → best m p r i ≡ true → amount r i ≡ 0 → amount p i ≡ 0
  zero-price i e z = omega (arith, best-use i e 0 (omega arith), z, amount-null p, amount-null r)

  pub zero-null : (i : ℕ) → best m p r i ≡ true → amount r i ≡ 0 → best m p r 0 ≡ true
  zero-null i e z = best-make 0 (λ j l. omega (arith, best-use i e j l, z, amount-null p, amount-null r))

  -- ---- options as tests

  pub null_is : wants (demand m p r) 0 ≡ best m p r 0
  unfolding wants demand
  null_is = refl

  pub item-is : (k : ℕ) → k < m → wants (demand m p r) (suc k) ≡ ltb 0 (amount r (suc k)) && best m p r (suc k)
  unfolding wants demand
  item-is k l = has-set_of m (λ i. ltb 0 (amount r i) && best m p r i) k l

  pub former-is : (i : ℕ) → i < suc m → wants (former_demand m p r) i ≡ best m p r i
  unfolding wants former_demand
  former-is zero l = refl
  former-is (suc k) l = has-set_of m (best m p r) k (omega arith)

  -- what is demanded is of the highest surplus, and an item is bid for
  pub demanded-best : (i : ℕ) → i < suc m → wants (demand m p r) i ≡ true → best m p r i ≡ true
  demanded-best zero l e = sym null_is ∙ e
  demanded-best (suc k) l e = and_right (ltb 0 (amount r (suc k))) (best m p r (suc k)) (sym (item-is k (omega arith)) ∙ e)

  pub demanded-bid : (i : ℕ) → i < suc m → 0 < i → wants (demand m p r) i ≡ true → 0 < amount r i
  demanded-bid zero l pos e = absurd (omega arith)
  demanded-bid (suc k) l pos e =
      ltb-true 0 (amount r (suc k)) (and_left (ltb 0 (amount r (suc k))) (best m p r (suc k)) (sym (item-is k (omega arith)) ∙ e))

  -- where an item of the highest surplus is always bid for, the test of the bid changes nothing
  bid-for : (k : ℕ) → (best m p r (suc k) ≡ true → amount r (suc k) ≡ 0 → ⊥) → ltb 0 (amount r (suc k)) && best m p r (suc k) ≡ best m p r (suc k)
  bid-for k h = go (ℕ_discrete (amount r (suc k)) 0)
    where
      go : Dec (amount r (suc k) ≡ 0) → ltb 0 (amount r (suc k)) && best m p r (suc k) ≡ best m p r (suc k)
      go (no nz) = ap (λ (x : Bool). x && best m p r (suc k)) (lt-ltb 0 (amount r (suc k)) (omega arith))
      go (yes z) = ap (λ (x : Bool). x && best m p r (suc k)) (le-ltb 0 (amount r (suc k)) (omega arith)) ∙ sym (is_false (best m p r (suc k)) (λ e. h e z))

  -- an item of price above 0 is demanded as it was
  pub same-wants : (i : ℕ) → i < suc m → 0 < amount p i → wants (demand m p r) i ≡ wants (former_demand m p r) i
  same-wants zero l pos = null_is ∙ sym (former-is 0 l)
  same-wants (suc k) l pos =
      item-is k (omega arith) ∙ bid-for k (λ e z. omega (arith, pos, zero-price (suc k) e z)) ∙ sym (former-is (suc k) l)

  -- who does not demand null demands what they did
  pub same-demand : best m p r 0 ≡ false → demand m p r ≡ former_demand m p r
  unfolding demand former_demand
  same-demand e =
      ap (λ (s : ℕ). record { null = best m p r 0; items = s })
      (set_of-cong m _ _ (λ k l. bid-for k (λ b z. not-both (best m p r 0) (zero-null (suc k) b z) e)))

  -- what is of the highest surplus and bid for is demanded
  pub best-demanded : (i : ℕ) → i < suc m → 0 < amount r i → best m p r i ≡ true → wants (demand m p r) i ≡ true
  best-demanded zero l pos e = null_is ∙ e
  best-demanded (suc k) l pos e = item-is k (omega arith) ∙ bid-for k (λ b z. omega (arith, pos, z)) ∙ e

  -- and so something is demanded: where the highest surplus is that of an item with bid 0, it is null
  pub some-demanded : (i : ℕ) → i < suc m → best m p r i ≡ true → (j : ℕ) × (j < suc m) × (wants (demand m p r) j ≡ true)
  some-demanded i l e = go (ℕ_discrete (amount r i) 0)
    where
      go : Dec (amount r i ≡ 0) → (j : ℕ) × (j < suc m) × (wants (demand m p r) j ≡ true)
      go (yes z) = (0, omega arith, null_is ∙ zero-null i e z)
      go (no nz) = (i, l, best-demanded i l (omega arith) e)

  -- ---- what the two sets take of a demand

  -- what is the same of all demands with null, is the same with these items and without
  pub same-but-null : {A : Type 0} (f : Demand → A) → ((d e : Demand) → d.null ≡ true → e.null ≡ true → f d ≡ f e) → f (demand m p r) ≡ f (former_demand m p r)
  same-but-null {A} f h = go (best m p r 0) refl
    where
      go : (b : Bool) → best m p r 0 ≡ b → f (demand m p r) ≡ f (former_demand m p r)
      go true e = h (demand m p r) (former_demand m p r) (unfold demand in e) (unfold former_demand in e)
      go false e = ap f (same-demand e)

  same-active : active (demand m p r) ≡ active (former_demand m p r)
  same-active = same-but-null active (λ d e dn en. active-none d dn ∙ sym (active-none e en))

  module _ (above : ℕ) (up : (i : ℕ) → i < suc m → has above i ≡ true → 0 < amount p i) where
    pub same_above : (i : ℕ) → i < suc m → wants (demand m p r) i && has above i ≡ wants (former_demand m p r) i && has above i
    same_above i l = go (has above i) refl
      where
        go : (b : Bool) → has above i ≡ b → wants (demand m p r) i && has above i ≡ wants (former_demand m p r) i && has above i
        go true e = ap (λ (x : Bool). x && has above i) (same-wants i l (up i l e))
        go false e = and-right-false (wants (demand m p r) i) (has above i) e ∙ sym (and-right-false (wants (former_demand m p r) i) (has above i) e)

    same-inside : inside m above (demand m p r) ≡ inside m above (former_demand m p r)
    unfolding inside wants
    same-inside = set_of-cong m _ _ (λ k l. same_above (suc k) (omega arith))

-- ---- all bidders: both sets are those of the former demands

module _ (m : ℕ) (p : List ℕ) where
  same_map : (f : Demand → ℕ) → ((r : List ℕ) → f (demand m p r) ≡ f (former_demand m p r)) → (bids : List (List ℕ)) → map f (demands m bids p) ≡ map f (former_demands m bids p)
  unfolding demands former_demands
  same_map f h [] = refl
  same_map f h (r ∷ bids) = ap₂ (λ (x : ℕ) (xs : List ℕ). x ∷ xs) (h r) (same_map f h bids)

module _ (m : ℕ) (bids : List (List ℕ)) (p : List ℕ) where
  pub same_rising : excess_demand m (demands m bids p) ≡ excess_demand m (former_demands m bids p)
  same_rising =
      rising-profile m (demands m bids p) ∙ ap (excess_of m) (same_map m p active (same-active m p) bids) ∙ sym (rising-profile m (former_demands m bids p))

  -- of the items of `above`, whose prices are above 0; without this it is false (`Applied.only_above`)
  module _ (above : ℕ) (up : (i : ℕ) → i < suc m → has above i ≡ true → 0 < amount p i) where
    pub same-positive : positive_excess_demand m above (demands m bids p) ≡ positive_excess_demand m above (former_demands m bids p)
    same-positive =
        positive-profile m above (demands m bids p) ∙ ap (excess_of m) (same_map m p (inside m above) (λ r. same-inside m p r above up) bids)
        ∙ sym (positive-profile m above (former_demands m bids p))

    pub same_falling : excess_supply m above (demands m bids p) ≡ excess_supply m above (former_demands m bids p)
    unfolding excess_supply
    same_falling = ap (λ (s : ℕ). set_of m λ i. has above i && not (has s i)) same-positive
