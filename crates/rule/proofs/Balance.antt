-- Where both sets are empty, the first assignment fits, so the prices balance; they are the least prices that do, the only ones where both sets are empty, and
-- the assignment has the highest total. THEORY.md 2.7 to 2.10. Assumes nothing.
use Prim.Native.Nat.{ℕ, ◌+◌, suc, ◌≤◌, ◌<◌}
use mathlib.Core.Path.{◌≡◌, sym, ap, ◌∙◌}
use mathlib.Core.Bool.{Bool, true, false, ◌&&◌}
use mathlib.Core.List.{List}
use native.Mathlib.Omega.{arith}
use native.Mathlib.Nat.{le_antisymm}
use lib.ListN.{length}
use Rattle.sets.specs.Count.{count}
use Rattle.sets.specs.Bit.{has}
use Rattle.sets.specs.Sum.{sum}
use Rattle.sets.proofs.Counting.{count-mono, and_left}
use Rattle.rule.specs.Sheet.{amount, row}
use Rattle.rule.specs.Demand.{Demand, demands, wants}
use Rattle.rule.specs.Excess.{excess_demand, excess_supply, above_floors}
use Rattle.rule.specs.Assignment.{option, is_assignment, fits, total, floor_total, NotAfter, assignment}
use Rattle.rule.specs.Equilibrium.{Equilibrium, Below}
use Rattle.rule.proofs.Limits.{amount-null, prices-ext, below_all, above_floors-at, above_floors-up}
use Rattle.rule.proofs.Union.{Part, likes, Crowd, sub}
use Rattle.rule.proofs.Existence.{assignment-fits}
use Rattle.rule.proofs.Surplus.{wants-use, bid_of, wanted, lowest-prices}
use Rattle.rule.proofs.Total.{highest}
use Rattle.rule.proofs.Order.{choose-first}
use Rattle.rule.proofs.Fitting.{Fits, assigns-use, fits-use, fits-to, assigns-listed}
use Rattle.rule.proofs.Zeros.{demanded-bid}
use Rattle.rule.proofs.AtPrices.{nth-demands, demands-wanted, demands-length, demands-some, demands-small, tilde, tilde-crowd, tilde-of-empty}

-- ---- fitting, of bidders who demand by their bids

module _ (m : ℕ) (bids : List (List ℕ)) (p : List ℕ) (above : ℕ) (xs : List ℕ) where
  pub fits-at : fits m above (demands m bids p) xs ≡ true → Fits m (length bids) (wanted m bids p) (has above) xs
  fits-at = fits-to m (length bids) above (demands m bids p) (demands-length m bids p) (wanted m bids p) xs (demands-wanted m bids p)

-- who has an item has bid for it
pub named-bid : (m above : ℕ) (bids : List (List ℕ)) (p xs : List ℕ) → fits m above (demands m bids p) xs ≡ true
    → (b : ℕ) → b < length bids → 0 < option xs b → 0 < amount (row bids b) (option xs b)
named-bid m above bids p xs e b l pos =
    let f = fits-use m above (demands m bids p) xs e in
    let lb : b < length (demands m bids p) = omega (arith, l, demands-length m bids p) in
    demanded-bid m p (row bids b) (option xs b) (f.assigns.small b lb) pos
    (sym (ap (λ (d : Demand). wants d (option xs b)) (nth-demands m bids p b l)) ∙ f.wanted b lb)

-- ---- where both sets are empty

module _ (m : ℕ) (bids : List (List ℕ)) (p : List ℕ) (above : ℕ)
    (no_excess : excess_demand m (demands m bids p) ≡ 0) (no_supply : excess_supply m above (demands m bids p) ≡ 0) where
  -- the first in order fits
  pub first_fits : m ≤ 32 → length bids ≤ 64 → fits m above (demands m bids p) (assignment m above (demands m bids p)) ≡ true
  first_fits lm ln =
      assignment-fits m above (demands m bids p) lm (omega (arith, demands-length m bids p)) (demands-some m bids p) (demands-small m bids p) no_excess no_supply

-- each non-empty set of items of `above`, whose prices are above 0, is wanted by more bidders than it has items
pub crowd-above : (m : ℕ) (bids : List (List ℕ)) (p : List ℕ) (above : ℕ) → ((i : ℕ) → i < suc m → has above i ≡ true → 0 < amount p i)
    → excess_supply m above (demands m bids p) ≡ 0 → (a : ℕ → Bool) → a 0 ≡ false → (i : ℕ) → i < suc m → a i ≡ true → Part m a (has above)
    → count (suc m) a < count (length bids) (likes m (wanted m bids p) a)
unfolding Crowd Part
crowd-above m bids p above up no_supply a z i l e inside =
    omega (
      arith,
      tilde-crowd m bids p above up a z i l e (λ j lj q. tilde-of-empty m bids p above no_supply j lj (inside j lj q)),
      count-mono (length bids) (λ b. likes m (wanted m bids p) a b && sub m (λ i. wanted m bids p b i && has above i) (tilde m bids p above)) (likes m (wanted m bids p) a)
          (λ b lb q. and_left (likes m (wanted m bids p) a b) _ q),
    )

-- ---- the first in order comes before every other that fits

pub first-first : (m above : ℕ) (bids : List (List ℕ)) (p xs : List ℕ) → fits m above (demands m bids p) xs ≡ true → NotAfter (assignment m above (demands m bids p)) xs
unfolding assignment
first-first m above bids p xs e =
    choose-first m (length (demands m bids p)) (fits m above (demands m bids p)) xs
    (assigns-listed m (length (demands m bids p)) xs (fits-use m above (demands m bids p) xs e).assigns) e

-- ---- an assignment that fits has the highest total, where `above` has each item above its lower bound, of bids less lower bounds

pub highest-above : (m : ℕ) (bids : List (List ℕ)) (p xs : List ℕ) (above : ℕ) (low : ℕ → ℕ)
    → ((i : ℕ) → i < suc m → low i ≤ amount p i) → ((i : ℕ) → i < suc m → low i < amount p i → has above i ≡ true)
    → fits m above (demands m bids p) xs ≡ true → (ys : List ℕ) → is_assignment m (length bids) ys ≡ true
    → total bids ys + sum (length bids) (λ b. low (option xs b)) ≤ total bids xs + sum (length bids) (λ b. low (option ys b))
unfolding total bid_of
highest-above m bids p xs above low low-le is-above e ys a =
    let f = fits-at m bids p above xs e in
    let y = assigns-use m (length bids) ys a in
    highest (length bids) (suc m) (bid_of bids) low (amount p) (amount-null p) low-le (option xs) f.assigns.small
    (λ b j lb lj. wants-use m (bid_of bids) (amount p) b (option xs b) (f.wanted b lb) j lj)
    (λ i l h. f.covers i l (is-above i l h))
    (option ys) y.small y.once

pub highest-total : (m : ℕ) (floors : List ℕ) (bids : List (List ℕ)) (p xs : List ℕ) → Below floors p → fits m (above_floors m floors p) (demands m bids p) xs ≡ true
    → (ys : List ℕ) → is_assignment m (length bids) ys ≡ true → total bids ys + floor_total floors xs ≤ total bids xs + floor_total floors ys
unfolding Below floor_total
highest-total m floors bids p xs low e ys a =
    let f = fits-at m bids p (above_floors m floors p) xs e in
    let y = assigns-use m (length bids) ys a in
    omega (
      arith,
      highest-above m bids p xs (above_floors m floors p) (amount floors) (λ i l. low i) (above_floors-at m floors p) e ys a,
      ap (λ (n : ℕ). sum n (λ b. amount floors (option xs b))) f.assigns.all,
      ap (λ (n : ℕ). sum n (λ b. amount floors (option ys b))) y.all,
    )

-- ---- prices at which the falling set is empty are nowhere above prices that balance, where `above` has each item that is cheaper there

pub least-prices : (m : ℕ) (floors : List ℕ) (bids : List (List ℕ)) (p : List ℕ) (above : ℕ) → ((i : ℕ) → i < suc m → has above i ≡ true → 0 < amount p i)
    → excess_supply m above (demands m bids p) ≡ 0 → (q : List ℕ) → ((i : ℕ) → i < suc m → amount q i < amount p i → has above i ≡ true)
    → Equilibrium m floors bids q → (i : ℕ) → i < suc m → amount p i ≤ amount q i
unfolding Part
least-prices m floors bids p above up no_supply q cheaper eq =
    let f = fits-at m bids q (above_floors m floors q) eq.assigned eq.balances in
    lowest-prices m (length bids) (bid_of bids) (amount p) (amount q) (amount-null p)
    (λ a z i l e less. crowd-above m bids p above up no_supply a z i l e (λ j lj u. cheaper j lj (less j lj u)))
    (option eq.assigned) f.assigns.small f.wanted f.assigns.once

-- ---- the closing prices of items at or above their floors

module _ (m : ℕ) (floors : List ℕ) (bids : List (List ℕ)) (p : List ℕ) (lm : m ≤ 32) (ln : length bids ≤ 64) (len : length p ≡ m) (low : Below floors p)
    (no_excess : excess_demand m (demands m bids p) ≡ 0) (no_supply : excess_supply m (above_floors m floors p) (demands m bids p) ≡ 0) where
  pub balances : Equilibrium m floors bids p
  balances = record { from-floors = low; assigned = assignment m (above_floors m floors p) (demands m bids p); balances = first_fits m bids p (above_floors m floors p) no_excess no_supply lm ln }

  -- they are the least prices that balance
  pub least-balance : (q : List ℕ) → Equilibrium m floors bids q → Below p q
  unfolding Below
  least-balance q eq =
      below_all m p q len
      (least-prices m floors bids p (above_floors m floors p) (above_floors-up m floors p) no_supply q
      (λ i l h. above_floors-at m floors p i l (omega (arith, eq.from-floors i))) eq)

  -- and the only ones at or above the floors at which both sets are empty
  pub only-prices : (q : List ℕ) → length q ≡ m → Below floors q → excess_demand m (demands m bids q) ≡ 0 → excess_supply m (above_floors m floors q) (demands m bids q) ≡ 0 → q ≡ p
  unfolding Below
  only-prices q lq fq eq sq =
      prices-ext m q p lq len
      (λ i l. le_antisymm
      (least-prices m floors bids q (above_floors m floors q) (above_floors-up m floors q) sq p (λ j lj h. above_floors-at m floors q j lj (omega (arith, low j))) balances i l)
      (least-prices m floors bids p (above_floors m floors p) (above_floors-up m floors p) no_supply q (λ j lj h. above_floors-at m floors p j lj (omega (arith, fq j)))
      (record { from-floors = fq; assigned = assignment m (above_floors m floors q) (demands m bids q); balances = first_fits m bids q (above_floors m floors q) eq sq lm ln }) i l))
