-- What the record that stands for a machine's state shows. Assumes nothing.
use Prim.Native.Nat.{ℕ, zero, suc, ◌-◌, ◌≤◌, ◌<◌}
use mathlib.Core.Path.{◌≡◌, refl, sym, ap, ap₂, ◌∙◌, subst}
use mathlib.Core.Bool.{Bool, true, false, ◌&&◌, not}
use native.Mathlib.Omega.{arith}
use native.Mathlib.Nat.{zero-add}
use lib.Dec.{eqb, ltb}
use lib.ListN.{length, get_or}
use Rattle.sets.specs.Count.{any_below}
use Rattle.sets.specs.Bit.{has, set_of}
use Rattle.sets.specs.Lists.{tabulate}
use Rattle.sets.proofs.Counting.{all-use, any-use, any-cong, is_false, not-both}
use Rattle.sets.proofs.Lists.{tabulate-at, tabulate-same, places-at}
use Rattle.sets.proofs.Members.{has-set_of, set_of-cong}
use Rattle.rule.specs.Sheet.{amount, Sheet}
use Rattle.rule.specs.Demand.{Demand, nth}
use Rattle.rule.specs.Excess.{excess_demand, above_floors}
use Rattle.rule.specs.Closing.{demands_at}
use Rattle.rule.proofs.AtPrices.{demands-length}
use Rattle.rule.proofs.Limits.{Limits}
use Rattle.reports.proofs.Same.{same-demand}
use Rattle.round.specs.Reports.{reports}
use Rattle.round.proofs.Reporting.{tabulate-nth}
use Rattle.live.specs.Auction.{place, has_reported, missing, reports_of, items_above, rising_set}
use Rattle.live.specs.Calls.{is_closed, at_top}
use Rattle.agreement.specs.Machine.{Standing, none, stands, Machine, at, phase_of, phase, does_stand, said, said_all, is_missing, stands_as, demands_stand}
use Rattle.agreement.specs.Agreement.{stands_for}

abbrev nothing : Demand
nothing = record { null = false; items = 0 }

-- ---- demands that stand

stands-as : (x : Standing) (e : Demand) → stands_as x e ≡ true → (does_stand x ≡ true) × (said x ≡ e)
unfolding stands_as does_stand said
stands-as none e h = absurd (not-both false h refl)
stands-as (stands d) e h = (refl, same-demand d e h)

pub closed_is : (b : Bool) (d : ℕ) → is_closed (phase_of b d) ≡ b
unfolding phase_of
closed_is true d = refl
closed_is false zero = refl
closed_is false (suc d) = refl

module _ (s : Sheet) (t : Machine) where
  abbrev n : ℕ
  n = length s.bids

  pub each_stands : demands_stand s t ≡ true → (k : ℕ) → k < n → (does_stand (t.standing (suc k)) ≡ true) × (said (t.standing (suc k)) ≡ nth (demands_at s (at s t).prices) k)
  unfolding demands_stand
  each_stands h k l =
      stands-as (t.standing (suc k)) (nth (demands_at s (at s t).prices) k)
      (all-use n (λ k. stands_as (t.standing (suc k)) (nth (demands_at s (at s t).prices) k)) h k l)

  -- then the reports are the sheet's demands, and none is missing
  pub said-demands : demands_stand s t ≡ true → said_all s t ≡ demands_at s (at s t).prices
  unfolding said_all
  said-demands h =
      tabulate-same n (λ k. said (t.standing (suc k))) (nth (demands_at s (at s t).prices)) (λ k l. (each_stands h k l).1)
      ∙ ap (λ (n : ℕ). tabulate n (nth (demands_at s (at s t).prices)) 0) (sym (demands-length s.items s.bids (at s t).prices))
      ∙ tabulate-nth (demands_at s (at s t).prices)

  pub none-missing : demands_stand s t ≡ true → is_missing s t ≡ false
  unfolding is_missing
  none-missing h = is_false (any_below n (λ k. not (does_stand (t.standing (suc k))))) (λ e. by (any-use n (λ k. not (does_stand (t.standing (suc k)))) e))
    where
      by : (k : ℕ) × (k < n) × (not (does_stand (t.standing (suc k))) ≡ true) → ⊥
      by (k, l, q) = not-both (not (does_stand (t.standing (suc k)))) q (ap not (each_stands h k l).0)

  -- ---- the places of the record

  pub closed-stands : is_closed (stands_for s t).phase ≡ t.has_closed
  unfolding stands_for phase
  closed-stands = closed_is t.has_closed (at s t).downs

  null_is : (k : ℕ) → k < 64 → has (set_of 64 (λ i. (said (t.standing i)).null)) (suc k) ≡ (said (t.standing (suc k))).null
  null_is k l = has-set_of 64 (λ i. (said (t.standing i)).null) k l

  set_is : (k : ℕ) → k < 64 → get_or (tabulate 64 (λ k. (said (t.standing (suc k))).items) 0) k 0 ≡ (said (t.standing (suc k))).items
  set_is k l = tabulate-at 64 (λ k. (said (t.standing (suc k))).items) 0 k 0 l ∙ ap (λ (j : ℕ). (said (t.standing (suc j))).items) (zero-add k)

  pub place_is : (k : ℕ) → k < 64 → place (stands_for s t) k ≡ said (t.standing (suc k))
  unfolding place stands_for
  place_is k l =
      ap (λ (x : Bool). record { null = x; items = get_or (tabulate 64 (λ k. (said (t.standing (suc k))).items) 0) k 0 }) (null_is k l)
      ∙ ap (λ (y : ℕ). record { null = (said (t.standing (suc k))).null; items = y }) (set_is k l)

  reported-at : (k : ℕ) → k < 64 → has_reported (stands_for s t) (suc k) ≡ does_stand (t.standing (suc k))
  unfolding has_reported stands_for
  reported-at k l = has-set_of 64 (λ i. does_stand (t.standing i)) k l

  pub reported-is : (b : ℕ) → 1 ≤ b → b ≤ 64 → has_reported (stands_for s t) b ≡ does_stand (t.standing b)
  reported-is b l h =
      let q : suc (b - 1) ≡ b = omega arith in
      subst (λ (j : ℕ). has_reported (stands_for s t) j ≡ does_stand (t.standing j)) q (reported-at (b - 1) (omega arith))

  pub price-is : (k : ℕ) → k < 32 → amount (stands_for s t).prices (suc k) ≡ amount (at s t).prices (suc k)
  unfolding amount stands_for
  price-is k l = places-at 32 (at s t).prices k l

  -- prices of the options up to the items, null's among them
  pub prices-same : s.items ≤ 32 → (i : ℕ) → i ≤ s.items → amount (stands_for s t).prices i ≡ amount (at s t).prices i
  prices-same few zero l = unfold amount in refl
  prices-same few (suc k) l = price-is k (omega arith)

  floor-is : (k : ℕ) → k < 32 → amount (stands_for s t).floors (suc k) ≡ amount s.floors (suc k)
  unfolding amount stands_for
  floor-is k l = places-at 32 s.floors k l

  module _ (lim : Limits s) where
    pub reports-is : reports_of (stands_for s t) ≡ said_all s t
    unfolding reports_of reports stands_for said_all
    reports-is =
        let max = lim.max_bidders in
        tabulate-same n _ (λ k. said (t.standing (suc k)))
        (λ k l. unfold place in place_is k (omega (arith, max, l)))

    pub missing-is : missing (stands_for s t) ≡ is_missing s t
    unfolding missing stands_for is_missing
    missing-is =
        let max = lim.max_bidders in
        any-cong n (λ k. not (has_reported (stands_for s t) (suc k))) (λ k. not (does_stand (t.standing (suc k)))) (λ k l. ap not (reported-at k (omega (arith, max, l))))

    pub above_is : items_above (stands_for s t) ≡ above_floors s.items s.floors (at s t).prices
    unfolding items_above stands_for above_floors
    above_is =
        let max = lim.max_items in
        set_of-cong s.items (λ i. ltb (amount (stands_for s t).floors i) (amount (stands_for s t).prices i)) (λ i. ltb (amount s.floors i) (amount (at s t).prices i))
        (λ k l. ap₂ ltb (floor-is k (omega (arith, max, l))) (price-is k (omega (arith, max, l))))

    pub rising_is : rising_set (stands_for s t) ≡ excess_demand s.items (said_all s t)
    unfolding rising_set stands_for
    rising_is = ap (excess_demand s.items) reports-is

    pub top-is : (x : ℕ) → at_top s.items (stands_for s t).prices x ≡ at_top s.items (at s t).prices x
    unfolding at_top
    top-is x =
        let max = lim.max_items in
        any-cong s.items (λ k. has x (suc k) && eqb (amount (stands_for s t).prices (suc k)) 4095) (λ k. has x (suc k) && eqb (amount (at s t).prices (suc k)) 4095)
        (λ k l. ap (λ (p : ℕ). has x (suc k) && eqb p 4095) (price-is k (omega (arith, max, l))))
