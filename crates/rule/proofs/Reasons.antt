-- A raised set has more bidders who demand nothing outside it than items, and a lowered set is demanded by no more bidders than it has items: whatever the
-- demands are, so of every round of every path and of every round that reports give. THEORY.md 1.8. Then how large a reason's numbers are, and
-- which rounds have a reason. Assumes nothing.
use Prim.Native.Nat.{ℕ, suc, ◌+◌, ◌-◌, ◌^◌, ◌≤◌, ◌<◌}
use mathlib.Core.Path.{◌≡◌, sym, ap, ◌∙◌, subst}
use mathlib.Core.Bool.{Bool}
use mathlib.Core.List.{List}
use native.Mathlib.Omega.{arith}
use native.Mathlib.Decide.{ℕ_discrete}
use lib.ListN.{length, length-map}
use lib.Pow.{pow_pos}
use borrow.Author.Tests.{ltb-true, leb-true}
use Rattle.sets.specs.Bit.{is_set, set_of, size}
use Rattle.sets.proofs.Counting.{count-cong, and_right}
use Rattle.sets.proofs.Members.{is_set-set_of, set_of-cong, set_of-lt}
use Rattle.rule.specs.Sheet.{Sheet}
use Rattle.rule.specs.Demand.{Demand, demands, nth}
use Rattle.rule.specs.Excess.{bidders, non_empty_part, something_in, nothing_outside, overdemanded, weakly_underdemanded, excess_demand, excess_supply, above_floors}
use Rattle.rule.specs.Round.{Phase, rising, falling, Round, raised, lowered, closed, round, State, round_at, path}
use Rattle.rule.specs.Closing.{demands_at, excess_demand_at, excess_supply_at, Closing}
use Rattle.rule.specs.FallingFirst.{round_rising, falling_round, falling_round_at, falling_path, falling_round_of}
use Rattle.rule.specs.Reasons.{bidders_with, Reason, reason_of, reason_at, round_count, Justified}
use Rattle.rule.proofs.Largest.{demand-bound, supply-bound}
use Rattle.rule.proofs.EmptySets.{rising-over, falling-under}
use Rattle.rule.proofs.Moves.{some_item}
use Rattle.rule.proofs.Path.{Does, raises, lowers, closes, does}
use Rattle.rule.proofs.FallingPath.{falling-lowered, falling-turned, rising-raised, rising-closed}

-- as many bidders are in the set as have a demand that passes
pub size-with : (ds : List Demand) (f : Demand → Bool) → size (length ds) (bidders_with ds f) ≡ bidders ds f
unfolding size bidders_with bidders
size-with ds f = count-cong (length ds) _ _ at
  where
    at : (b : ℕ) → b < length ds → is_set (set_of (length ds) λ j. f (nth ds (j - 1))) b ≡ f (nth ds b)
    at b l = let e : suc b - 1 ≡ b = omega arith in is_set-set_of (length ds) (λ j. f (nth ds (j - 1))) b l ∙ ap (λ (j : ℕ). f (nth ds j)) e

-- two tests that say the same of each bidder's demand
pub with-same : (ds : List Demand) (f g : Demand → Bool) → ((b : ℕ) → b < length ds → f (nth ds b) ≡ g (nth ds b)) → bidders_with ds f ≡ bidders_with ds g
unfolding bidders_with
with-same ds f g h = set_of-cong (length ds) _ _ at
  where
    at : (b : ℕ) → b < length ds → f (nth ds (suc b - 1)) ≡ g (nth ds (suc b - 1))
    at b l = let e : b ≡ suc b - 1 = omega arith in subst (λ (j : ℕ). f (nth ds j) ≡ g (nth ds j)) e (h b l)

-- no bit stands for a bidder past the last
with-lt : (ds : List Demand) (f : Demand → Bool) → bidders_with ds f < 2 ^ length ds
unfolding bidders_with
with-lt ds f = set_of-lt (length ds) _

-- of m items and n bidders a reason's numbers are small: its kind is at most 2, and the sets are sets of these items and of these bidders
pub record Small (m n : ℕ) (r : Reason) : Type 0 where
  pub kind : r.kind ≤ 2
  pub items : r.items < 2 ^ m
  pub bidders : r.bidders < 2 ^ n

-- ---- whatever the demands are

module _ (m above : ℕ) (ds : List Demand) where
  -- definition 2 of the paper holds of the rising set
  raised-justified : (excess_demand m ds ≡ 0 → ⊥) → Justified m (length ds) (reason_of m ds (raised (excess_demand m ds)))
  unfolding reason_of overdemanded
  raised-justified ne =
      let s : ℕ = excess_demand m ds in
      let w = some_item m s (demand-bound m ds) ne in
      let more = ltb-true (size m s) (bidders ds (nothing_outside m s)) (rising-over m ds w.0 w.1 w.2) in
      record { raised_more = λ e. omega (arith, more, size-with ds (nothing_outside m s)); lowered_no_more = λ e. absurd (omega (arith, e)) }

  -- and definition 3 of the falling set
  lowered-justified : (excess_supply m above ds ≡ 0 → ⊥) → Justified m (length ds) (reason_of m ds (lowered (excess_supply m above ds)))
  unfolding reason_of weakly_underdemanded
  lowered-justified ne =
      let s : ℕ = excess_supply m above ds in
      let w = some_item m s (supply-bound m above ds) ne in
      let few = leb-true (bidders ds (something_in m s)) (size m s) (and_right (non_empty_part m s above) _ (falling-under m above ds w.0 w.1 w.2)) in
      record { raised_more = λ e. absurd (omega (arith, e)); lowered_no_more = λ e. omega (arith, few, size-with ds (something_in m s)) }

  -- a close has no reason
  none-justified : Justified m (length ds) (reason_of m ds closed)
  unfolding reason_of
  none-justified = record { raised_more = λ e. absurd (omega (arith, e)); lowered_no_more = λ e. absurd (omega (arith, e)) }

  -- what holds of the rising set raised, of the falling set lowered and of a close holds of every round
  pub of-each : (P : Round → Type 0) → ((excess_demand m ds ≡ 0 → ⊥) → P (raised (excess_demand m ds)))
      → ((excess_supply m above ds ≡ 0 → ⊥) → P (lowered (excess_supply m above ds))) → P closed → (ph : Phase) → P (round m above ds ph)
  of-each P up down none ph = go (does m above ds ph)
    where
      go : Does m above ds ph → P (round m above ds ph)
      go (raises ne e) = subst P (sym e) (up ne)
      go (lowers ne e) = subst P (sym e) (down ne)
      go (closes f e) = subst P (sym e) none

  -- so every round is justified
  pub justified : (ph : Phase) → Justified m (length ds) (reason_of m ds (round m above ds ph))
  justified = of-each (λ x. Justified m (length ds) (reason_of m ds x)) raised-justified lowered-justified none-justified

  -- falling first too
  falling-each : (P : Round → Type 0) → ((excess_demand m ds ≡ 0 → ⊥) → P (raised (excess_demand m ds)))
      → ((excess_supply m above ds ≡ 0 → ⊥) → P (lowered (excess_supply m above ds))) → P closed → (ph : Phase) → P (falling_round m above ds ph)
  unfolding falling_round
  falling-each P up down none ph = go ph (ℕ_discrete (excess_supply m above ds) 0) (ℕ_discrete (excess_demand m ds) 0)
    where
      rise : Dec (excess_demand m ds ≡ 0) → P (round_rising m ds)
      rise (no ne) = subst P (sym (rising-raised m above ds ne)) (up ne)
      rise (yes e) = subst P (sym (rising-closed m above ds e)) none

      go : (ph : Phase) → Dec (excess_supply m above ds ≡ 0) → Dec (excess_demand m ds ≡ 0) → P (falling_round m above ds ph)
      go rising f d = rise d
      go falling (no ne) d = subst P (sym (falling-lowered m above ds ne)) (down ne)
      go falling (yes e) d = subst P (sym (falling-turned m above ds e falling)) (rise d)

  pub falling-justified : (ph : Phase) → Justified m (length ds) (reason_of m ds (falling_round m above ds ph))
  falling-justified = falling-each (λ x. Justified m (length ds) (reason_of m ds x)) raised-justified lowered-justified none-justified

  -- ---- how large a reason's numbers are

  -- of a raised set, of a lowered set and of a close
  raised-small : (s : ℕ) → s < 2 ^ m → Small m (length ds) (reason_of m ds (raised s))
  unfolding reason_of
  raised-small s l = record { kind = omega arith; items = l; bidders = with-lt ds (nothing_outside m s) }

  lowered-small : (s : ℕ) → s < 2 ^ m → Small m (length ds) (reason_of m ds (lowered s))
  unfolding reason_of
  lowered-small s l = record { kind = omega arith; items = l; bidders = with-lt ds (something_in m s) }

  none-small : Small m (length ds) (reason_of m ds closed)
  unfolding reason_of
  none-small = record { kind = omega arith; items = pow_pos m; bidders = pow_pos (length ds) }

  -- so of every round
  pub small : (ph : Phase) → Small m (length ds) (reason_of m ds (round m above ds ph))
  small =
      of-each (λ x. Small m (length ds) (reason_of m ds x)) (λ ne. raised-small (excess_demand m ds) (demand-bound m ds))
      (λ ne. lowered-small (excess_supply m above ds) (supply-bound m above ds)) none-small

-- ---- along a path

-- every round of every path, within the limits or not: its bidders are the rows of bids
module _ (s : Sheet) (k : ℕ) where
  in_path : (P : ℕ → Reason → Type 0) → ((above : ℕ) (ds : List Demand) (ph : Phase) → P (length ds) (reason_of s.items ds (round s.items above ds ph)))
      → P (length s.bids) (reason_at s k)
  unfolding reason_at round_at demands
  in_path P h =
      subst (λ (n : ℕ). P n (reason_at s k)) (length-map s.bids _)
      (h (above_floors s.items s.floors (path s k).prices) (demands_at s (path s k).prices) (path s k).phase)

  pub path-justified : Justified s.items (length s.bids) (reason_at s k)
  path-justified = in_path (Justified s.items) (justified s.items)

  pub falling-path-justified : Justified s.items (length s.bids) (reason_of s.items (demands_at s (falling_path s k).prices) (falling_round_of s k))
  unfolding falling_round_at demands
  falling-path-justified =
      let t : State = falling_path s k in
      subst (λ (n : ℕ). Justified s.items n (reason_of s.items (demands_at s t.prices) (falling_round_of s k))) (length-map s.bids _)
      (falling-justified s.items (above_floors s.items s.floors t.prices) (demands_at s t.prices) t.phase)

  pub path-small : Small s.items (length s.bids) (reason_at s k)
  path-small = in_path (Small s.items) (small s.items)

-- the rounds to the close, and nothing else, have a reason: those to the turn raise the rising set, the others lower the falling set, and from the close on
-- nothing moves
module _ (s : Sheet) (c : Closing s) where
  pub rise-reason : (k : ℕ) → k < c.ups → reason_at s k ≡ reason_of s.items (demands_at s (path s k).prices) (raised (excess_demand_at s (path s k).prices))
  unfolding reason_at
  rise-reason k l = ap (reason_of s.items (demands_at s (path s k).prices)) (c.rises k l)

  pub fall-reason : (k : ℕ) → k < c.downs
      → reason_at s (c.ups + k) ≡ reason_of s.items (demands_at s (path s (c.ups + k)).prices) (lowered (excess_supply_at s (path s (c.ups + k)).prices))
  unfolding reason_at
  fall-reason k l = ap (reason_of s.items (demands_at s (path s (c.ups + k)).prices)) (c.falls k l)

  pub no-reason : (k : ℕ) → reason_at s (c.ups + c.downs + k) ≡ record { kind = 0; items = 0; bidders = 0 }
  unfolding reason_at reason_of
  no-reason k =
      let last : ℕ = c.ups + c.downs in
      ap (reason_of s.items (demands_at s (path s (last + k)).prices)) (ap (round_at s.items s.floors s.bids) (c.stays k) ∙ c.closes)

  pub count-is : round_count s ≡ c.ups + c.downs
  unfolding round_count
  count-is = ap (λ (t : State). t.ups + t.downs) c.close_is

  pub count_most : round_count s ≤ 8190
  count_most = omega (arith, count-is, c.ups_max, c.downs_max)
