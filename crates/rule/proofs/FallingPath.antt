-- The path falling first, in two halves that are rising first: its falls are those of the sheet with reduced bids, which has no rises, and its rises are those of the
-- sheet that starts at the turn. THEORY.md 3.4. Assumes nothing.
use Prim.Native.Nat.{ℕ, zero, suc, ◌+◌, ◌≤◌, ◌<◌}
use mathlib.Core.Path.{◌≡◌, refl, sym, ap, ◌∙◌, subst}
use mathlib.Core.List.{List}
use native.Mathlib.Omega.{arith}
use native.Mathlib.Nat.{add-zero}
use Rattle.rule.specs.Sheet.{amount, Sheet}
use Rattle.rule.specs.Demand.{Demand}
use Rattle.rule.specs.Excess.{excess_demand, excess_supply, above_floors}
use Rattle.rule.specs.Round.{raise, lower, Phase, rising, falling, Round, raised, lowered, closed, State, move, round_at, after, opening, path}
use Rattle.rule.specs.Closing.{demands_at, excess_demand_at, excess_supply_at, round_of, Closing}
use Rattle.rule.specs.FallingFirst.{round_rising, falling_round, falling_round_at, falling_path, falling_round_of, rising_after}
use Rattle.rule.specs.Reduced.{reduced_bids, reduced}
use Rattle.rule.proofs.Limits.{starting_at, above_floors-up}
use Rattle.rule.proofs.AtPrices.{empty-of-enough}
use Rattle.rule.proofs.Moves.{lowered-le}
use Rattle.rule.proofs.Path.{moves, moves_not, lowered-some}
use Rattle.rule.proofs.Reduced.{same-supply, reduced-calm}
use Rattle.rule.proofs.Full.{FullAt, empty-of-full, raised-full}

-- ---- what a round is, by the two sets

module _ (m above : ℕ) (ds : List Demand) where
  pub falling-lowered : (excess_supply m above ds ≡ 0 → ⊥) → falling_round m above ds falling ≡ lowered (excess_supply m above ds)
  unfolding falling_round
  falling-lowered = moves lowered (round_rising m ds) (excess_supply m above ds)

  -- where the falling set is empty the phase does not matter
  pub falling-turned : excess_supply m above ds ≡ 0 → (ph : Phase) → falling_round m above ds ph ≡ round_rising m ds
  unfolding falling_round
  falling-turned e rising = refl
  falling-turned e falling = moves_not lowered (round_rising m ds) (excess_supply m above ds) e

  pub rising-raised : (excess_demand m ds ≡ 0 → ⊥) → round_rising m ds ≡ raised (excess_demand m ds)
  unfolding round_rising
  rising-raised = moves raised closed (excess_demand m ds)

  pub rising-closed : excess_demand m ds ≡ 0 → round_rising m ds ≡ closed
  unfolding round_rising
  rising-closed = moves_not raised closed (excess_demand m ds)

module _ (s : Sheet) where
  abbrev pub state_at : Phase → List ℕ → ℕ → ℕ → State
  state_at ph p u d = record { phase = ph; prices = p; ups = u; downs = d }

  -- ---- one round

  pub lowers : (p : List ℕ) (u d : ℕ) → (excess_supply_at s p ≡ 0 → ⊥) → falling_round_at s (state_at falling p u d) ≡ lowered (excess_supply_at s p)
  unfolding falling_round_at
  lowers p u d ne = falling-lowered s.items (above_floors s.items s.floors p) (demands_at s p) ne

  pub raises : (ph : Phase) (p : List ℕ) (u d : ℕ) → excess_supply_at s p ≡ 0 → (excess_demand_at s p ≡ 0 → ⊥) → falling_round_at s (state_at ph p u d) ≡ raised (excess_demand_at s p)
  unfolding falling_round_at
  raises ph p u d e ne =
      falling-turned s.items (above_floors s.items s.floors p) (demands_at s p) e ph ∙ rising-raised s.items (above_floors s.items s.floors p) (demands_at s p) ne

  pub ends : (ph : Phase) (p : List ℕ) (u d : ℕ) → excess_supply_at s p ≡ 0 → excess_demand_at s p ≡ 0 → falling_round_at s (state_at ph p u d) ≡ closed
  unfolding falling_round_at
  ends ph p u d e z =
      falling-turned s.items (above_floors s.items s.floors p) (demands_at s p) e ph ∙ rising-closed s.items (above_floors s.items s.floors p) (demands_at s p) z

  moved_down : (ph : Phase) (p : List ℕ) (u d x : ℕ) → move s.items (state_at ph p u d) (lowered x) ≡ state_at falling (lower s.items p x) u (d + 1)
  unfolding move
  moved_down ph p u d x = refl

  moved_up : (ph : Phase) (p : List ℕ) (u d x : ℕ) → move s.items (state_at ph p u d) (raised x) ≡ state_at rising (raise s.items p x) (u + 1) d
  unfolding move
  moved_up ph p u d x = refl

  one_more : (k : ℕ) (t : State) → falling_path s k ≡ t → (r : Round) → falling_round_at s t ≡ r → falling_path s (suc k) ≡ move s.items t r
  unfolding falling_path
  one_more k t e r q = ap (λ (x : State). move s.items x (falling_round_at s x)) e ∙ ap (move s.items t) q

  -- a closed state stays
  pub stays_at : (n : ℕ) → falling_round_of s n ≡ closed → (k : ℕ) → falling_path s (n + k) ≡ falling_path s n
  stays_at n e zero = ap (falling_path s) (add-zero n)
  stays_at n e (suc k) =
      let next : n + suc k ≡ suc (n + k) = omega arith in
      ap (falling_path s) next ∙ one_more (n + k) (falling_path s n) (stays_at n e k) closed e ∙ (unfold move in refl)

  -- ---- the falls are those of the sheet with reduced bids

  module _ (fall : Closing (reduced s)) where
    -- the prices after k rounds
    abbrev pub fallen : ℕ → List ℕ
    fallen k = (path (reduced s) k).prices

    start_is : fallen 0 ≡ s.start
    unfolding path opening after
    start_is = refl

    no-rise : fall.ups ≡ 0
    no-rise = go fall.ups (fall.before_turn 0)
      where
        go : (u : ℕ) → (0 < u → excess_demand_at (reduced s) (fallen 0) ≡ 0 → ⊥) → u ≡ 0
        go zero h = refl
        go (suc u) h =
            absurd
            (h (omega arith)
            (ap (excess_demand_at (reduced s)) start_is
            ∙ empty-of-enough s.items (reduced_bids s.items s.start s.bids) s.start (reduced-calm s.items s.start s.bids)))

    from_start : (k : ℕ) → fall.ups + k ≡ k
    from_start k = omega (arith, no-rise)

    falls : (k : ℕ) → k < fall.downs → round_of (reduced s) k ≡ lowered (excess_supply_at (reduced s) (fallen k))
    falls k l = subst (λ (j : ℕ). round_of (reduced s) j ≡ lowered (excess_supply_at (reduced s) (fallen j))) (from_start k) (fall.falls k l)

    step : (k : ℕ) → k < fall.downs → fallen (suc k) ≡ lower s.items (fallen k) (excess_supply_at (reduced s) (fallen k))
    unfolding path after move
    step k l = ap (λ (r : Round). (move s.items (path (reduced s) k) r).prices) (falls k l)

    pub below : (k : ℕ) → k ≤ fall.downs → (i : ℕ) → i < suc s.items → amount (fallen k) i ≤ amount s.start i
    below zero l i li = omega (arith, ap (λ (p : List ℕ). amount p i) start_is)
    below (suc k) l i li =
        omega (
          arith,
          below k (omega arith) i li,
          ap (λ (p : List ℕ). amount p i) (step k l),
          lowered-le s.items (fallen k) (excess_supply_at (reduced s) (fallen k)) i li,
        )

    -- the falling set is the same
    pub same_at : (k : ℕ) → k ≤ fall.downs → excess_supply_at (reduced s) (fallen k) ≡ excess_supply_at s (fallen k)
    same_at k l =
        same-supply s.items s.start (fallen k) (below k l) (above_floors s.items s.floors (fallen k)) (above_floors-up s.items s.floors (fallen k)) s.bids

    -- and not empty
    pub some-falls : (k : ℕ) → k < fall.downs → excess_supply_at s (fallen k) ≡ 0 → ⊥
    some-falls k l e =
        lowered-some s.items (above_floors s.items s.floors (fallen k)) (demands_at (reduced s) (fallen k)) (path (reduced s) k).phase (excess_supply_at (reduced s) (fallen k))
        (unfold round_at in falls k l) (same_at k (omega arith) ∙ e)

    pub path-falls : (k : ℕ) → k ≤ fall.downs → falling_path s k ≡ state_at falling (fallen k) 0 k
    path-falls zero l = unfold falling_path in ap (λ (p : List ℕ). state_at falling p 0 0) (sym start_is)
    path-falls (suc k) l =
        let one : k + 1 ≡ suc k = omega arith in
        let f = excess_supply_at s (fallen k) in
        one_more k (state_at falling (fallen k) 0 k) (path-falls k (omega arith)) (lowered f) (lowers (fallen k) 0 k (some-falls k l))
        ∙ moved_down falling (fallen k) 0 k f
        ∙ ap (λ (p : List ℕ). state_at falling p 0 (k + 1)) (sym (step k l ∙ ap (lower s.items (fallen k)) (same_at k (omega arith))))
        ∙ ap (state_at falling (fallen (suc k)) 0) one

    -- from the start to the turn
    pub start-turn : fall.turn ≡ s.start
    start-turn = sym (ap (λ (t : State). t.prices) fall.at_turn) ∙ ap fallen no-rise ∙ start_is

    pub turn_is : fallen fall.downs ≡ fall.prices
    turn_is = ap fallen (sym (from_start fall.downs)) ∙ ap (λ (t : State). t.prices) fall.at_close

  -- ---- the rises are those of the sheet that starts at the turn

  module _ (turn : List ℕ) (rise : Closing (starting_at s turn)) (downs : ℕ) (at_turn : falling_path s downs ≡ state_at falling turn 0 downs) (full : FullAt s.items s.floors s.bids turn) where
    -- the prices k rounds after the turn
    abbrev pub risen : ℕ → List ℕ
    risen k = (path (starting_at s turn) k).prices

    turn_at : risen 0 ≡ turn
    unfolding path opening after
    turn_at = refl

    up : (k : ℕ) → k < rise.ups → risen (suc k) ≡ raise s.items (risen k) (excess_demand_at s (risen k))
    unfolding path after move
    up k l = ap (λ (r : Round). (move s.items (path (starting_at s turn) k) r).prices) (rise.rises k l)

    full_at : (k : ℕ) → k ≤ rise.ups → FullAt s.items s.floors s.bids (risen k)
    full_at zero l = subst (λ (p : List ℕ). FullAt s.items s.floors s.bids p) (sym turn_at) full
    full_at (suc k) l =
        subst (λ (p : List ℕ). FullAt s.items s.floors s.bids p) (sym (up k l))
        (raised-full s.items s.floors s.bids (risen k) (full_at k (omega arith)))

    -- the falling set stays empty
    pub no-falls : (k : ℕ) → k ≤ rise.ups → excess_supply_at s (risen k) ≡ 0
    no-falls k l = empty-of-full s.items s.floors s.bids (risen k) (full_at k l)

    pub path-rises : (k : ℕ) → k ≤ rise.ups → falling_path s (downs + k) ≡ state_at (rising_after k) (risen k) k downs
    path-rises zero l = ap (falling_path s) (add-zero downs) ∙ at_turn ∙ ap (λ (p : List ℕ). state_at falling p 0 downs) (sym turn_at)
    path-rises (suc k) l =
        let next : downs + suc k ≡ suc (downs + k) = omega arith in
        let one : k + 1 ≡ suc k = omega arith in
        let e = excess_demand_at s (risen k) in
        ap (falling_path s) next
        ∙ one_more (downs + k) (state_at (rising_after k) (risen k) k downs) (path-rises k (omega arith)) (raised e)
        (raises (rising_after k) (risen k) k downs (no-falls k (omega arith)) (rise.before_turn k l))
        ∙ moved_up (rising_after k) (risen k) k downs e
        ∙ ap (λ (p : List ℕ). state_at rising p (k + 1) downs) (sym (up k l))
        ∙ ap (λ (u : ℕ). state_at rising (risen (suc k)) u downs) one

    -- the close
    pub close_at : risen rise.ups ≡ rise.turn
    close_at = ap (λ (t : State). t.prices) rise.at_turn
