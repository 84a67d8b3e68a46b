-- Every sheet within the limits closes falling first as promised: all that #104 of document 02 says of sheets. THEORY.md 3.4. Assumes nothing.
use Prim.Native.Nat.{ℕ, suc, ◌+◌, ◌-◌, ◌≤◌, ◌<◌}
use mathlib.Core.Path.{◌≡◌, sym, ap, ◌∙◌, subst}
use mathlib.Core.Bool.{true}
use mathlib.Core.List.{List}
use native.Mathlib.Omega.{arith}
use native.Mathlib.Nat.{add-zero}
use native.Mathlib.Decide.{dec_le}
use lib.ListN.{length}
use Rattle.sets.specs.Bit.{has}
use Rattle.rule.specs.Sheet.{amount, Sheet, within_limits, greatest}
use Rattle.rule.specs.Excess.{above_floors}
use Rattle.rule.specs.Round.{falling, raised, lowered, closed, State, most_rounds}
use Rattle.rule.specs.Equilibrium.{Below}
use Rattle.rule.specs.Closing.{excess_demand_at, excess_supply_at, Closing}
use Rattle.rule.specs.FallingFirst.{falling_round_at, falling_path, falling_close, falling_round_of, rising_after, FallingClosing}
use Rattle.rule.specs.Reduced.{reduced_bids, reduced}
use Rattle.rule.proofs.Limits.{Limits, limits, starting_at, starting-limits, amount-beyond, below_all, above_floors-at, above_floors-up}
use Rattle.rule.proofs.Balance.{least-prices}
use Rattle.rule.proofs.Closing.{closing-of, raisable}
use Rattle.rule.proofs.Path.{path-long}
use Rattle.rule.proofs.Reduced.{same-supply, reduced-limits}
use Rattle.rule.proofs.Full.{FullAt, full-of-empty}
use Rattle.rule.proofs.FallingPath.{state_at, lowers, raises, ends, stays_at, fallen, below, same_at, some-falls, path-falls, start-turn, turn_is, risen, no-falls, path-rises, close_at}

-- the falls end in the close of the sheet with reduced bids
module _ (s : Sheet) (lim : Limits s) (fall : Closing (reduced s)) where
  abbrev m : ℕ
  m = s.items

  abbrev downs : ℕ
  downs = fall.downs

  abbrev turn : List ℕ
  turn = fall.prices

  -- what holds of the prices after the last fall holds of the turn
  by-falls : (P : List ℕ → Type 0) → P (fallen s fall downs) → P turn
  by-falls P h = subst P (turn_is s fall) h

  at_turn : falling_path s downs ≡ record { phase = falling; prices = turn; ups = 0; downs = downs }
  at_turn = by-falls (λ p. falling_path s downs ≡ state_at s falling p 0 downs) (path-falls s fall downs (omega arith))

  turn-empty : excess_supply_at s turn ≡ 0
  turn-empty = sym (by-falls (λ p. excess_supply_at (reduced s) p ≡ excess_supply_at s p) (same_at s fall downs (omega arith))) ∙ fall.no_supply

  turn-full : FullAt m s.floors s.bids turn
  turn-full = full-of-empty m s.floors s.bids turn turn-empty

  turn-long : length turn ≡ m
  turn-long = by-falls (λ p. length p ≡ m) (path-long (reduced s) lim.start.long downs)

  turn_below : Below turn s.start
  turn_below = below_all m turn s.start turn-long (by-falls (λ p. (i : ℕ) → i < suc m → amount p i ≤ amount s.start i) (below s fall downs (omega arith)))

  turn_low : Below s.floors turn
  turn_low = fall.balance.from-floors

  turn-limits : Limits (starting_at s turn)
  unfolding Below
  turn-limits =
      starting-limits s lim turn
      (record { long = turn-long; most = by-falls (λ p. (i : ℕ) → amount p i ≤ 4095) (fall.range downs) }) turn_low

  -- prices from the start down whose falling set is empty are nowhere above the turn, which balances with reduced bids
  turn_greatest : (q : List ℕ) → Below q s.start → excess_supply_at s q ≡ 0 → Below q turn
  unfolding Below
  turn_greatest q down e i = go (dec_le i m)
    where
      up : (j : ℕ) → j < suc m → has (above_floors m s.floors q) j ≡ true → 0 < amount q j
      up = above_floors-up m s.floors q

      go : Dec (i ≤ m) → amount q i ≤ amount turn i
      go (yes l) =
          least-prices m s.floors (reduced_bids m s.start s.bids) q (above_floors m s.floors q) up
          (same-supply m s.start q (λ j lj. down j) (above_floors m s.floors q) up s.bids ∙ e) turn
          (λ j lj h. above_floors-at m s.floors q j lj (omega (arith, h, turn_low j))) fall.balance i (omega arith)
      go (no l) = omega (arith, down i, amount-beyond m s.start lim.start.long i (omega arith))

  largest-fall : downs ≡ greatest m λ i. amount s.start i - amount turn i
  largest-fall = subst (λ (p : List ℕ). downs ≡ greatest m λ i. amount p i - amount turn i) (start-turn s fall) fall.largest-fall

  falls : (k : ℕ) → k < downs → falling_round_of s k ≡ lowered (excess_supply_at s (falling_path s k).prices)
  falls k l =
      subst (λ (t : State). falling_round_at s t ≡ lowered (excess_supply_at s t.prices)) (sym (path-falls s fall k (omega arith)))
      (lowers s (fallen s fall k) 0 k (some-falls s fall k l))

  before_turn : (k : ℕ) → k < downs → excess_supply_at s (falling_path s k).prices ≡ 0 → ⊥
  before_turn k l e = some-falls s fall k l (sym (ap (λ (t : State). excess_supply_at s t.prices) (path-falls s fall k (omega arith))) ∙ e)

  -- and the rises start there
  module _ (rise : Closing (starting_at s turn)) where
    abbrev ups : ℕ
    ups = rise.ups

    abbrev prices : List ℕ
    prices = rise.turn

    abbrev risen_to : ℕ → List ℕ
    risen_to = risen s turn rise downs at_turn turn-full

    to-rise : (k : ℕ) → k ≤ ups → falling_path s (downs + k) ≡ state_at s (rising_after k) (risen_to k) k downs
    to-rise = path-rises s turn rise downs at_turn turn-full

    none-falls : (k : ℕ) → k ≤ ups → excess_supply_at s (risen_to k) ≡ 0
    none-falls = no-falls s turn rise downs at_turn turn-full

    by-rises : (P : List ℕ → Type 0) → P (risen_to ups) → P prices
    by-rises P h = subst P (close_at s turn rise downs at_turn turn-full) h

    at_close : falling_path s (downs + ups) ≡ record { phase = rising_after ups; prices = prices; ups = ups; downs = downs }
    at_close = by-rises (λ p. falling_path s (downs + ups) ≡ state_at s (rising_after ups) p ups downs) (to-rise ups (omega arith))

    no_supply : excess_supply_at s prices ≡ 0
    no_supply = by-rises (λ p. excess_supply_at s p ≡ 0) (none-falls ups (omega arith))

    no_excess : excess_demand_at s prices ≡ 0
    no_excess = by-rises (λ p. excess_demand_at s p ≡ 0) (ap (λ (k : ℕ). excess_demand_at s (risen_to k)) (sym (add-zero ups)) ∙ rise.calm 0)

    closes : falling_round_of s (downs + ups) ≡ closed
    closes = ap (falling_round_at s) at_close ∙ ends s (rising_after ups) prices ups downs no_supply no_excess

    stays : (k : ℕ) → falling_path s (downs + ups + k) ≡ falling_path s (downs + ups)
    stays = stays_at s (downs + ups) closes

    late : (k : ℕ) → downs + ups ≤ k → falling_path s k ≡ record { phase = rising_after ups; prices = prices; ups = ups; downs = downs }
    late k l = let e : k ≡ downs + ups + (k - (downs + ups)) = omega arith in ap (falling_path s) e ∙ stays (k - (downs + ups)) ∙ at_close

    rises : (k : ℕ) → k < ups → falling_round_of s (downs + k) ≡ raised (excess_demand_at s (falling_path s (downs + k)).prices)
    rises k l =
        subst (λ (t : State). falling_round_at s t ≡ raised (excess_demand_at s t.prices)) (sym (to-rise k (omega arith)))
        (raises s (rising_after k) (risen_to k) k downs (none-falls k (omega arith)) (rise.before_turn k l))

    -- what holds of the prices of both halves holds along the path
    along : (P : List ℕ → Type 0) → ((k : ℕ) → k ≤ downs → P (fallen s fall k)) → ((k : ℕ) → k ≤ ups → P (risen_to k)) → (k : ℕ) → P (falling_path s k).prices
    along P first then k = go (dec_le k downs) (dec_le k (downs + ups))
      where
        go : Dec (k ≤ downs) → Dec (k ≤ downs + ups) → P (falling_path s k).prices
        go (yes l) d = subst (λ (t : State). P t.prices) (sym (path-falls s fall k l)) (first k l)
        go (no l) (yes h) =
            let e : downs + (k - downs) ≡ k = omega arith in
            subst (λ (j : ℕ). P (falling_path s j).prices) e
            (subst (λ (t : State). P t.prices) (sym (to-rise (k - downs) (omega arith))) (then (k - downs) (omega arith)))
        go (no l) (no h) = subst (λ (t : State). P t.prices) (sym (late k (omega arith))) (by-rises P (then ups (omega arith)))

    full : (k : ℕ) → excess_supply_at s (falling_path s (downs + k)).prices ≡ 0
    full k = go (dec_le k ups)
      where
        go : Dec (k ≤ ups) → excess_supply_at s (falling_path s (downs + k)).prices ≡ 0
        go (yes l) = ap (λ (t : State). excess_supply_at s t.prices) (to-rise k l) ∙ none-falls k l
        go (no l) = ap (λ (t : State). excess_supply_at s t.prices) (late (downs + k) (omega arith)) ∙ no_supply

    before_close : (k : ℕ) → k < downs + ups → falling_round_of s k ≡ closed → ⊥
    before_close k l e = go (dec_le (suc k) downs)
      where
        go : Dec (k < downs) → ⊥
        go (yes h) = let r = falls k h in let no : ◌≡◌ {A = ℕ} 0 1 = cc in omega arith
        go (no h) =
            let at : downs + (k - downs) ≡ k = omega arith in
            let r = rises (k - downs) (omega arith) in
            let c : falling_round_of s (downs + (k - downs)) ≡ closed = ap (λ (x : ℕ). falling_round_of s x) at ∙ e in
            let no : ◌≡◌ {A = ℕ} 0 1 = cc in
            omega arith

    closes_only : (k : ℕ) → falling_round_of s k ≡ closed → (excess_demand_at s (falling_path s k).prices ≡ 0) × (excess_supply_at s (falling_path s k).prices ≡ 0)
    closes_only k e = go (dec_le (downs + ups) k)
      where
        go : Dec (downs + ups ≤ k) → (excess_demand_at s (falling_path s k).prices ≡ 0) × (excess_supply_at s (falling_path s k).prices ≡ 0)
        go (no h) = absurd (before_close k (omega arith) e)
        go (yes h) =
            (ap (λ (t : State). excess_demand_at s t.prices) (late k h) ∙ no_excess, ap (λ (t : State). excess_supply_at s t.prices) (late k h) ∙ no_supply)

    -- where both sets are empty it closes, in either phase
    closes_where : (k : ℕ) → excess_demand_at s (falling_path s k).prices ≡ 0 → excess_supply_at s (falling_path s k).prices ≡ 0 → falling_round_of s k ≡ closed
    closes_where k d e = let t = falling_path s k in ends s t.phase t.prices t.ups t.downs e d

    close-low : Below s.floors prices
    unfolding Below
    close-low = by-rises (λ p. (i : ℕ) → amount s.floors i ≤ amount p i) (rise.above_floor ups)

    close-long : length prices ≡ m
    close-long = by-rises (λ p. length p ≡ m) (path-long (starting_at s turn) turn-long ups)

    close_is : falling_close s ≡ record { phase = rising_after ups; prices = prices; ups = ups; downs = downs }
    unfolding falling_close most_rounds
    close_is = late _ (omega (arith, rise.ups_max, fall.downs_max))

    pub falling-of : Closing s → FallingClosing s
    falling-of rising_first =
        record {
          downs = downs;
          ups = ups;
          turn = turn;
          prices = prices;
          falls = falls;
          before_turn = before_turn;
          at_turn = at_turn;
          full = full;
          rises = rises;
          at_close = at_close;
          closes = closes;
          before_close = before_close;
          closes_only = closes_only;
          closes_where = closes_where;
          no_excess = no_excess;
          no_supply = no_supply;
          stays = stays;
          close_is = close_is;
          above_floor = along (λ p. (i : ℕ) → amount s.floors i ≤ amount p i) (λ k l. fall.above_floor k) (λ k l. rise.above_floor k);
          range = along (λ p. (i : ℕ) → amount p i ≤ 4095) (λ k l. fall.range k) (λ k l. rise.range k);
          raisable = λ k. raisable s lim (falling_path s k).prices;
          turn_below = turn_below;
          turn_greatest = turn_greatest;
          close_above = rise.turn_above;
          largest-fall = largest-fall;
          largest-rise = rise.largest-rise;
          downs_max = fall.downs_max;
          ups_max = rise.ups_max;
          rising_first = rising_first;
          same-prices = rising_first.unique prices close-long close-low no_excess no_supply;
        }

-- the turn of any closing falling first is the close with reduced bids: both are the greatest
pub falling-turn : (s : Sheet) → Limits s → (c : FallingClosing s) (fall : Closing (reduced s)) (i : ℕ) → amount c.turn i ≡ amount fall.prices i
unfolding Below
falling-turn s lim c fall i =
    omega (arith, turn_greatest s lim fall c.turn c.turn_below empty i, c.turn_greatest fall.prices (turn_below s lim fall) (turn-empty s lim fall) i)
  where
    empty : excess_supply_at s c.turn ≡ 0
    empty =
        sym (ap (λ (t : State). excess_supply_at s t.prices) c.at_turn) ∙ ap (λ (k : ℕ). excess_supply_at s (falling_path s k).prices) (sym (add-zero c.downs)) ∙ c.full 0

pub falling-closing-of : (s : Sheet) → Limits s → FallingClosing s
falling-closing-of s lim = by (closing-of (reduced s) (reduced-limits s lim))
  where
    by : Closing (reduced s) → FallingClosing s
    by fall = falling-of s lim fall (closing-of (starting_at s fall.prices) (turn-limits s lim fall)) (closing-of s lim)

pub falling-closing : (s : Sheet) → within_limits s ≡ true → FallingClosing s
falling-closing s e = falling-closing-of s (limits s e)
