-- K1 to K9 and the rows with floors, each by computation from the definitions: the path's last state, and from it that no earlier round closed. Assumes nothing.
use Prim.Native.Nat.{ℕ, zero, suc, ◌+◌, ◌≤◌, ◌<◌}
use mathlib.Core.Bool.{true}
use mathlib.Core.List.{List, [], ◌∷◌}
use mathlib.Core.Path.{◌≡◌, refl, sym, ap, ◌∙◌}
use mathlib.Core.Logic.{◌⊎◌, inl, inr}
use native.Mathlib.Omega.{arith}
use native.Mathlib.Nat.{not-suc-le-zero}
use lib.ListN.{length}
use Rattle.sets.specs.Count.{all_below, any_below, count}
use Rattle.sets.specs.Bit.{bit, is_set, has, set_of, each, any, size, lowest}
use Rattle.sets.specs.Sum.{sum}
use Rattle.sets.specs.Largest.{largest_below, largest}
use Rattle.sets.specs.Lists.{tabulate}
use Rattle.sets.proofs.Counting.{below_suc}
use Rattle.rule.specs.Sheet.{amount, row, each4095, Sheet, within_limits}
use Rattle.rule.specs.Demand.{surplus_at_least, best, demand, demands, wants, nth}
use Rattle.rule.specs.Excess.{bidders, crowded, in_excess, in_positive_excess, excess_demand, positive_excess_demand, excess_supply, above_floors}
use Rattle.rule.specs.Round.{raise, lower, Round, raised, lowered, closed, State, round_falling, round, move, round_at, after, opening, path}
use Rattle.rule.specs.Assignment.{option, holders, is_assignment, fits, some_list, choose, assignment, total, floor_total}
use Rattle.rule.specs.Round.{falling as falling-phase}
use Rattle.rule.specs.Closing.{phase_after, assignment_at}
use Rattle.rule.specs.FallingFirst.{round_rising, falling_round, falling_round_at, falling_path, rising_after}
use Rattle.cases.specs.Cases.{Given, sheet_above, demanded, Finding, rising, isS~, falling, closing, falling_first, Closes, FallingCloses, Found, Row, Each, Holds, table}

-- ---- a path that counts as many rounds as it took has not closed before

abbrev rounds : State → ℕ
rounds s = s.ups + s.downs

move-le : (m : ℕ) (s : State) (r : Round) → rounds (move m s r) ≤ rounds s + 1
unfolding move
move-le m s (raised p) = omega arith
move-le m s (lowered p) = omega arith
move-le m s closed = omega arith

move-closed : (m : ℕ) (s : State) (r : Round) → r ≡ closed → move m s r ≡ s
unfolding move
move-closed m s r e = rw e

-- the states of a path, one round after the other by some rule
module _ (m : ℕ) (rule : State → Round) (at : ℕ → State) (step : (k : ℕ) → at (suc k) ≡ move m (at k) (rule (at k))) where
  step-le : (k : ℕ) → rounds (at (suc k)) ≤ rounds (at k) + 1
  step-le k = omega (arith, ap rounds (step k), move-le m (at k) (rule (at k)))

  rounds-le : (k : ℕ) → rounds (at k) ≤ rounds (at 0) + k
  rounds-le zero = omega arith
  rounds-le (suc k) = omega (arith, rounds-le k, step-le k)

  not_before : (k : ℕ) → rounds (at k) ≡ rounds (at 0) + k → (j : ℕ) → j < k → rule (at j) ≡ closed → ⊥
  not_before zero e j l q = not-suc-le-zero l
  not_before (suc k) e j l q = go (below_suc l) (not_before k (omega (arith, rounds-le k, step-le k, e)))
    where
      go : (j ≡ k) ⊎ (j < k) → ((j : ℕ) → j < k → rule (at j) ≡ closed → ⊥) → ⊥
      go (inr lt) ih = ih j lt q
      go (inl p) ih =
          let stay = ap rounds (step k ∙ move-closed m (at k) (rule (at k)) (ap (λ (x : ℕ). rule (at x)) (sym p) ∙ q)) in
          omega (arith, rounds-le k, stay, e)

-- ---- what is computed of a row: of a close the path's last state

record Last (s : Sheet) (bidders ups downs : ℕ) (prices options : List ℕ) : Type 0 where
  limits : within_limits s ≡ true
  counted : length s.bids ≡ bidders
  at_close : path s (ups + downs) ≡ record { phase = phase_after downs; prices = prices; ups = ups; downs = downs }
  closes : round_at s.items s.floors s.bids (record { phase = phase_after downs; prices = prices; ups = ups; downs = downs }) ≡ closed
  assigned : assignment_at s prices ≡ options

from_last : (s : Sheet) (bidders ups downs : ℕ) (prices options : List ℕ) → Last s bidders ups downs prices options → Closes s bidders ups downs prices options
unfolding opening path after
from_last s bidders ups downs prices options l =
    record {
      limits = l.limits;
      counted = l.counted;
      at_close = l.at_close;
      closes = ap (round_at s.items s.floors s.bids) l.at_close ∙ l.closes;
      not_before = not_before s.items (round_at s.items s.floors s.bids) (path s) (λ k. refl) (ups + downs) (ap rounds l.at_close ∙ omega arith);
      assigned = l.assigned;
    }

-- and falling first its state at the turn as well
record LastFalling (s : Sheet) (bidders downs : ℕ) (turn : List ℕ) (ups : ℕ) (prices options : List ℕ) : Type 0 where
  limits : within_limits s ≡ true
  counted : length s.bids ≡ bidders
  at_turn : falling_path s downs ≡ record { phase = falling-phase; prices = turn; ups = 0; downs = downs }
  at_close : falling_path s (downs + ups) ≡ record { phase = rising_after ups; prices = prices; ups = ups; downs = downs }
  closes : falling_round_at s (record { phase = rising_after ups; prices = prices; ups = ups; downs = downs }) ≡ closed
  assigned : assignment_at s prices ≡ options

from-last-falling : (s : Sheet) (bidders downs : ℕ) (turn : List ℕ) (ups : ℕ) (prices options : List ℕ) → LastFalling s bidders downs turn ups prices options
    → FallingCloses s bidders downs turn ups prices options
unfolding falling_path
from-last-falling s bidders downs turn ups prices options l =
    record {
      limits = l.limits;
      counted = l.counted;
      at_turn = l.at_turn;
      at_close = l.at_close;
      closes = ap (falling_round_at s) l.at_close ∙ l.closes;
      not_before = not_before s.items (falling_round_at s) (falling_path s) (λ k. refl) (downs + ups) (ap rounds l.at_close ∙ omega arith);
      assigned = l.assigned;
    }

abbrev Computed : Given → Finding → Type 0
Computed g (rising is) = Found g (rising is)
Computed g (isS~ is) = Found g (isS~ is)
Computed g (falling is) = Found g (falling is)
Computed (sheet_above m n start floors bs) (closing ups downs prices options) =
    Last (record { items = m; start = start; floors = floors; bids = bs }) n ups downs prices options
Computed (demanded m above ds) (closing ups downs prices options) = ⊥
Computed (sheet_above m n start floors bs) (falling_first downs turn ups prices options) =
    LastFalling (record { items = m; start = start; floors = floors; bids = bs }) n downs turn ups prices options
Computed (demanded m above ds) (falling_first downs turn ups prices options) = ⊥

found : (g : Given) (f : Finding) → Computed g f → Found g f
found g (rising is) c = c
found g (isS~ is) c = c
found g (falling is) c = c
found (sheet_above m n start floors bs) (closing ups downs prices options) c =
    from_last (record { items = m; start = start; floors = floors; bids = bs }) n ups downs prices options c
found (demanded m above ds) (closing ups downs prices options) c = c
found (sheet_above m n start floors bs) (falling_first downs turn ups prices options) c =
    from-last-falling (record { items = m; start = start; floors = floors; bids = bs }) n downs turn ups prices options c
found (demanded m above ds) (falling_first downs turn ups prices options) c = c

each_map : {A : Type 0} (P Q : A → Type 0) → ((a : A) → P a → Q a) → (xs : List A) → Each P xs → Each Q xs
each_map P Q f [] e = tt
each_map P Q f (x ∷ xs) e = (f x e.0, each_map P Q f xs e.1)

abbrev ComputedRow : Row → Type 0
ComputedRow r = Each (Computed r.given) r.finds

computed : Each ComputedRow table
unfolding within_limits each4095 path all_below any_below count sum bit is_set has set_of each any size amount row surplus_at_least best demand demands wants nth bidders crowded in_excess in_positive_excess largest_below largest excess_demand positive_excess_demand excess_supply above_floors tabulate raise lower round_falling round move round_at after opening round_rising falling_round falling_round_at falling_path option holders is_assignment fits some_list lowest choose assignment
computed = (
  -- K1
  (record { limits = refl; counted = refl; at_close = refl; closes = refl; assigned = refl }, (record { limits = refl; counted = refl; at_turn = refl; at_close = refl; closes = refl; assigned = refl }, tt)),
  -- K2
  (
    (refl, (refl, (refl, tt))),
    -- K3
    (
      (refl, (refl, tt)),
      -- K4
      (
        (refl, (record { limits = refl; counted = refl; at_close = refl; closes = refl; assigned = refl }, (record { limits = refl; counted = refl; at_turn = refl; at_close = refl; closes = refl; assigned = refl }, tt))),
        -- K5
        (
          (record { limits = refl; counted = refl; at_close = refl; closes = refl; assigned = refl }, tt),
          -- K6
          (
            (record { limits = refl; counted = refl; at_close = refl; closes = refl; assigned = refl }, tt),
            -- K7
            (
              (record { limits = refl; counted = refl; at_close = refl; closes = refl; assigned = refl }, tt),
              -- K8
              (
                (record { limits = refl; counted = refl; at_close = refl; closes = refl; assigned = refl }, tt),
                -- K9
                (
                  (record { limits = refl; counted = refl; at_close = refl; closes = refl; assigned = refl }, (record { limits = refl; counted = refl; at_turn = refl; at_close = refl; closes = refl; assigned = refl }, tt)),
                  -- with floors
                  (
                    (record { limits = refl; counted = refl; at_close = refl; closes = refl; assigned = refl }, tt),
                    (
                      (refl, (record { limits = refl; counted = refl; at_close = refl; closes = refl; assigned = refl }, tt)),
                      (
                        (refl, (record { limits = refl; counted = refl; at_close = refl; closes = refl; assigned = refl }, tt)),
                        ((record { limits = refl; counted = refl; at_close = refl; closes = refl; assigned = refl }, (record { limits = refl; counted = refl; at_turn = refl; at_close = refl; closes = refl; assigned = refl }, tt)), tt),
                      ),
                    ),
                  ),
                ),
              ),
            ),
          ),
        ),
      ),
    ),
  ),
)

-- each row of the table holds
pub cases : Each Holds table
cases = each_map ComputedRow Holds (λ r. each_map (Computed r.given) (Found r.given) (found r.given) r.finds) table computed

-- ---- of the row with two floors: item 2 has the higher bid, and item 1, which is named, the higher bid less its floor

abbrev one_row : List (List ℕ)
one_row = (3 ∷ 7 ∷ []) ∷ []

abbrev two_floors : List ℕ
two_floors = 0 ∷ 5 ∷ []

pub higher-without : total one_row (1 ∷ []) < total one_row (2 ∷ [])
unfolding total sum row option amount
higher-without = omega arith

pub lower-with : total one_row (2 ∷ []) + floor_total two_floors (1 ∷ []) < total one_row (1 ∷ []) + floor_total two_floors (2 ∷ [])
unfolding total floor_total sum row option amount
lower-with = omega arith
