-- The close without its rounds: the least prices from the start up at which no set is overdemanded are those at the turn, and from the floors up they are the
-- closing prices; falling first, the turn is the same with reduced bids. THEORY.md 2.11 and 2.14. Assumes nothing.
use Prim.Native.Nat.{ℕ}
use mathlib.Core.Path.{◌≡◌, sym, ap, ◌∙◌}
use mathlib.Core.List.{List}
use native.Mathlib.Omega.{arith}
use native.Mathlib.Nat.{add-zero}
use Rattle.rule.specs.Sheet.{amount, Sheet}
use Rattle.rule.specs.Round.{State, path}
use Rattle.rule.specs.Equilibrium.{Below}
use Rattle.rule.specs.Closing.{excess_demand_at, Closing}
use Rattle.rule.specs.FallingFirst.{FallingClosing}
use Rattle.rule.specs.Reduced.{reduced_bids, reduced}
use Rattle.rule.proofs.Limits.{Limits, starting_at, starting-limits}
use Rattle.rule.proofs.Closing.{closing-of}
use Rattle.rule.proofs.Reduced.{reduced-limits}
use Rattle.rule.proofs.FallingClosing.{falling-turn}
use Rattle.least.specs.Least.{LeastFrom}

pub least-turn : (s : Sheet) (c : Closing s) (p : List ℕ) → LeastFrom s.items s.bids s.start p → (i : ℕ) → amount p i ≡ amount c.turn i
unfolding Below
least-turn s c p l i = omega (arith, c.turn_least p l.above l.empty i, l.least c.turn c.turn_above empty i)
  where
    empty : excess_demand_at s c.turn ≡ 0
    empty =
        sym (ap (λ (t : State). excess_demand_at s t.prices) c.at_turn) ∙ ap (λ (k : ℕ). excess_demand_at s (path s k).prices) (sym (add-zero c.ups)) ∙ c.calm 0

-- the sheet that starts at its floors turns where it closes, and has the same close

pub least-close : (s : Sheet) → Limits s → (c : Closing s) (p : List ℕ) → LeastFrom s.items s.bids s.floors p → (i : ℕ) → amount p i ≡ amount c.prices i
unfolding Below
least-close s lim c p l i = by (closing-of (starting_at s s.floors) (starting-limits s lim s.floors lim.floors (λ j. omega arith)))
  where
    by : Closing (starting_at s s.floors) → amount p i ≡ amount c.prices i
    by z =
        omega (
          arith,
          l.least c.prices c.balance.from-floors c.no_excess i,
          c.least z.prices z.balance i,
          z.close_below i,
          z.turn_least p l.above l.empty i,
        )

-- falling first, the turn is where the sheet with reduced bids closes
pub least-falling-turn : (s : Sheet) → Limits s → (c : FallingClosing s) (p : List ℕ) → LeastFrom s.items (reduced_bids s.items s.start s.bids) s.floors p
    → (i : ℕ) → amount p i ≡ amount c.turn i
least-falling-turn s lim c p l i = by (closing-of (reduced s) (reduced-limits s lim))
  where
    by : Closing (reduced s) → amount p i ≡ amount c.turn i
    by fall = least-close (reduced s) (reduced-limits s lim) fall p l i ∙ sym (falling-turn s lim c fall i)
