-- `reasons::Move::who` meets its contract. Each turn looks at one bidder. Assumes nothing.
use Prim.Native.Nat.{ℕ, ◌-◌}
use mathlib.Core.Path.{◌≡◌}
use mathlib.Core.Bool.{Bool}
use mathlib.Core.List.{List}
use Rattle.sets.specs.Bit.{set_of}
use Rattle.rule.specs.Demand.{nth}
use Rattle.round.specs.Reports.{reports}
use Rattle.reasons.specs.Steps.{counts_for}
use Rattle.reasons.specs.declared.Move.{Move}
use Rattle.reasons.proofs.Move.who.Given as goal

-- bidder j's demand counts
abbrev pub at : (n : ℕ) (sets : List ℕ) (nulls s : ℕ) (step : Move) → ℕ → Bool
at n sets nulls s step j = counts_for step 32 s (nth (reports n sets nulls) (j - 1))

abbrev pub invariant-loop-b : goal.invariant-loop-b
invariant-loop-b l = l.g ≡ set_of l.b (at l.bidders l.sets l.nulls l.set l.self)
