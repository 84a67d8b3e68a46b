-- `reports::all_fit` meets its contract. The places passed so far hold what they may. Assumes nothing.
use mathlib.Core.Path.{◌≡◌}
use mathlib.Core.Bool.{true}
use Prim.Native.Nat.{ℕ, ◌<◌}
use Rattle.reports.proofs.Fitting.{fits_at}
use Rattle.reports.proofs.all_fit.Given as goal

abbrev pub invariant-loop-k : goal.invariant-loop-k
invariant-loop-k l = (j : ℕ) → j < l.k → fits_at l.items l.bidders l.sets l.nulls l.reported j ≡ true
