-- `differences::explained_row` meets its contract. Assumes nothing.
use Prim.Native.Nat.{ℕ, min}
use mathlib.Core.Bool.{Bool}
use mathlib.Core.List.{List}
use lib.ListN.{get_or}
use lib.IntN.{ℤ, pos}
use Rattle.sets.specs.Bit.{has}
use Rattle.rule.specs.Sheet.{amount}
use Rattle.differences.specs.Shifted.{up}
use Rattle.differences.specs.Constraint.{limit}
use Rattle.differences.proofs.Filling.{RowFilling}
use Rattle.differences.proofs.explained_row.Given as goal

-- a place of the row with the report's constraint
abbrev pub limited : List ℕ → Bool → ℕ → ℕ → ℕ → List ℤ → ℕ → ℕ
limited prices null set l i own j = min (up (get_or own j (pos 0))) (limit null (has set) (amount prices) l i j)

abbrev pub invariant-loop-j : goal.invariant-loop-j
invariant-loop-j l = RowFilling l.n l.own (limited l.report.prices.now l.report.null l.report.set l.l l.i l.own) l.r l.j
