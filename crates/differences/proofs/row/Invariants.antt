-- `differences::row` meets its contract. Assumes nothing.
use Prim.Native.Nat.{ℕ}
use mathlib.Core.List.{List}
use lib.ListN.{get_or}
use lib.IntN.{ℤ, pos}
use Rattle.differences.specs.Shifted.{up, via}
use Rattle.differences.proofs.Filling.{RowFilling}
use Rattle.differences.proofs.row.Given as goal

-- a place of the row, by way of the option
abbrev pub by_way : List ℤ → List ℤ → ℤ → ℕ → ℕ
by_way own by first j = via (up (get_or own j (pos 0))) (up first) (up (get_or by j (pos 0)))

abbrev pub invariant-loop-j : goal.invariant-loop-j
invariant-loop-j l = RowFilling l.n l.own (by_way l.own l.by l.first) l.r l.j
