-- `assignment::seats` meets its contract: each turn seats the holder of one item. Assumes nothing.
use Prim.Native.Nat.{ℕ, ◌<◌}
use lib.ListN.{get_or}
use Rattle.assignment.specs.Turn.{Seat}
use Rattle.assignment.proofs.seats.Given as goal

abbrev pub invariant-loop-k : goal.invariant-loop-k
invariant-loop-k l = (c : ℕ) → c < 64 → Seat l.k l.holder c (get_or l.x c 0)
