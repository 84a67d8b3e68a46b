-- `differences::places_fit` meets its contract. The places passed so far hold what they may. Assumes nothing.
use Prim.Native.Nat.{ℕ, ◌/◌, ◌%◌, ◌<◌}
use mathlib.Core.Path.{◌≡◌}
use mathlib.Core.Bool.{true}
use lib.ListN.{get_or}
use lib.IntN.{pos}
use Rattle.differences.specs.Table.{place_fits}
use Rattle.differences.proofs.places_fit.Given as goal

abbrev pub invariant-loop-k : goal.invariant-loop-k
invariant-loop-k l = (h : ℕ) → h < l.k → place_fits l.items (h / 33) (h % 33) (get_or l.part h (pos 0)) ≡ true
