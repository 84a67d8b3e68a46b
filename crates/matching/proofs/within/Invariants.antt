-- `matching::within` meets its contract: each set passed is what of the bidder's set lies in the items. Assumes nothing.
use mathlib.Core.Path.{◌≡◌}
use mathlib.Core.Bool.{◌&&◌}
use Prim.Native.Nat.{ℕ, ◌<◌, ◌≤◌}
use lib.ListN.{length, get_or}
use Rattle.sets.specs.Bit.{is_set}
use Rattle.matching.proofs.within.Given as goal

abbrev pub invariant-loop-set : goal.invariant-loop-set
invariant-loop-set l = record {
  long : length l.set-items ≡ 64;
  left : (b : ℕ) → l.set-index ≤ b → get_or l.set-items b 0 ≡ get_or l.demand b 0;
  cut : (b : ℕ) → b < l.set-index → (i : ℕ) → i < 32 → is_set (get_or l.set-items b 0) i ≡ is_set (get_or l.demand b 0) i && is_set l.items i;
}
