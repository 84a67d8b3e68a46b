-- What `refusal_above` and `line_refusal` are proved by: the definitions that their numbers stand in, and that 18 is one test. Assumes nothing.
use mathlib.Core.Path.{◌≡◌}
use mathlib.Core.Bool.{false}
use mathlib.Core.List.{List}
use Prim.Native.Nat.{ℕ}
use Rattle.rule.specs.Refusal.{first, bad_items, bad_bidders, bad_length, any_over, any_under, bad_floors, bad_bidder}
use Rattle.rule.proofs.Refusal.{none-over-all, floors-test}
use Rattle.bids.specs.Refusal.{sealed_above_refusal}
use Rattle.bids.specs.Line.{line_refusal}

unfoldable pub telling : Unit {0}
unfolding first bad_items bad_bidders bad_length bad_bidder sealed_above_refusal line_refusal
telling = tt

-- under starting prices of at most 4,095 the floors are told by one test
pub floors_told : (start floors : List ℕ) → any_over start ≡ false → bad_floors start floors ≡ any_under start floors
floors_told start floors e = floors-test start floors (none-over-all start e)
