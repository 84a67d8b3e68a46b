-- `sheet::bids_at` meets its contract: the bids of the lines read stand ahead of the lines left to read. Assumes nothing.
use Prim.Native.Nat.{◌*◌, ◌-◌, ◌≤◌}
use mathlib.Core.Path.{◌≡◌}
use lib.ListN.{length, take}
use Rattle.sheet.specs.BidSheet.{bids_at}
use Rattle.sheet.proofs.Ahead.{ahead}
use Rattle.sheet.proofs.bids_at.Given as goal

abbrev pub invariant-loop-b : goal.invariant-loop-b
invariant-loop-b l = (bids_at l.bidders l.items l.s l.at ≡ ahead (take (l.b * l.items) l.into) (bids_at (l.bidders - l.b) l.items l.s l.here))
    × (l.here ≤ length l.s)
