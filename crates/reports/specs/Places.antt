-- The places that hold the reports of a round: document 01, "The live letting". Place k is that of bidder k + 1. Assumes nothing: these are definitions.
use Rattle.std.specs.Prelude.{ℕ, suc, Bool, ◌&&◌, not, cond, List, leb, length, get_or}
use Rattle.sets.specs.Count.{all_below, any_below}
use Rattle.sets.specs.Bit.{has}
use Rattle.rule.specs.Demand.{Demand}
use Rattle.reports.specs.Report.{saying, is_empty, unfit}

-- what the place of bidder b may hold: who has reported is one of the bidders, and has a report that 8 does not refuse; of anyone else it holds the empty report
unfoldable pub place_fits : (items bidders b : ℕ) (reported : Bool) → Demand → Bool
place_fits items bidders b reported d = cond reported (leb b bidders && not (unfit items d)) (is_empty d)

-- every place holds what it may: an item set for each, the set of the bidders who say null, and that of those who have reported
unfoldable pub all_fit : (items bidders : ℕ) (sets : List ℕ) (nulls reported : ℕ) → Bool
all_fit items bidders sets nulls reported =
    all_below (length sets) λ k. place_fits items bidders (suc k) (has reported (suc k)) (saying (has nulls (suc k)) (get_or sets k 0))

-- 14: a report is missing
unfoldable pub any_missing : (bidders reported : ℕ) → Bool
any_missing bidders reported = any_below bidders λ k. not (has reported (suc k))
