-- The record and when it is well formed (number 11): document 01, "The live letting" and "Turned down by the state"; floors are document
-- 02's, #103. Assumes nothing: these are definitions.
use Rattle.std.specs.Prelude.{ℕ, suc, ◌+◌, ◌*◌, Bool, true, ◌&&◌, not, List, leb, eqb, get_or}
use Rattle.sets.specs.Count.{◌⇒◌, all_below, any_below}
use Rattle.sets.specs.Bit.{has}
use Rattle.rule.specs.Sheet.{amount, price_sum}
use Rattle.rule.specs.Demand.{Demand}
use Rattle.rule.specs.Excess.{excess_demand, excess_supply, above_floors}
use Rattle.rule.specs.Refusal.{bad_items, bad_live_bidders, any_over, any_under}
use Rattle.round.specs.Reports.{reports}
use Rattle.reports.specs.Report.{is_empty, beyond, unfit}
use Rattle.live.specs.declared.Auction.{Auction}
use Rattle.live.specs.declared.Phase.{Phase}
use Rattle.live.specs.declared.Phase.TheVariants.{Rising, Falling, Closed}

-- ---- reports

-- what the place k of the record holds, which is that of bidder k + 1: says null yes or no, beside an item set
unfoldable pub place : Auction → ℕ → Demand
place r k = record { null = has r.nulls (suc k); items = get_or r.sets k 0 }

-- bidder b has reported, b from 1
unfoldable pub has_reported : Auction → ℕ → Bool
has_reported r b = has r.reported b

-- a report is missing
unfoldable pub missing : Auction → Bool
missing r = any_below r.bidders λ k. not (has_reported r (suc k))

-- ---- the two sets that the reports give

-- the reports of all bidders
unfoldable pub reports_of : Auction → List Demand
reports_of r = reports r.bidders r.sets r.nulls

-- the items of price above the floor
unfoldable pub items_above : Auction → ℕ
items_above r = above_floors r.items r.floors r.prices

unfoldable pub rising_set : Auction → ℕ
rising_set r = excess_demand r.items (reports_of r)

unfoldable pub falling_set : Auction → ℕ
falling_set r = excess_supply r.items (items_above r) (reports_of r)

-- ---- well formed: number 11 clause by clause, each as what a well formed record keeps

-- not: a count is outside 1 or 2
unfoldable pub counts_fit : Auction → Bool
counts_fit r = not (bad_items r.items) && not (bad_live_bidders r.bidders)

-- not: a price exceeds 4,095
unfoldable pub prices_fit : Auction → Bool
prices_fit r = not (any_over r.prices)

-- not: a floor exceeds 4,095, or a price is below its floor
unfoldable pub floors_fit : Auction → Bool
floors_fit r = not (any_over r.floors)

unfoldable pub from_floors : Auction → Bool
from_floors r = not (any_under r.prices r.floors)

-- not: an unused place or bit is not zero. Places of prices and floors past the items; places of reports and bits of bidders past the bidders; bits of item sets past the items
unfoldable pub unused_prices : Auction → Bool
unused_prices r = all_below 32 λ k. leb r.items k ⇒ eqb (amount r.prices (suc k)) 0

unfoldable pub unused_floors : Auction → Bool
unused_floors r = all_below 32 λ k. leb r.items k ⇒ eqb (amount r.floors (suc k)) 0

unfoldable pub unused_places : Auction → Bool
unused_places r = all_below 64 λ k. leb r.bidders k ⇒ is_empty (place r k) && not (has_reported r (suc k))

unfoldable pub unused_bits : Auction → Bool
unused_bits r = all_below 64 λ k. not (beyond r.items (place r k))

-- not: the report of a bidder who has reported is one that 8 refuses
unfoldable pub reported_fit : Auction → Bool
reported_fit r = all_below r.bidders λ k. has_reported r (suc k) ⇒ not (unfit r.items (place r k))

-- not: that of one who has not is not empty
unfoldable pub others_empty : Auction → Bool
others_empty r = all_below r.bidders λ k. not (has_reported r (suc k)) ⇒ is_empty (place r k)

-- not: while rising, any round was lowered or the rounds raised exceed the sum of prices less floors; while falling or closed, rounds raised, or the sum of prices plus
-- rounds lowered, exceed 4,095 × items. Sums and products are of whole numbers without bound
unfoldable pub rounds_fit : Phase → Auction → Bool
rounds_fit Rising r = eqb r.lowered 0 && leb (r.raised + price_sum r.items r.floors) (price_sum r.items r.prices)
rounds_fit Falling r = leb r.raised (4095 * r.items) && leb (price_sum r.items r.prices + r.lowered) (4095 * r.items)
rounds_fit Closed r = leb r.raised (4095 * r.items) && leb (price_sum r.items r.prices + r.lowered) (4095 * r.items)

-- not: if closed, a report is missing or a set is not empty
unfoldable pub close_fits : Phase → Auction → Bool
close_fits Rising r = true
close_fits Falling r = true
close_fits Closed r = not (missing r) && eqb (rising_set r) 0 && eqb (falling_set r) 0

unfoldable pub well_formed : Auction → Bool
well_formed r =
    counts_fit r && prices_fit r && unused_prices r && floors_fit r && from_floors r && unused_floors r && unused_places r && unused_bits r
    && reported_fit r && others_empty r && rounds_fit r.phase r && close_fits r.phase r
