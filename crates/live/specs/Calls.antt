-- The calls of the live auction on a record: document 01, "The live letting" and "Order". Assumes nothing: these are definitions.
use Rattle.std.specs.Prelude.{ℕ, zero, suc, ◌+◌, ◌-◌, Bool, true, false, ◌&&◌, ◌||◌, not, List, [], ◌∷◌, eqb, set, replicate, ℤ}
use Rattle.sets.specs.Count.{any_below}
use Rattle.sets.specs.Bit.{has, set_of}
use Rattle.sets.specs.Lists.{places}
use Rattle.rule.specs.Sheet.{amount}
use Rattle.rule.specs.Demand.{Demand}
use Rattle.rule.specs.Round.{rising, falling, Round, raised, lowered, closed, round, raise, lower}
use Rattle.rule.specs.Round.{Phase as RulePhase}
use Rattle.rule.specs.Refusal.{on, first, bad_items, bad_live_bidders, bad_length, any_over, bad_floors, bad_bidder}
use Rattle.reports.specs.Report.{unfit}
use Rattle.live.specs.Auction.{reports_of, has_reported, missing, items_above, rising_set, well_formed}
use Rattle.live.specs.Tables.{bad_tables, tables_fit, open_tables, unexplained_at, any_unexplained, narrowed_tables}
use Rattle.live.specs.declared.Auction.{Auction}
use Rattle.live.specs.declared.Phase.{Phase}
use Rattle.live.specs.declared.Phase.TheVariants.{Rising, Falling, Closed}
use Rattle.live.specs.declared.Kind.{Kind}
use Rattle.live.specs.declared.Kind.TheVariants.{Raised, Lowered}
use Rattle.live.specs.declared.Ended.{Ended}
use Rattle.live.specs.declared.Ended.TheVariants.{Moved, Refused}
use Rattle.live.specs.declared.Ended.TheVariants.{Closed as Closes}
use Rattle.live.specs.declared.Reply.{Reply}

abbrev pub is_closed : Phase → Bool
is_closed Rising = false
is_closed Falling = false
is_closed Closed = true

abbrev pub is_falling : Phase → Bool
is_falling Rising = false
is_falling Falling = true
is_falling Closed = false

abbrev pub is_rising : Phase → Bool
is_rising Rising = true
is_rising Falling = false
is_rising Closed = false

-- ---- open: 1, 2, 3, 4; with floors 1, 2, 3, 4, 18. The lent tables `ts` are held against their length alone

unfoldable pub open_number : (items bidders : ℕ) (start : List ℕ) (ts : List ℤ) → ℕ
open_number m n start ts =
    first (on 1 (bad_items m) ∷ on 2 (bad_live_bidders n) ∷ on 3 (bad_length start m) ∷ on 3 (bad_tables n ts) ∷ on 4 (any_over start) ∷ [])

unfoldable pub open_above_number : (items bidders : ℕ) (start floors : List ℕ) (ts : List ℤ) → ℕ
open_above_number m n start floors ts =
    first
    (on 1 (bad_items m)
    ∷ on 2 (bad_live_bidders n)
    ∷ on 3 (bad_length start m)
    ∷ on 3 (bad_length floors m)
    ∷ on 3 (bad_tables n ts)
    ∷ on 4 (any_over start)
    ∷ on 18 (bad_floors start floors)
    ∷ [])

-- zeros only, the phase rising: the record beside an opening that is turned down
unfoldable pub zeros : Auction
zeros =
    record {
      items = 0;
      bidders = 0;
      prices = replicate 32 0;
      floors = replicate 32 0;
      sets = replicate 64 0;
      nulls = 0;
      reported = 0;
      phase = Rising;
      raised = 0;
      lowered = 0;
    }

-- the record that an opening makes: the starting prices and the floors, no reports, rising, no rounds
unfoldable pub opened : (items bidders : ℕ) (start floors : List ℕ) → Auction
opened m n start floors =
    record {
      items = m;
      bidders = n;
      prices = places 32 start;
      floors = places 32 floors;
      sets = replicate 64 0;
      nulls = 0;
      reported = 0;
      phase = Rising;
      raised = 0;
      lowered = 0;
    }

-- turned down with this number
unfoldable pub unopened : ℕ → Reply
unopened x = record { number = x; next = zeros }

-- the answer to an opening, by its number
unfoldable pub opened_by : (number items bidders : ℕ) (start floors : List ℕ) → Reply
opened_by zero m n start floors = record { number = 0; next = opened m n start floors }
opened_by (suc j) m n start floors = unopened (suc j)

-- without floors they are 0
unfoldable pub open_auction : (items bidders : ℕ) (start : List ℕ) (ts : List ℤ) → Reply
open_auction m n start ts = opened_by (open_number m n start ts) m n start (replicate m 0)

unfoldable pub open_above : (items bidders : ℕ) (start floors : List ℕ) (ts : List ℤ) → Reply
open_above m n start floors ts = opened_by (open_above_number m n start floors ts) m n start floors

-- the lent tables afterwards, by the opening's number: filled for all bids of 0 to 4,095, or as they came
unfoldable pub filled_by : (number items bidders : ℕ) (ts : List ℤ) → List ℤ
filled_by zero m n ts = open_tables m n
filled_by (suc j) m n ts = ts

-- ---- report: 11, 3, 11, 12, 7, 13, 8, 19

unfoldable pub report_number : Auction → List ℤ → ℕ → Demand → ℕ
report_number r ts bidder d =
    first
    (on 11 (not (well_formed r))
    ∷ on 3 (bad_tables r.bidders ts)
    ∷ on 11 (not (tables_fit r ts))
    ∷ on 12 (is_closed r.phase)
    ∷ on 7 (bad_bidder r.bidders bidder)
    ∷ on 13 (has_reported r bidder)
    ∷ on 8 (unfit r.items d)
    ∷ on 19 (unexplained_at r ts (bidder - 1) d)
    ∷ [])

-- the report takes its bidder's place, and the bidder has reported
unfoldable pub with_report : Auction → ℕ → Demand → Auction
with_report r bidder d =
    record {
      items = r.items;
      bidders = r.bidders;
      prices = r.prices;
      floors = r.floors;
      sets = set r.sets (bidder - 1) d.items;
      nulls = set_of 64 (λ i. has r.nulls i || (d.null && eqb i bidder));
      reported = set_of 64 (λ i. has r.reported i || eqb i bidder);
      phase = r.phase;
      raised = r.raised;
      lowered = r.lowered;
    }

-- a report changes no table
unfoldable pub report : Auction → List ℤ → ℕ → Demand → Reply
report r ts bidder d = let x : ℕ = report_number r ts bidder d in record { number = x; next = elim x [ zero ↦ with_report r bidder d | suc j ↦ r ] }

-- ---- clear: 11, 12

unfoldable pub clear_number : Auction → ℕ
clear_number r = first (on 11 (not (well_formed r)) ∷ on 12 (is_closed r.phase) ∷ [])

-- no reports
unfoldable pub cleared : Auction → Auction
cleared r =
    record {
      items = r.items;
      bidders = r.bidders;
      prices = r.prices;
      floors = r.floors;
      sets = replicate 64 0;
      nulls = 0;
      reported = 0;
      phase = r.phase;
      raised = r.raised;
      lowered = r.lowered;
    }

unfoldable pub clear : Auction → Reply
clear r = let x : ℕ = clear_number r in record { number = x; next = elim x [ zero ↦ cleared r | suc j ↦ r ] }

-- ---- end the round: 11, 3, 11, 12, 14, 19, then 16 or 17

-- of the items of a set one stands at 4,095
unfoldable pub at_top : ℕ → List ℕ → ℕ → Bool
at_top m prices s = any_below m λ k. has s (suc k) && eqb (amount prices (suc k)) 4095

unfoldable pub end_number : Auction → List ℤ → ℕ
end_number r ts =
    first
    (on 11 (not (well_formed r))
    ∷ on 3 (bad_tables r.bidders ts)
    ∷ on 11 (not (tables_fit r ts))
    ∷ on 12 (is_closed r.phase)
    ∷ on 14 (missing r)
    ∷ on 19 (any_unexplained r ts)
    ∷ on 16 (is_falling r.phase && not (eqb (rising_set r) 0))
    ∷ on 17 (is_rising r.phase && at_top r.items r.prices (rising_set r))
    ∷ [])

-- the phase as the rule has it; a closed auction is asked for no round
abbrev pub ruled : Phase → RulePhase
ruled Rising = rising
ruled Falling = falling
ruled Closed = falling

-- the round that the reports give
unfoldable pub round_by : Auction → Round
round_by r = round r.items (items_above r) (reports_of r) (ruled r.phase)

-- the record after a round: a move changes the prices by 1, is counted and empties the reports; a close keeps them
unfoldable pub settled : Auction → Round → Auction
settled r (raised s) =
    record {
      items = r.items;
      bidders = r.bidders;
      prices = raise 32 r.prices s;
      floors = r.floors;
      sets = replicate 64 0;
      nulls = 0;
      reported = 0;
      phase = Rising;
      raised = r.raised + 1;
      lowered = r.lowered;
    }
settled r (lowered s) =
    record {
      items = r.items;
      bidders = r.bidders;
      prices = lower 32 r.prices s;
      floors = r.floors;
      sets = replicate 64 0;
      nulls = 0;
      reported = 0;
      phase = Falling;
      raised = r.raised;
      lowered = r.lowered + 1;
    }
settled r closed =
    record {
      items = r.items;
      bidders = r.bidders;
      prices = r.prices;
      floors = r.floors;
      sets = r.sets;
      nulls = r.nulls;
      reported = r.reported;
      phase = Closed;
      raised = r.raised;
      lowered = r.lowered;
    }

-- what ending a round gives: moved, with the kind of move and its items, or closed, which are the rounds of the rule; or turned down, with its number
pub data Ending : Type 0 where
  gives : Round → Ending
  refused : (number : ℕ) → Ending

-- document 01's number and values for each case of the enum
unfoldable pub move_of : Kind → ℕ → Round
move_of Raised s = raised s
move_of Lowered s = lowered s

unfoldable pub ending_of : Ended → Ending
ending_of (Moved k s) = gives (move_of k s)
ending_of Closes = gives closed
ending_of (Refused n) = refused n

-- the answer, the record handed back, and the lent tables afterwards
unfoldable pub end_answer : Auction → List ℤ → Ending
end_answer r ts = elim (end_number r ts) [ zero ↦ gives (round_by r) | suc j ↦ refused (suc j) ]

unfoldable pub end_next : Auction → List ℤ → Auction
end_next r ts = elim (end_number r ts) [ zero ↦ settled r (round_by r) | suc j ↦ r ]

-- a move narrows each bidder's table, a close none
unfoldable pub narrowed_by : Auction → List ℤ → Round → List ℤ
narrowed_by r ts (raised s) = narrowed_tables r ts
narrowed_by r ts (lowered s) = narrowed_tables r ts
narrowed_by r ts closed = ts

unfoldable pub end_tables : Auction → List ℤ → List ℤ
end_tables r ts = elim (end_number r ts) [ zero ↦ narrowed_by r ts (round_by r) | suc j ↦ ts ]
