-- Demand 1: every public call ends, whatever it is given; a refused call gives document 01's number alone and changes nothing. Document 01, "Turned down by the
-- input", "Turned down by the state", "Order". That every call ends, whatever it is given, and answers by these numbers, say the functions in `src`, which ask
-- nothing of their caller. Assumes nothing: these are statements, which `proofs/Demand1` proves.
use Rattle.std.specs.Prelude.{ℕ, suc, ◌+◌, ◌-◌, ◌*◌, Bool, true, false, ◌&&◌, ◌||◌, not, List, [], ◌∷◌, ◌≡◌, leb, ltb, eqb, ℤ, length, get_or, replicate, take, drop}
use Rattle.sets.specs.Bit.{outside, has}
use Rattle.sets.specs.Count.{◌⇒◌, all_below, any_below}
use Rattle.rule.specs.Sheet.{amount, price_sum}
use Rattle.rule.specs.Demand.{Demand}
use Rattle.rule.specs.Round.{Round}
use Rattle.rule.specs.Refusal.{Refusal, on, first, any_over, any_under}
use Rattle.reports.specs.Report.{is_empty, unfit}
use Rattle.differences.specs.Allowed.{unexplained}
use Rattle.differences.specs.Lent.{table_at}
use Rattle.lines.specs.Lines.{closing_length, sealed_length}
use Rattle.bids.specs.Refusal.{sealed_refusal, sealed_above_refusal}
use Rattle.bids.specs.Line.{line_refusal, line_shown, line_start}
use Rattle.auction.specs.Sealed.{sealed_of, sealed_above_of, falling_first_of}
use Rattle.auction.specs.declared.Closing.{Closing}
use Rattle.sheet.specs.BidSheet.{items_in, bidders_in, read_sheet}
use Rattle.sheet.specs.Close.{is_none, items_of, bidders_of, bid_sheet_of, sheet_refusal, closed_to}
use Rattle.sheet.specs.Contents.{bid_sheet_refusal, contents_of}
use Rattle.dewgneiss.specs.Lent.{lent_refusal, lent_above_refusal}
use Rattle.live.specs.Auction.{place, has_reported, missing, rising_set, falling_set, rounds_fit, close_fits, well_formed}
use Rattle.live.specs.Tables.{tables_fit}
use Rattle.live.specs.Calls.{is_closed, is_falling, is_rising, at_top, open_number, open_above_number, open_auction, open_above, filled_by, gives, refused, report_number, report, clear_number, clear, end_number}
use Rattle.live.specs.Reading.{read_number, read_bytes}
use Rattle.live.specs.declared.Auction.{Auction}
use Rattle.live.specs.declared.Phase.TheVariants.{Rising, Falling, Closed}
use Rattle.agreement.specs.Calls.{Call, told, ended, shown, Held, call}
use Rattle.agreement.specs.Agreement.{number_of}

-- what each number's condition says
pub record Conditions : Type 0 where
  -- 1, 2 and 7: a number "outside 1 to" the most; 4, 5 and 18: an amount "above 4,095"; 18: "a starting rent is below its floor"
  pub outside_is : (most x : ℕ) → outside most x ≡ ltb x 1 || ltb most x
  pub over_is : (xs : List ℕ) → any_over xs ≡ any_below (length xs) λ k. ltb 4095 (get_or xs k 0)
  pub under_is : (start floors : List ℕ) → any_under start floors ≡ any_below (length floors) λ k. ltb (get_or start k 0) (get_or floors k 0)
  -- 8: "a report that is empty or holds a pan beyond the count"; "it is empty if it says no and the set is empty"
  pub eight_is : (m : ℕ) (d : Demand) → unfit m d ≡ (not d.null && eqb d.items 0) || (any_below 32 λ k. leb m k && has d.items (suc k))
  pub empty_is : (d : Demand) → is_empty d ≡ not d.null && eqb d.items 0
  -- 12, 15: "closed"; 16: "while falling"; 17: while rising
  pub closed_is : (is_closed Rising ≡ false) × (is_closed Falling ≡ false) × (is_closed Closed ≡ true)
  pub falling_is : (is_falling Rising ≡ false) × (is_falling Falling ≡ true) × (is_falling Closed ≡ false)
  pub rising_is : (is_rising Rising ≡ true) × (is_rising Falling ≡ false) × (is_rising Closed ≡ false)
  -- 13, 14: "this raker has reported", "a report is missing"; 17: "a pan of the rising set stands at 4,095"
  pub thirteen_is : (r : Auction) (b : ℕ) → has_reported r b ≡ has r.reported b
  pub fourteen_is : (r : Auction) → missing r ≡ any_below r.bidders λ k. not (has_reported r (suc k))
  pub seventeen_is : (m : ℕ) (prices : List ℕ) (s : ℕ) → at_top m prices s ≡ any_below m λ k. has s (suc k) && eqb (amount prices (suc k)) 4095
  -- "Number 11 is given if a count is outside 1 or 2" (forty rakers, #108); "a rent exceeds 4,095; an unused place … is not zero", a floor "above 4,095 or a rent below
  -- its floor" (#103); "an unused place or bit"; "the report of a raker who has reported is one that 8 refuses; that of one who hasn't is not empty"; by the phase
  pub eleven_is : (r : Auction) → well_formed r
      ≡ not (outside 32 r.items) && not (outside 40 r.bidders)
      && not (any_over r.prices) && (all_below 32 λ k. leb r.items k ⇒ eqb (amount r.prices (suc k)) 0)
      && not (any_over r.floors) && not (any_under r.prices r.floors) && (all_below 32 λ k. leb r.items k ⇒ eqb (amount r.floors (suc k)) 0)
      && (all_below 64 λ k. leb r.bidders k ⇒ is_empty (place r k) && not (has_reported r (suc k)))
      && (all_below 64 λ k. not (any_below 32 λ i. leb r.items i && has (place r k).items (suc i)))
      && (all_below r.bidders λ k. has_reported r (suc k) ⇒ not (unfit r.items (place r k)))
      && (all_below r.bidders λ k. not (has_reported r (suc k)) ⇒ is_empty (place r k))
      && rounds_fit r.phase r && close_fits r.phase r
  -- "while rising, any round was lowered or the rounds raised exceed the sum of rents" less floors (#103)
  pub eleven_rising : (r : Auction) → rounds_fit Rising r ≡ eqb r.lowered 0 && leb (r.raised + price_sum r.items r.floors) (price_sum r.items r.prices)
  -- "while falling or closed, rounds raised, or the sum of rents plus rounds lowered, exceed 4,095 × pans"
  pub eleven_falling : (r : Auction) → rounds_fit Falling r ≡ leb r.raised (4095 * r.items) && leb (price_sum r.items r.prices + r.lowered) (4095 * r.items)
  pub eleven_closed : (r : Auction) → rounds_fit Closed r ≡ leb r.raised (4095 * r.items) && leb (price_sum r.items r.prices + r.lowered) (4095 * r.items)
  -- "or, if closed, a report is missing or a set is not empty"
  pub eleven_sets : (r : Auction) → close_fits Closed r ≡ not (missing r) && eqb (rising_set r) 0 && eqb (falling_set r) 0

-- 3: "a lent length that isn't exact for the counts"
abbrev pub inexact : List ℕ → ℕ → Bool
inexact xs n = not (eqb (length xs) n)

-- "Order": each list is the whole answer, so that each number "is given under its condition and in no other case"
pub record Order : Type 0 where
  -- the first number whose condition holds, and 0 if none does
  pub first_given : (x : ℕ) (rest : List Refusal) → first (on x true ∷ rest) ≡ x
  pub first_passed : (x : ℕ) (rest : List Refusal) → first (on x false ∷ rest) ≡ first rest
  pub first_none : first [] ≡ 0
  -- "Sealed: 1, 2, 3, 4, 5"; with floors 18 directly after 4 (#103)
  pub sealed : (m n : ℕ) (start bids : List ℕ) → sealed_refusal m n start bids
      ≡ first (on 1 (outside 32 m) ∷ on 2 (outside 64 n) ∷ on 3 (inexact start m) ∷ on 3 (inexact bids (n * m)) ∷ on 4 (any_over start) ∷ on 5 (any_over bids) ∷ [])
  pub above : (m n : ℕ) (start floors bids : List ℕ) → sealed_above_refusal m n start floors bids
      ≡ first (on 1 (outside 32 m) ∷ on 2 (outside 64 n) ∷ on 3 (inexact start m) ∷ on 3 (inexact floors m) ∷ on 3 (inexact bids (n * m)) ∷ on 4 (any_over start)
      ∷ on 18 (any_under start floors || any_over floors) ∷ on 5 (any_over bids) ∷ [])
  -- the same into lent lists: two rounds, a rent for each pan, a name and a gain (#106) for each raker
  pub lent : (m n : ℕ) (start bids rounds prices options gains : List ℕ) → lent_refusal m n start bids rounds prices options gains
      ≡ first (on 1 (outside 32 m) ∷ on 2 (outside 64 n) ∷ on 3 (inexact start m) ∷ on 3 (inexact bids (n * m))
      ∷ on 3 (inexact rounds 2 || inexact prices m || inexact options n || inexact gains n) ∷ on 4 (any_over start) ∷ on 5 (any_over bids) ∷ [])
  pub lent_above : (m n : ℕ) (start floors bids rounds prices options gains : List ℕ) → lent_above_refusal m n start floors bids rounds prices options gains
      ≡ first (on 1 (outside 32 m) ∷ on 2 (outside 64 n) ∷ on 3 (inexact start m) ∷ on 3 (inexact floors m) ∷ on 3 (inexact bids (n * m))
      ∷ on 3 (inexact rounds 2 || inexact prices m || inexact options n || inexact gains n) ∷ on 4 (any_over start) ∷ on 18 (any_under start floors || any_over floors) ∷ on 5 (any_over bids) ∷ [])
  -- "Sheet: 6 for the first four bytes, 1, 2, 6 for the rest, 3, 4, 5"; 3 goes by the longer sheet (#106). The sheet of reasons (#101) asks for no room
  pub sheet : (bytes : List ℕ) (room : ℕ) → sheet_refusal bytes room
      ≡ first (on 6 (is_none (items_in bytes) || is_none (bidders_in bytes)) ∷ on 1 (outside 32 (items_of bytes)) ∷ on 2 (outside 64 (bidders_of bytes)) ∷ on 6 (is_none (read_sheet bytes))
      ∷ on 3 (ltb room (sealed_length (items_of bytes) (bidders_of bytes))) ∷ on 4 (any_over (bid_sheet_of bytes).start) ∷ on 5 (any_over (bid_sheet_of bytes).bids) ∷ [])
  pub reasons : (bytes : List ℕ) → bid_sheet_refusal bytes
      ≡ first (on 6 (is_none (items_in bytes) || is_none (bidders_in bytes)) ∷ on 1 (outside 32 (items_of bytes)) ∷ on 2 (outside 64 (bidders_of bytes)) ∷ on 6 (is_none (read_sheet bytes))
      ∷ on 4 (any_over (bid_sheet_of bytes).start) ∷ on 5 (any_over (bid_sheet_of bytes).bids) ∷ [])
  -- "A raker's line: 1, 2, 3, 7"
  pub line : (m n b : ℕ) (bids : List ℕ) → line_refusal m n b bids ≡ first (on 1 (outside 32 m) ∷ on 2 (outside 64 n) ∷ on 3 (inexact bids (n * m)) ∷ on 7 (outside n b) ∷ [])
  -- "Open: 1, 2, 3, 4"; tables of the wrong length among the 3s (#107), at most forty rakers (#108)
  pub opening : (m n : ℕ) (start : List ℕ) (ts : List ℤ) → open_number m n start ts
      ≡ first (on 1 (outside 32 m) ∷ on 2 (outside 40 n) ∷ on 3 (inexact start m) ∷ on 3 (not (eqb (length ts) (n * 1089))) ∷ on 4 (any_over start) ∷ [])
  pub opening_above : (m n : ℕ) (start floors : List ℕ) (ts : List ℤ) → open_above_number m n start floors ts
      ≡ first (on 1 (outside 32 m) ∷ on 2 (outside 40 n) ∷ on 3 (inexact start m) ∷ on 3 (inexact floors m) ∷ on 3 (not (eqb (length ts) (n * 1089))) ∷ on 4 (any_over start)
      ∷ on 18 (any_under start floors || any_over floors) ∷ [])
  -- "Report: 11, 12, 7, 13, 8"; 3 for the tables' length behind the record's 11 and before the tables', and 19 after 8 (#107)
  pub reports : (r : Auction) (ts : List ℤ) (b : ℕ) (d : Demand) → report_number r ts b d
      ≡ first (on 11 (not (well_formed r)) ∷ on 3 (not (eqb (length ts) (r.bidders * 1089))) ∷ on 11 (not (tables_fit r ts)) ∷ on 12 (is_closed r.phase) ∷ on 7 (outside r.bidders b)
      ∷ on 13 (has_reported r b) ∷ on 8 (unfit r.items d) ∷ on 19 (unexplained r.items (table_at ts (b - 1)) r.prices d) ∷ [])
  -- "End: 11, 12, 14, then 16 or 17"; 3 likewise, and 19 for every raker after 14 (#107)
  pub ends : (r : Auction) (ts : List ℤ) → end_number r ts
      ≡ first (on 11 (not (well_formed r)) ∷ on 3 (not (eqb (length ts) (r.bidders * 1089))) ∷ on 11 (not (tables_fit r ts)) ∷ on 12 (is_closed r.phase) ∷ on 14 (missing r)
      ∷ on 19 (any_below r.bidders λ k. unexplained r.items (table_at ts k) r.prices (place r k))
      ∷ on 16 (is_falling r.phase && not (eqb (rising_set r) 0)) ∷ on 17 (is_rising r.phase && at_top r.items r.prices (rising_set r)) ∷ [])
  -- "Clear: 11, 12. Read: 11, 15, 3"
  pub clears : (r : Auction) → clear_number r ≡ first (on 11 (not (well_formed r)) ∷ on 12 (is_closed r.phase) ∷ [])
  pub reads : (r : Auction) (out : List ℕ) → read_number r out
      ≡ first (on 11 (not (well_formed r)) ∷ on 15 (not (is_closed r.phase)) ∷ on 3 (ltb (length out) (closing_length r.items r.bidders)) ∷ [])
  -- these are the numbers that an opening, a report and a clear are told; what an end is told stands in `Demand2.Live`
  pub opening_told : (m n : ℕ) (start : List ℕ) (ts : List ℤ) → (open_auction m n start ts).number ≡ open_number m n start ts
  pub above_told : (m n : ℕ) (start floors : List ℕ) (ts : List ℤ) → (open_above m n start floors ts).number ≡ open_above_number m n start floors ts
  pub report_told : (r : Auction) (ts : List ℤ) (b : ℕ) (d : Demand) → (report r ts b d).number ≡ report_number r ts b d
  pub clear_told : (r : Auction) → (clear r).number ≡ clear_number r

-- the outcome by value, and the record, that hold zeros only
abbrev pub zeros_beside : (number : ℕ) → Closing
zeros_beside x = record { refusal = x; raised = 0; lowered = 0; prices = replicate 32 0; assignment = replicate 64 0; gains = replicate 64 0 }

abbrev pub zeros : Auction
zeros =
    record { items = 0; bidders = 0; prices = replicate 32 0; floors = replicate 32 0; sets = replicate 64 0; nulls = 0; reported = 0; phase = Rising; raised = 0; lowered = 0 }

pub record Refused : Type 0 where
  -- the number of an answer, 0 being none
  pub number_told : (x : ℕ) → number_of (told x) ≡ x
  pub number_given : (x : Round) → number_of (ended (gives x)) ≡ 0
  pub number_refused : (x : ℕ) → number_of (ended (refused x)) ≡ x
  pub number_shown : (x : ℕ) (out : List ℕ) → number_of (shown x out) ≡ x
  -- "it comes alone, and record and lent memory are as before the call": of report, end, clear and read, of an opening, of closing a bid sheet
  pub as_before : (h : Held) (c : Call) → (number_of (call h c).answer ≡ 0 → ⊥) → (call h c).next ≡ h
  pub read_before : (r : Auction) (out : List ℕ) → (read_number r out ≡ 0 → ⊥) → read_bytes r out ≡ out
  pub lent_before : (x m n : ℕ) (lent : List ℤ) → (x ≡ 0 → ⊥) → filled_by x m n lent ≡ lent
  pub sheet_before : (bytes out : List ℕ) → (sheet_refusal bytes (length out) ≡ 0 → ⊥) → closed_to bytes out ≡ out
  -- "An outcome handed back by value beside a number holds zeros only": of sealed letting, of what a bid sheet says
  pub zeros_sealed : (m n : ℕ) (start bids : List ℕ) (why : ℕ) → sealed_refusal m n start bids ≡ suc why → sealed_of m n start bids ≡ zeros_beside (suc why)
  pub zeros_above : (m n : ℕ) (start floors bids : List ℕ) (why : ℕ) → sealed_above_refusal m n start floors bids ≡ suc why
      → sealed_above_of m n start floors bids ≡ zeros_beside (suc why)
  pub zeros_falling : (m n : ℕ) (start floors bids : List ℕ) (why : ℕ) → sealed_above_refusal m n start floors bids ≡ suc why
      → falling_first_of m n start floors bids ≡ zeros_beside (suc why)
  pub zeros_contents : (bytes : List ℕ) (why : ℕ) → bid_sheet_refusal bytes ≡ suc why
      → contents_of bytes ≡ record { refusal = suc why; items = 0; bidders = 0; start = replicate 32 0; bids = replicate 2048 0 }
  -- "so does the record beside an opening that is turned down, its phase rising, and 11 turns that record down", whatever is called on it
  pub zeros_open : (m n : ℕ) (start : List ℕ) (lent : List ℤ) (why : ℕ) → open_number m n start lent ≡ suc why
      → open_auction m n start lent ≡ record { number = suc why; next = zeros }
  pub zeros_open_above : (m n : ℕ) (start floors : List ℕ) (lent : List ℤ) (why : ℕ) → open_above_number m n start floors lent ≡ suc why
      → open_above m n start floors lent ≡ record { number = suc why; next = zeros }
  pub zeros_eleven : (ts : List ℤ) (c : Call) → number_of (call (record { auction = zeros; tables = ts }) c).answer ≡ 11
  -- "A raker's line": "it is shown as that part itself, as long as there are pans. Where this call is turned down, a part of length 0 comes back". That it is the part
  -- itself, `line_of` in `src` says
  pub line-shown : (m n b : ℕ) (bids : List ℕ) → line_refusal m n b bids ≡ 0 → line_shown m n b bids ≡ take m (drop ((b - 1) * m) bids)
  pub line-start : (m n b : ℕ) (bids : List ℕ) → line_refusal m n b bids ≡ 0 → line_start m n b bids ≡ (b - 1) * m
  pub line_there : (m n b : ℕ) (bids : List ℕ) → line_refusal m n b bids ≡ 0 → line_shown m n b bids ≡ take m (drop (line_start m n b bids) bids)
  pub line_refused : (m n b : ℕ) (bids : List ℕ) (why : ℕ) → line_refusal m n b bids ≡ suc why → line_shown m n b bids ≡ []

pub record Demand1 : Type 0 where
  pub conditions : Conditions
  pub order : Order
  pub refused : Refused
