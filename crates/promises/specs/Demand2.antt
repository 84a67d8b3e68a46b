-- Demand 2: each round moves exactly the sets of the definitions, the letting closes if and only if both are empty, and the names are the first in order. Document 01,
-- "The rule of a round"; definitions 2 to 6 and algorithm 1 of the paper. Every field is a sentence by itself. Assumes nothing: these are statements, which
-- `proofs/Demand2` proves.
use Rattle.std.specs.Prelude.{ℕ, suc, ◌+◌, ◌-◌, ◌/◌, ◌%◌, ◌^◌, ◌≤◌, ◌<◌, Bool, true, false, ◌&&◌, ◌||◌, not, List, [], ◌∷◌, map, ◌⊎◌, ◌≡◌, leb, ltb, eqb, ℤ, length, get_or, replicate, set}
use Rattle.sets.specs.Count.{◌⇒◌, to_nat, all_below, count}
use Rattle.sets.specs.Bit.{has, set_of, each, any, size}
use Rattle.sets.specs.Sum.{sum}
use Rattle.sets.specs.Lists.{tabulate, places}
use Rattle.rule.specs.Sheet.{Sheet, amount, row, within_limits}
use Rattle.rule.specs.Demand.{best, Demand, demand, demands, wants, nth}
use Rattle.rule.specs.Excess.{bidders, non_empty_part, something_in, nothing_outside, nothing_above_outside, overdemanded, weakly_underdemanded, in_excess, excess_demand, in_positive_excess, positive_excess_demand, excess_supply, above_floors}
use Rattle.rule.specs.Round.{raise, lower, raised, lowered, closed, path, close}
use Rattle.rule.specs.Assignment.{option, holders, is_assignment, fits, assignment, total, floor_total}
use Rattle.rule.specs.Closing.{demands_at, excess_demand_at, excess_supply_at, FitsAt, assignment_at, round_of}
use Rattle.lines.specs.Lines.{closing_sheet, written_to}
use Rattle.live.specs.Auction.{place, reports_of, items_above, rising_set, falling_set}
use Rattle.live.specs.Calls.{open_above_number, open_above, report_number, report, clear_number, clear, end_number, gives, refused, ending_of, end_answer, end_next}
use Rattle.live.specs.Reading.{names_of, read_number, read_bytes}
use Rattle.live.specs.declared.Auction.{Auction}
use Rattle.live.specs.declared.Ended.{Ended}
use Rattle.live.specs.declared.Ended.TheVariants.{Moved, Refused}
use Rattle.live.specs.declared.Ended.TheVariants.{Closed as Closes}
use Rattle.live.specs.declared.Kind.TheVariants.{Raised, Lowered}
use Rattle.live.specs.declared.Phase.{Phase}
use Rattle.live.specs.declared.Phase.TheVariants.{Rising, Falling, Closed}

-- of m pans, rents p and a raker's bids b. Option 0 is no pan, with bid 0 and rent 0
pub record Demands : Type 0 where
  pub null_is_free : (xs : List ℕ) → amount xs 0 ≡ 0
  pub amount_is : (xs : List ℕ) (k : ℕ) → amount xs (suc k) ≡ get_or xs k 0
  -- "the highest gain", gains being "bid minus rent": no option has a higher one. By sums, as a gain may be below 0
  pub best_is : (m : ℕ) (p b : List ℕ) (i : ℕ) → best m p b i ≡ each m λ j. leb (amount b j + amount p i) (amount b i + amount p j)
  -- "A raker's demand is every pan, with no pan included, of the highest gain"; but "a pan with bid 0 is never in a raker's demand" (#102)
  pub null_demanded : (m : ℕ) (p b : List ℕ) → wants (demand m p b) 0 ≡ best m p b 0
  pub item_demanded : (m : ℕ) (p b : List ℕ) (k : ℕ) → k < m → wants (demand m p b) (suc k) ≡ ltb 0 (amount b (suc k)) && best m p b (suc k)
  -- what is demanded by a demand or report, which "says for no pan yes or no, beside a pan set"
  pub null_said : (d : Demand) → wants d 0 ≡ d.null
  pub item_said : (d : Demand) (k : ℕ) → wants d (suc k) ≡ has d.items (suc k)

-- of m pans and any demands or reports ds; `above` are the pans of rent above their floor. A set of pans is a number, "bit i − 1 stands for pan i, and its size is the
-- number of ones"; no pan lies outside every set
pub record Sets : Type 0 where
  pub null_outside : (s : ℕ) → has s 0 ≡ false
  pub first_bit : (s : ℕ) → has s 1 ≡ eqb (s % 2) 1
  pub next_bit : (s k : ℕ) → has s (suc (suc k)) ≡ has (s / 2) (suc k)
  pub set-of : (n : ℕ) (f : ℕ → Bool) (k : ℕ) → k < n → has (set_of n f) (suc k) ≡ f (suc k)
  pub set_of_these : (n : ℕ) (f : ℕ → Bool) → set_of n f < 2 ^ n
  pub size_none : (s : ℕ) → size 0 s ≡ 0
  pub size_next : (m s : ℕ) → size (suc m) s ≡ size m s + to_nat (has s (suc m))
  -- rakers are counted; a part of S that is not empty; "demand something in T", "demand nothing outside S", and the same of pans of rent above their floor
  pub counted : (ds : List Demand) (f : Demand → Bool) → bidders ds f ≡ count (length ds) λ b. f (nth ds b)
  pub part_is : (m t s : ℕ) → non_empty_part m t s ≡ any m (has t) && each m (λ i. has t i ⇒ has s i)
  pub something_is : (m t : ℕ) (d : Demand) → something_in m t d ≡ any m λ i. wants d i && has t i
  pub nothing_is : (m s : ℕ) (d : Demand) → nothing_outside m s d ≡ each m λ i. wants d i ⇒ has s i
  pub nothing_above_is : (m above s : ℕ) (d : Demand) → nothing_above_outside m above s d ≡ each m λ i. wants d i && has above i ⇒ has s i
  -- "A set S of pans is in excess demand if, for each non-empty part T of S, more rakers than T has pans both demand something in T and demand nothing outside S"
  pub in-excess : (m : ℕ) (ds : List Demand) (s : ℕ) → in_excess m ds s
      ≡ all_below (2 ^ m) λ t. non_empty_part m t s ⇒ ltb (size m t) (bidders ds λ d. something_in m t d && nothing_outside m s d)
  -- "The largest such set is the rising set; it is unique": it is in excess demand, holds every set that is, and no other is as large
  pub rising_in_excess : (m : ℕ) (ds : List Demand) → in_excess m ds (excess_demand m ds) ≡ true
  pub rising_largest : (m : ℕ) (ds : List Demand) (s : ℕ) → in_excess m ds s ≡ true → (i : ℕ) → i < suc m → has s i ≡ true → has (excess_demand m ds) i ≡ true
  pub rising_unique : (m : ℕ) (ds : List Demand) (s : ℕ) → s < 2 ^ m → in_excess m ds s ≡ true → size m (excess_demand m ds) ≤ size m s → s ≡ excess_demand m ds
  -- "The same with pans of rent above 0 only: S holds such pans, and a raker counts whose demanded pans of rent above 0 all lie in S. The largest such set is S~"
  pub in_tilde : (m above : ℕ) (ds : List Demand) (s : ℕ) → in_positive_excess m above ds s
      ≡ each m (λ i. has s i ⇒ has above i)
      && all_below (2 ^ m) λ t. non_empty_part m t s ⇒ ltb (size m t) (bidders ds λ d. something_in m t d && nothing_above_outside m above s d)
  pub tilde_in_excess : (m above : ℕ) (ds : List Demand) → in_positive_excess m above ds (positive_excess_demand m above ds) ≡ true
  pub tilde_largest : (m above : ℕ) (ds : List Demand) (s : ℕ) → in_positive_excess m above ds s ≡ true → (i : ℕ) → i < suc m → has s i ≡ true
      → has (positive_excess_demand m above ds) i ≡ true
  pub tilde_unique : (m above : ℕ) (ds : List Demand) (s : ℕ) → s < 2 ^ m → in_positive_excess m above ds s ≡ true
      → size m (positive_excess_demand m above ds) ≤ size m s → s ≡ positive_excess_demand m above ds
  -- "The falling set is every pan of rent above 0 that isn't in S~"
  pub falling_is : (m above : ℕ) (ds : List Demand) (i : ℕ) → i < suc m → has (excess_supply m above ds) i ≡ has above i && not (has (positive_excess_demand m above ds) i)
  -- definitions 2 and 3 of the paper, the latter of sets that are not empty: the sets are empty if and only if no set is overdemanded, or weakly underdemanded
  pub over_is : (m : ℕ) (ds : List Demand) (s : ℕ) → overdemanded m ds s ≡ ltb (size m s) (bidders ds (nothing_outside m s))
  pub under_is : (m above : ℕ) (ds : List Demand) (s : ℕ) → weakly_underdemanded m above ds s ≡ non_empty_part m s above && leb (bidders ds (something_in m s)) (size m s)
  pub rising_empty : (m : ℕ) (bids : List (List ℕ)) (prices : List ℕ)
      → eqb (excess_demand m (demands m bids prices)) 0 ≡ all_below (2 ^ m) λ s. not (overdemanded m (demands m bids prices) s)
  pub falling_empty : (m above : ℕ) (ds : List Demand) → eqb (excess_supply m above ds) 0 ≡ all_below (2 ^ m) λ s. not (weakly_underdemanded m above ds s)

-- "the lowest pan for raker 1, then for raker 2, and so on, where no pan ranks behind every pan": when an option ranks before another, and when the options xs of all
-- rakers come no later than ys
abbrev pub Ranks : ℕ → ℕ → Type 0
Ranks x y = (0 < x) × ((y ≡ 0) ⊎ (x < y))

unfoldable pub NoLater : List ℕ → List ℕ → Type 0
NoLater [] [] = Unit {0}
NoLater [] (y ∷ ys) = ⊥
NoLater (x ∷ xs) [] = ⊥
NoLater (x ∷ xs) (y ∷ ys) = Ranks x y ⊎ ((x ≡ y) × NoLater xs ys)

-- "Names", of m pans, the pans `above` their floor, and any demands or reports ds
pub record Names : Type 0 where
  -- "A naming gives each raker a pan or no pan; only no pan may go to several". Raker b + 1's option, and how many rakers have option i
  pub option_is : (xs : List ℕ) (b : ℕ) → option xs b ≡ get_or xs b 0
  pub holders_are : (xs : List ℕ) (i : ℕ) → holders xs i ≡ count (length xs) λ b. eqb (option xs b) i
  pub assignment_is : (m n : ℕ) (xs : List ℕ) → is_assignment m n xs
      ≡ eqb (length xs) n && all_below n (λ b. leb (option xs b) m) && all_below m (λ k. leb (holders xs (suc k)) 1)
  -- "every raker gets something from their demand, no pan goes to two, and every pan of rent above 0 is let"
  pub fits_is : (m above : ℕ) (ds : List Demand) (xs : List ℕ) → fits m above ds xs
      ≡ is_assignment m (length ds) xs && all_below (length ds) (λ b. wants (nth ds b) (option xs b)) && all_below m (λ k. has above (suc k) ⇒ leb 1 (holders xs (suc k)))
  -- "Of all such namings take the one with the lowest pan for raker 1, then for raker 2, and so on": if there is one, this is one, and none comes before it
  pub first_fits : (m above : ℕ) (ds : List Demand) (xs : List ℕ) → fits m above ds xs ≡ true → fits m above ds (assignment m above ds) ≡ true
  pub none_before : (m above : ℕ) (ds : List Demand) (xs : List ℕ) → fits m above ds xs ≡ true → NoLater (assignment m above ds) xs
  -- "Its total is the sum of its bids"; that of its floors (#103) likewise
  pub total_is : (bids : List (List ℕ)) (xs : List ℕ) → total bids xs ≡ sum (length bids) λ b. amount (row bids b) (option xs b)
  pub floors_are : (floors xs : List ℕ) → floor_total floors xs ≡ sum (length xs) λ b. amount floors (option xs b)

-- of a sheet at rents p: every raker's demand, the two sets, what fits, and the names are those that the bids give
pub record AtPrices : Type 0 where
  pub demands_are : (s : Sheet) (p : List ℕ) → demands_at s p ≡ map (demand s.items p) s.bids
  pub rising_is : (s : Sheet) (p : List ℕ) → excess_demand_at s p ≡ excess_demand s.items (demands_at s p)
  pub falling_is : (s : Sheet) (p : List ℕ) → excess_supply_at s p ≡ excess_supply s.items (above_floors s.items s.floors p) (demands_at s p)
  pub fits_if : (s : Sheet) (p xs : List ℕ) → fits s.items (above_floors s.items s.floors p) (demands_at s p) xs ≡ true → FitsAt s p xs
  pub fits_only_if : (s : Sheet) (p xs : List ℕ) → FitsAt s p xs → fits s.items (above_floors s.items s.floors p) (demands_at s p) xs ≡ true
  pub names_are : (s : Sheet) (p : List ℕ) → assignment_at s p ≡ assignment s.items (above_floors s.items s.floors p) (demands_at s p)

-- of a sheet's path, which has u rounds raised and d lowered and closes at prices p
pub record Rounds (s : Sheet) (u d : ℕ) (p : List ℕ) : Type 0 where
  pub from_start : (path s 0).prices ≡ s.start
  -- "Rising first: while the rising set is not empty, its rents go up by 1"
  pub rises : (k : ℕ) → k < u → round_of s k ≡ raised (excess_demand_at s (path s k).prices)
  pub up_by_one : (k : ℕ) → k < u → (i : ℕ) → i < suc s.items
      → amount (path s (suc k)).prices i ≡ amount (path s k).prices i + to_nat (has (excess_demand_at s (path s k).prices) i)
  -- "The turn is when it is first empty"; from then on it stays so
  pub before_turn : (k : ℕ) → k < u → excess_demand_at s (path s k).prices ≡ 0 → ⊥
  pub from_turn : (k : ℕ) → excess_demand_at s (path s (u + k)).prices ≡ 0
  -- "From then on the falling set's rents go down by 1 until it is empty"
  pub falls : (k : ℕ) → k < d → round_of s (u + k) ≡ lowered (excess_supply_at s (path s (u + k)).prices)
  pub down_by_one : (k : ℕ) → k < d → (i : ℕ) → i < suc s.items
      → amount (path s (suc (u + k))).prices i ≡ amount (path s (u + k)).prices i - to_nat (has (excess_supply_at s (path s (u + k)).prices) i)
  -- "The letting closes when both sets are empty": if they are, and only then, and after these rounds and not before
  pub closes_if : (k : ℕ) → excess_demand_at s (path s k).prices ≡ 0 → excess_supply_at s (path s k).prices ≡ 0 → round_of s k ≡ closed
  pub closes_only_if : (k : ℕ) → round_of s k ≡ closed → (excess_demand_at s (path s k).prices ≡ 0) × (excess_supply_at s (path s k).prices ≡ 0)
  pub closes : round_of s (u + d) ≡ closed
  pub not_before : (k : ℕ) → k < u + d → round_of s k ≡ closed → ⊥
  pub stays : (k : ℕ) → path s (u + d + k) ≡ path s (u + d)
  pub at_close : path s (u + d) ≡ close s
  -- the closing prices leave neither set. "Of all such namings take the one with the lowest pan for raker 1, then for raker 2, and so on": it fits, comes before every
  -- other that does, and no other does
  pub no_excess : excess_demand_at s p ≡ 0
  pub no_supply : excess_supply_at s p ≡ 0
  pub names_fit : FitsAt s p (assignment_at s p)
  pub names_first : (xs : List ℕ) → FitsAt s p xs → NoLater (assignment_at s p) xs
  pub names_only : (xs : List ℕ) → FitsAt s p xs → ((ys : List ℕ) → FitsAt s p ys → NoLater xs ys) → xs ≡ assignment_at s p

-- a record without reports: the counts and floors of r, at these prices and in this phase, with so many rounds raised and lowered
abbrev pub emptied : (r : Auction) (prices : List ℕ) (phase : Phase) (raised lowered : ℕ) → Auction
emptied r p ph u d =
    record {
      items = r.items;
      bidders = r.bidders;
      prices = p;
      floors = r.floors;
      sets = replicate 64 0;
      nulls = 0;
      reported = 0;
      phase = ph;
      raised = u;
      lowered = d;
    }

-- "The live letting", of any record r with tables ts
pub record Live : Type 0 where
  -- the two sets are those that its reports give
  pub place_is : (r : Auction) (k : ℕ) → place r k ≡ record { null = has r.nulls (suc k); items = get_or r.sets k 0 }
  pub reports_are : (r : Auction) → reports_of r ≡ tabulate r.bidders (place r) 0
  pub above_is : (r : Auction) → items_above r ≡ above_floors r.items r.floors r.prices
  pub rising_is : (r : Auction) → rising_set r ≡ excess_demand r.items (reports_of r)
  pub falling_is : (r : Auction) → falling_set r ≡ excess_supply r.items (items_above r) (reports_of r)
  -- an opening holds the starting rents, the floors (#103), no reports and no rounds, "the phase (rising …)"
  pub opens : (m n : ℕ) (start floors : List ℕ) (ts : List ℤ) → open_above_number m n start floors ts ≡ 0 → (open_above m n start floors ts).next
      ≡ record {
        items = m;
        bidders = n;
        prices = places 32 start;
        floors = places 32 floors;
        sets = replicate 64 0;
        nulls = 0;
        reported = 0;
        phase = Rising;
        raised = 0;
        lowered = 0;
      }
  -- a report stands for its raker, "says for no pan yes or no, beside a pan set"; a clear leaves none
  pub after_report : (r : Auction) (ts : List ℤ) (b : ℕ) (d : Demand) → report_number r ts b d ≡ 0 → (report r ts b d).next
      ≡ record {
        items = r.items;
        bidders = r.bidders;
        prices = r.prices;
        floors = r.floors;
        sets = set r.sets (b - 1) d.items;
        nulls = set_of 64 (λ i. has r.nulls i || (d.null && eqb i b));
        reported = set_of 64 (λ i. has r.reported i || eqb i b);
        phase = r.phase;
        raised = r.raised;
        lowered = r.lowered;
      }
  pub after_clear : (r : Auction) → clear_number r ≡ 0 → (clear r).next ≡ emptied r r.prices r.phase r.raised r.lowered
  -- "Ending a round gives one of: moved, with the kind of move (raised or lowered) and its pans; closed; or turned down"
  pub raises : (r : Auction) (ts : List ℤ) → end_number r ts ≡ 0 → (rising_set r ≡ 0 → ⊥) → end_answer r ts ≡ gives (raised (rising_set r))
  pub lowers : (r : Auction) (ts : List ℤ) → end_number r ts ≡ 0 → rising_set r ≡ 0 → (falling_set r ≡ 0 → ⊥) → end_answer r ts ≡ gives (lowered (falling_set r))
  pub closes_if : (r : Auction) (ts : List ℤ) → end_number r ts ≡ 0 → rising_set r ≡ 0 → falling_set r ≡ 0 → end_answer r ts ≡ gives closed
  pub closes_only_if : (r : Auction) (ts : List ℤ) → end_answer r ts ≡ gives closed → (rising_set r ≡ 0) × (falling_set r ≡ 0)
  pub turned-down : (r : Auction) (ts : List ℤ) (why : ℕ) → end_number r ts ≡ suc why → end_answer r ts ≡ refused (suc why)
  -- the enum that is answered: "a definition gives this paper's number and values for each case", and no two answers have the same
  pub moved_up : (x : ℕ) → ending_of (Moved Raised x) ≡ gives (raised x)
  pub moved_down : (x : ℕ) → ending_of (Moved Lowered x) ≡ gives (lowered x)
  pub ends_closed : ending_of Closes ≡ gives closed
  pub ends_refused : (why : ℕ) → ending_of (Refused why) ≡ refused why
  pub endings_apart : (a b : Ended) → ending_of a ≡ ending_of b → a ≡ b
  -- rents go up, or down, by 1
  pub up_by_one : (p : List ℕ) (x i : ℕ) → i < 33 → amount (raise 32 p x) i ≡ amount p i + to_nat (has x i)
  pub down_by_one : (p : List ℕ) (x i : ℕ) → i < 33 → amount (lower 32 p x) i ≡ amount p i - to_nat (has x i)
  -- "A move empties the reports. A close keeps them. The turn needs no round of its own"
  pub after_raise : (r : Auction) (ts : List ℤ) (x : ℕ) → end_answer r ts ≡ gives (raised x) → end_next r ts ≡ emptied r (raise 32 r.prices x) Rising (r.raised + 1) r.lowered
  pub after_lower : (r : Auction) (ts : List ℤ) (x : ℕ) → end_answer r ts ≡ gives (lowered x) → end_next r ts ≡ emptied r (lower 32 r.prices x) Falling r.raised (r.lowered + 1)
  pub after_close : (r : Auction) (ts : List ℤ) → end_answer r ts ≡ gives closed → end_next r ts
      ≡ record {
        items = r.items;
        bidders = r.bidders;
        prices = r.prices;
        floors = r.floors;
        sets = r.sets;
        nulls = r.nulls;
        reported = r.reported;
        phase = Closed;
        raised = r.raised;
        lowered = r.lowered;
      }
  -- a read writes the record's rounds, rents and first names, in three lines
  pub names_are : (r : Auction) → names_of r ≡ assignment r.items (items_above r) (reports_of r)
  pub reads : (r : Auction) (out : List ℕ) → read_number r out ≡ 0
      → read_bytes r out ≡ written_to out (closing_sheet r.items r.bidders r.raised r.lowered r.prices (assignment r.items (items_above r) (reports_of r)))

pub record Demand2 : Type 0 where
  pub demands : Demands
  pub sets : Sets
  pub names : Names
  pub at_prices : AtPrices
  pub rounds : (s : Sheet) → within_limits s ≡ true → Rounds s (close s).ups (close s).downs (close s).prices
  pub live : Live
