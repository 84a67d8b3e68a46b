-- Instances of the agreement. On each sheet and list below the machine's answers, the record that holds what it holds, and its tables are written out, and the machine
-- is held to them call by call: by computation from the definitions alone, save that 19, which is asked of all bids, is settled by a law. So that a list stays on
-- its sheet is no empty premise, and a wrong definition makes one of them false. `AgreedLive` has what follows for the live auction. Assumes nothing.
use Prim.Native.Nat.{ℕ, ◌≤◌, ◌<◌}
use mathlib.Core.Path.{◌≡◌, refl, ap, ap₂, ◌∙◌}
use mathlib.Core.Bool.{Bool, true, false, ◌||◌, cond}
use mathlib.Core.List.{List, [], ◌∷◌, ◌++◌, map}
use native.Mathlib.Omega.{arith}
use lib.Dec.{eqb}
use lib.IntN.{ℤ}
use lib.ListN.{length, replicate}
use Rattle.sets.specs.Count.{all_below, any_below, count}
use Rattle.sets.specs.Bit.{bit, is_set, has, set_of, each, any, size, lowest}
use Rattle.sets.specs.Largest.{largest_below, largest}
use Rattle.sets.specs.Lists.{tabulate, places}
use Rattle.sets.specs.Sum.{sum}
use Rattle.sets.proofs.Counting.{and_both}
use Rattle.rule.specs.Sheet.{amount, row, Sheet, each4095, within_limits}
use Rattle.rule.specs.Demand.{surplus_at_least, best, Demand, demand, demands, wants, nth}
use Rattle.rule.specs.Excess.{bidders, crowded, in_excess, in_positive_excess, excess_demand, positive_excess_demand, excess_supply, above_floors}
use Rattle.rule.specs.Round.{raise, lower, raised, lowered, closed, round_falling, round, move, round_at, after, opening, path, most_rounds, close}
use Rattle.rule.specs.Assignment.{option, holders, is_assignment, fits, some_list, choose, assignment}
use Rattle.rule.specs.Closing.{demands_at}
use Rattle.rule.specs.Gains.{gain, gains_at}
use Rattle.rule.specs.Refusal.{on, first, most_live_bidders, bad_bidder}
use Rattle.rule.proofs.Limits.{limits}
use Rattle.rule.proofs.Closing.{closing}
use Rattle.digits.specs.Digits.{digit, hex}
use Rattle.lines.specs.Lines.{newline, joined, amounts_line, closing_sheet, closing_length, written_to}
use Rattle.reports.specs.Report.{saying, is_empty, beyond, unfit, same_bool, same_demand}
use Rattle.differences.specs.Table.{opening as openingTable}
use Rattle.differences.specs.Table.{meets}
use Rattle.differences.specs.Allowed.{explains, allows, narrowed}
use Rattle.differences.proofs.Laws.{opening_met, explained-by}
use Rattle.live.specs.Calls.{at_top, gives, refused}
use Rattle.live.specs.declared.Auction.{Auction}
use Rattle.live.specs.declared.Phase.{Phase}
use Rattle.live.specs.declared.Phase.TheVariants.{Rising, Falling, Closed}
use Rattle.agreement.specs.Calls.{Call, reporting, ending, clearing, reading, Answer, told, ended, shown}
use Rattle.agreement.specs.Machine.{Standing, none, stands, Machine, begin, at, phase_of, phase, does_stand, said, said_all, is_missing, stands_as, demands_stand, Outcome, answers, leaves, tells, unexplained_by, machine_report, machine_clear, machine_read_number, three_lines, machine_read, machine_end_number, narrowed_on, next, turned, machine_end, machine, ran, left, behind, machine_run}
use Rattle.agreement.specs.Agreement.{stands_for, all_rounds}
use Rattle.agreement.proofs.Nineteen.{none-explain, null-and-free}
use Rattle.agreement.proofs.Tabled.{Tabled, begin-tabled, own-explained, moved-tabled}

-- the definitions that the instances compute with
unfoldable pub computing : Unit {0}
unfolding amount row each4095 within_limits surplus_at_least best demand demands wants nth bidders crowded in_excess in_positive_excess excess_demand positive_excess_demand excess_supply above_floors raise lower round_falling round move round_at after opening path most_rounds close option holders is_assignment fits some_list choose assignment gain gains_at all_below any_below count bit is_set has set_of each any size lowest largest_below largest sum first bad_bidder tabulate places digit hex newline joined amounts_line closing_sheet closing_length written_to is_empty beyond unfit saying at_top begin at phase_of phase does_stand said said_all is_missing same_bool same_demand stands_as demands_stand tells machine_report machine_clear machine_read_number three_lines machine_read machine_end_number narrowed_on next turned machine_end machine behind machine_run stands_for all_rounds
computing = tt

-- ---- an instance: a sheet, calls with their answers, and what is held after them

abbrev pub Answers : Type 0
Answers = List (Call × Answer)

abbrev pub calls_of : Answers → List Call
calls_of xs = map (λ x. x.0) xs

abbrev pub answers_of : Answers → List Answer
answers_of xs = map (λ x. x.1) xs

-- the machine gives these answers, call by call
pub data Goes (s : Sheet) : Machine → Answers → Machine → Type 0 where
  done : {t : Machine} → Goes s t [] t
  goes : {t u v : Machine} {c : Call} {a : Answer} {xs : Answers} → machine s t c ≡ answers a u → Goes s u xs v → Goes s t ((c, a) ∷ xs) v

pub goes-run : (s : Sheet) (t : Machine) (xs : Answers) (v : Machine) → Goes s t xs v → machine_run s t (calls_of xs) ≡ ran (answers_of xs) v
unfolding machine_run behind
goes-run s t xs v done = refl
goes-run s t xs v (goes {u = u} {a = a} {xs = ys} e h) =
    ap (λ (o : Outcome). elim o [ answers a u ↦ behind a (machine_run s u (calls_of ys)) | leaves ↦ left ]) e ∙ ap (behind a) (goes-run s u ys v h)

first-call : {s : Sheet} {t v : Machine} {c : Call} {a : Answer} → Goes s t ((c, a) ∷ []) v → machine s t c ≡ answers a v
first-call (goes e done) = e

-- after the list the machine is in this state, and this record holds what it holds
pub record Agreed (s : Sheet) (xs : Answers) (v : Machine) (r : Auction) : Type 0 where
  pub within : within_limits s ≡ true
  pub few : length s.bids ≤ most_live_bidders
  pub answered : Goes s (begin s) xs v
  pub holds : stands_for s v ≡ r

-- a record: items, bidders, prices, floors, the reports' item sets, the bidders whose report has null, those who have reported, phase, rounds raised and lowered
abbrev pub holding : ℕ → ℕ → List ℕ → List ℕ → List ℕ → ℕ → ℕ → Phase → ℕ → ℕ → Auction
holding m n p floors sets nulls reported ph ups downs =
    record {
      items = m;
      bidders = n;
      prices = places 32 p;
      floors = places 32 floors;
      sets = places 64 sets;
      nulls = nulls;
      reported = reported;
      phase = ph;
      raised = ups;
      lowered = downs;
    }

-- of the first bidder this report stands, and else none
abbrev pub standing1 : Demand → ℕ → Standing
standing1 d i = cond (eqb i 1) (stands d) none

-- the opening's tables, and these narrowed at these prices by these demands
abbrev pub tables0 : ℕ → ℕ → List (List ℤ)
tables0 m k = openingTable m

abbrev pub tables1 : ℕ → List ℕ → List Demand → ℕ → List (List ℤ)
tables1 m p ds k = narrowed m (openingTable m) p (nth ds k)

-- ---- 19 by a law: no other number applies to the report

pub not-nineteen : (x : Bool) (t u : Machine) → x ≡ false → tells (first (on 19 x ∷ [])) t u ≡ answers (told 0) u
unfolding first tells
not-nineteen x t u e = ap (λ (y : Bool). tells (first (on 19 y ∷ [])) t u) e

pub is-nineteen : (x : Bool) (t u : Machine) → x ≡ true → tells (first (on 19 x ∷ [])) t u ≡ answers (told 19) t
unfolding first tells
is-nineteen x t u e = ap (λ (y : Bool). tells (first (on 19 y ∷ [])) t u) e

-- the report is the bidder's demand of the sheet
pub own : (s : Sheet) → within_limits s ≡ true → (t u : Machine) → Tabled s t.tables → (k : ℕ) → k < length s.bids → (d : Demand) → d ≡ nth (demands_at s (at s t).prices) k
    → tells (first (on 19 (unexplained_by s t k d) ∷ [])) t u ≡ answers (told 0) u
own s e t u g k l d q = not-nineteen (unexplained_by s t k d) t u (ap (unexplained_by s t k) q ∙ own-explained s t g (limits s e) k l)

-- the tables before and after the first round
abbrev pub at_first : (s : Sheet) → within_limits s ≡ true → Tabled s (begin s).tables
at_first s e = begin-tabled s (limits s e)

abbrev pub once-moved : (s : Sheet) → within_limits s ≡ true → Tabled s (narrowed_on s (begin s))
once-moved s e = moved-tabled s (begin s) (at_first s e) (limits s e) (closing s e)

-- ---- one item at 1, one bidder who bids 1: lowered and closed, and refused before and after

abbrev pub one : Sheet
one = record { items = 1; start = 1 ∷ []; floors = 0 ∷ []; bids = (1 ∷ []) ∷ [] }

pub one-within : within_limits one ≡ true
unfolding computing
one-within = refl

abbrev pub one_list : Answers
one_list =
    (reading [], shown 15 [])
    ∷ (ending, ended (refused 14))
    ∷ (reporting 1 (saying true 1), told 0)
    ∷ (reporting 1 (saying true 1), told 13)
    ∷ (ending, ended (gives (lowered 1)))
    ∷ (reporting 1 (saying false 1), told 0)
    ∷ (ending, ended (gives closed))
    ∷ (clearing, told 12)
    ∷ []

-- the round that lowered has narrowed the opening's table, and the close has not
abbrev pub last_one : Machine
last_one = record { moves = 1; has_closed = true; standing = standing1 (saying false 1); tables = tables1 1 (1 ∷ []) (saying true 1 ∷ []) }

abbrev lowered_one : Machine
lowered_one = record { moves = 1; has_closed = false; standing = λ i. none; tables = narrowed_on one (begin one) }

abbrev pub closed_one : Auction
closed_one = holding 1 1 (0 ∷ []) [] (1 ∷ []) 0 1 Closed 0 1

unfoldable pub closes : Agreed one one_list last_one closed_one
unfolding computing
closes =
    record {
      within = refl;
      few = omega arith;
      answered =
          goes refl (goes refl
          (goes (own one one-within (begin one) _ (at_first one one-within) 0 (omega arith) (saying true 1) refl)
          (goes refl (goes refl
          (goes (own one one-within lowered_one _ (once-moved one one-within) 0 (omega arith) (saying false 1) refl)
          (goes refl (goes refl done)))))));
      holds = refl;
    }

-- the machine has then made all of the path's rounds
pub all_made : last_one.moves ≡ all_rounds one
unfolding computing
all_made = refl

-- and a read writes the three lines: 0 rounds raised, 1 lowered, price 0, item 1; the byte past them stays
abbrev pub lines_one : List ℕ
lines_one = 48 ∷ 48 ∷ 48 ∷ 48 ∷ 48 ∷ 48 ∷ 48 ∷ 48 ∷ 48 ∷ 48 ∷ 48 ∷ 49 ∷ 10 ∷ 48 ∷ 48 ∷ 48 ∷ 48 ∷ 10 ∷ 48 ∷ 49 ∷ 10 ∷ []

abbrev pub read_one : Answers
read_one = (reading (replicate 22 7), shown 0 (lines_one ++ 7 ∷ [])) ∷ []

pub machine-reads : Goes one last_one read_one last_one
unfolding computing
machine-reads = goes refl done

-- they are the first of its sealed closing sheet, in which its bidder gains 1
pub lines-one : three_lines one ≡ lines_one
unfolding computing
lines-one = refl

pub gains-one : gains_at one (close one).prices ≡ 1 ∷ []
unfolding computing
gains-one = refl

-- ---- a report with an item too many, which no bids explain either: 8 and not 19. The tables are the opening's
abbrev pub opened_one : Machine
opened_one = record { moves = 0; has_closed = false; standing = λ i. none; tables = tables0 1 }

pub eight : Agreed one ((reporting 1 (saying true 2), told 8) ∷ []) opened_one (holding 1 1 (1 ∷ []) [] [] 0 0 Rising 0 0)
unfolding computing
eight = record { within = refl; few = omega arith; answered = goes refl done; holds = refl }

-- ---- where null alone stands, which is not the sheet's demand, a move would narrow by the demand all the same
pub by-demands : narrowed_on one (record { moves = 0; has_closed = false; standing = standing1 (saying true 0); tables = tables0 1 }) 0 ≡ tables1 1 (1 ∷ []) (saying true 1 ∷ []) 0
unfolding computing
by-demands = refl

-- ---- such a report is one that other bids explain, 0 for one, and an end that finds it leaves the sheet

abbrev pub null_one : Machine
null_one = record { moves = 0; has_closed = false; standing = standing1 (saying true 0); tables = tables0 1 }

null-explained : (standing : ℕ → Standing) → unexplained_by one (record { moves = 0; has_closed = false; standing = standing; tables = tables0 1 }) 0 (saying true 0) ≡ false
unfolding computing unexplained_by allows explains
null-explained standing =
    explained-by 1 (openingTable 1) (1 ∷ []) (saying true 0) (0 ∷ []) refl (and_both (meets 1 (openingTable 1) (0 ∷ [])) true (opening_met 1 (omega arith) (0 ∷ []) refl) refl)

pub accepts-null : Agreed one ((reporting 1 (saying true 0), told 0) ∷ []) null_one (holding 1 1 (1 ∷ []) [] [] 1 1 Rising 0 0)
unfolding computing
accepts-null =
    record {
      within = refl;
      few = omega arith;
      answered = goes (not-nineteen (unexplained_by one (begin one) 0 (saying true 0)) (begin one) _ (null-explained (λ i. none))) done;
      holds = refl;
    }

ends-null : machine one null_one ending ≡ leaves
unfolding computing
ends-null = ap (λ (x : Bool). turned (first (on 19 (x || false) ∷ [])) null_one) (null-explained (standing1 (saying true 0)))

pub leaves-sheet : machine_run one (begin one) (reporting 1 (saying true 0) ∷ ending ∷ []) ≡ left
unfolding machine_run behind
leaves-sheet =
    ap (λ (o : Outcome). elim o [ answers a u ↦ behind a (machine_run one u (ending ∷ [])) | leaves ↦ left ]) (first-call accepts-null.answered)
    ∙ ap (λ (o : Outcome). behind (told 0) (elim o [ answers a u ↦ behind a (machine_run one u []) | leaves ↦ left ])) ends-null

-- ---- K5, one item at 0 and one bidder who bids 0: the report that follows the sheet is null alone, and the read shows no item
abbrev pub zero-bid : Sheet
zero-bid = record { items = 1; start = 0 ∷ []; floors = 0 ∷ []; bids = (0 ∷ []) ∷ [] }

zero-within : within_limits zero-bid ≡ true
unfolding computing
zero-within = refl

abbrev pub zero_list : Answers
zero_list =
    (reporting 1 (saying true 0), told 0)
    ∷ (ending, ended (gives closed))
    ∷ (reading (replicate 21 7), shown 0 (48 ∷ 48 ∷ 48 ∷ 48 ∷ 48 ∷ 48 ∷ 48 ∷ 48 ∷ 48 ∷ 48 ∷ 48 ∷ 48 ∷ 10 ∷ 48 ∷ 48 ∷ 48 ∷ 48 ∷ 10 ∷ 48 ∷ 48 ∷ 10 ∷ []))
    ∷ []

abbrev pub closed_zero : Machine
closed_zero = record { moves = 0; has_closed = true; standing = standing1 (saying true 0); tables = tables0 1 }

pub no_item : Agreed zero-bid zero_list closed_zero (holding 1 1 (0 ∷ []) [] [] 1 1 Closed 0 0)
unfolding computing
no_item =
    record {
      within = refl;
      few = omega arith;
      answered = goes (own zero-bid zero-within (begin zero-bid) _ (at_first zero-bid zero-within) 0 (omega arith) (saying true 0) refl) (goes refl (goes refl done));
      holds = refl;
    }

-- with the item beside null it is turned down: no bids explain it
with-it-unexplained : (standing : ℕ → Standing) → unexplained_by zero-bid (record { moves = 0; has_closed = false; standing = standing; tables = tables0 1 }) 0 (saying true 1) ≡ true
unfolding computing unexplained_by
with-it-unexplained standing = none-explain 1 (openingTable 1) (0 ∷ []) (saying true 1) (λ b q met h. null-and-free b h)

pub with-it : Agreed zero-bid ((reporting 1 (saying true 1), told 19) ∷ []) (begin zero-bid) (holding 1 1 (0 ∷ []) [] [] 0 0 Rising 0 0)
unfolding computing
with-it =
    record {
      within = refl;
      few = omega arith;
      answered = goes (is-nineteen (unexplained_by zero-bid (begin zero-bid) 0 (saying true 1)) (begin zero-bid) _ (with-it-unexplained (λ i. none))) done;
      holds = refl;
    }

-- and an end would be too, if it stood
abbrev with_it : Machine
with_it = record { moves = 0; has_closed = false; standing = standing1 (saying true 1); tables = tables0 1 }

pub with-it-ends : Goes zero-bid with_it ((ending, ended (refused 19)) ∷ []) with_it
unfolding computing
with-it-ends = goes (ap (λ (x : Bool). turned (first (on 19 (x || false) ∷ [])) with_it) (with-it-unexplained (standing1 (saying true 1)))) done

-- ---- example 6: its first round raises item 2, empties the reports and narrows the tables
abbrev pub six : Sheet
six = record { items = 2; start = 4 ∷ 4 ∷ []; floors = 0 ∷ 0 ∷ []; bids = (2 ∷ 6 ∷ []) ∷ (3 ∷ 7 ∷ []) ∷ (6 ∷ 7 ∷ []) ∷ [] }

six-within : within_limits six ≡ true
unfolding computing
six-within = refl

abbrev pub six_list : Answers
six_list =
    (reporting 1 (saying false 2), told 0)
    ∷ (reporting 2 (saying false 2), told 0)
    ∷ (reporting 3 (saying false 2), told 0)
    ∷ (ending, ended (gives (raised 2)))
    ∷ []

abbrev pub raised_six : Machine
raised_six = record { moves = 1; has_closed = false; standing = λ i. none; tables = tables1 2 (4 ∷ 4 ∷ []) (saying false 2 ∷ saying false 2 ∷ saying false 2 ∷ []) }

pub raises : Agreed six six_list raised_six (holding 2 3 (4 ∷ 5 ∷ []) [] [] 0 0 Rising 1 0)
unfolding computing
raises =
    record {
      within = refl;
      few = omega arith;
      answered =
          goes (own six six-within (begin six) _ (at_first six six-within) 0 (omega arith) (saying false 2) refl)
          (goes (own six six-within _ _ (at_first six six-within) 1 (omega arith) (saying false 2) refl)
          (goes (own six six-within _ _ (at_first six six-within) 2 (omega arith) (saying false 2) refl)
          (goes refl done)));
      holds = refl;
    }

-- ---- floors: an item at 3 with floor 2, which nobody bids for, falls to 2 and stays there at the close
abbrev pub floor2 : Sheet
floor2 = record { items = 1; start = 3 ∷ []; floors = 2 ∷ []; bids = (0 ∷ []) ∷ [] }

floor-within : within_limits floor2 ≡ true
unfolding computing
floor-within = refl

abbrev lowered_floor : Machine
lowered_floor = record { moves = 1; has_closed = false; standing = λ i. none; tables = narrowed_on floor2 (begin floor2) }

abbrev pub floored_list : Answers
floored_list =
    (reporting 1 (saying true 0), told 0)
    ∷ (ending, ended (gives (lowered 1)))
    ∷ (reporting 1 (saying true 0), told 0)
    ∷ (ending, ended (gives closed))
    ∷ []

abbrev pub closed_floor : Machine
closed_floor = record { moves = 1; has_closed = true; standing = standing1 (saying true 0); tables = tables1 1 (3 ∷ []) (saying true 0 ∷ []) }

pub floored : Agreed floor2 floored_list closed_floor (holding 1 1 (2 ∷ []) (2 ∷ []) (0 ∷ []) 1 1 Closed 0 1)
unfolding computing
floored =
    record {
      within = refl;
      few = omega arith;
      answered =
          goes (own floor2 floor-within (begin floor2) _ (at_first floor2 floor-within) 0 (omega arith) (saying true 0) refl)
          (goes refl
          (goes (own floor2 floor-within lowered_floor _ (once-moved floor2 floor-within) 0 (omega arith) (saying true 0) refl)
          (goes refl done)));
      holds = refl;
    }

-- ---- one item at 5 that two bidders do not want, lowered to 4, and the tables filled anew: both may report the item alone, and the end is told 16
abbrev pub five : Sheet
five = record { items = 1; start = 5 ∷ []; floors = 0 ∷ []; bids = (0 ∷ []) ∷ (0 ∷ []) ∷ [] }

-- one round made, these reports stand, and these are the tables
abbrev pub five_with : (ℕ → Standing) → (ℕ → List (List ℤ)) → Machine
five_with standing tables = record { moves = 1; has_closed = false; standing = standing; tables = tables }

-- the item alone is explained by a bid of 5
item-explained : (standing : ℕ → Standing) (k : ℕ) → unexplained_by five (five_with standing (tables0 1)) k (saying false 1) ≡ false
unfolding computing unexplained_by allows explains
item-explained standing k =
    explained-by 1 (openingTable 1) (4 ∷ []) (saying false 1) (5 ∷ []) refl (and_both (meets 1 (openingTable 1) (5 ∷ [])) true (opening_met 1 (omega arith) (5 ∷ []) refl) refl)

abbrev pub sixteen_list : Answers
sixteen_list = (reporting 1 (saying false 1), told 0) ∷ (reporting 2 (saying false 1), told 0) ∷ (ending, ended (refused 16)) ∷ []

abbrev pub sixteen_standing : ℕ → Standing
sixteen_standing i = cond (eqb i 2) (stands (saying false 1)) (standing1 (saying false 1) i)

pub sixteen : Goes five (five_with (λ i. none) (tables0 1)) sixteen_list (five_with sixteen_standing (tables0 1))
unfolding computing
sixteen =
    goes (not-nineteen (unexplained_by five (five_with (λ i. none) (tables0 1)) 0 (saying false 1)) _ _ (item-explained (λ i. none) 0))
    (goes (not-nineteen (unexplained_by five (five_with (standing1 (saying false 1)) (tables0 1)) 1 (saying false 1)) _ _ (item-explained (standing1 (saying false 1)) 1))
    (goes (ap₂ (λ (x y : Bool). turned (first (on 19 (x || (y || false)) ∷ on 16 true ∷ [])) (five_with sixteen_standing (tables0 1))) (item-explained sixteen_standing 1) (item-explained sixteen_standing 0))
    done))

pub sixteen-holds : stands_for five (five_with sixteen_standing (tables0 1)) ≡ holding 1 2 (4 ∷ []) [] (1 ∷ 1 ∷ []) 0 3 Falling 0 1
unfolding computing
sixteen-holds = refl
