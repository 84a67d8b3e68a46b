-- Demand 3, of sealed letting: what holds of the close. Document 01, "What demand 3 speaks of", with the floors of document 02, #103 (a sheet without floors has
-- floors of 0). Every field is a sentence by itself. Assumes nothing: these are statements, which `proofs/Demand3Sealed` proves.
use Rattle.std.specs.Prelude.{ℕ, suc, ◌+◌, ◌-◌, ◌*◌, ◌/◌, ◌%◌, ◌^◌, ◌≤◌, ◌<◌, true, ◌&&◌, not, cond, List, [], ◌∷◌, ◌++◌, ◌≡◌, leb, ltb, eqb, length, get_or, take, drop, Some, unwrap_or}
use Rattle.sets.specs.Count.{all_below}
use Rattle.sets.specs.Bit.{has}
use Rattle.sets.specs.Lists.{tabulate, places}
use Rattle.rule.specs.Sheet.{Sheet, amount, row, greatest, each4095, within_limits}
use Rattle.rule.specs.Demand.{demands}
use Rattle.rule.specs.Excess.{overdemanded, weakly_underdemanded, excess_demand, above_floors}
use Rattle.rule.specs.Round.{State, path, close}
use Rattle.rule.specs.Assignment.{is_assignment, total, floor_total}
use Rattle.rule.specs.Closing.{demands_at, excess_demand_at, excess_supply_at, FitsAt, assignment_at}
use Rattle.rule.specs.Gains.{gains_at}
use Rattle.rule.specs.FallingFirst.{falling_close}
use Rattle.digits.specs.Digits.{hex}
use Rattle.digits.specs.Reading.{number_at}
use Rattle.lines.specs.Lines.{joined, number_line, closing_sheet, sealed_sheet, written_to}
use Rattle.lines.specs.Reading.{read_closing, read_sealed}
use Rattle.bids.specs.Lent.{sheet_of, sheet_above}
use Rattle.bids.specs.Refusal.{sealed_refusal, sealed_above_refusal}
use Rattle.auction.specs.Sealed.{sealed_of, sealed_above_of, falling_first_of}
use Rattle.auction.specs.declared.Closing.{Closing}
use Rattle.sheet.specs.BidSheet.{BidSheet, items_in, bidders_in, read_sheet}
use Rattle.sheet.specs.Writing.{bid_sheet, Writable}
use Rattle.sheet.specs.Close.{items_of, bidders_of, bid_sheet_of, sheet_refusal, closed_to, answer_of}
use Rattle.sheet.specs.Contents.{bid_sheet_refusal, contents_of}
use Rattle.sheet.specs.Accepted.{sheet_in}

-- prices p are nowhere above prices q
abbrev pub NotAbove : List ℕ → List ℕ → Type 0
NotAbove p q = (i : ℕ) → amount p i ≤ amount q i

-- "Whole rents of 0 or more, also above 4,095, balance if in some naming each raker has something of their demand at them and every pan named to nobody has rent 0";
-- with floors (#103) the rents are at or above them, and such a pan stands at its floor. Names that fit are `Demand2.Names`
abbrev pub Balances : Sheet → List ℕ → Type 0
Balances s q = NotAbove s.floors q × ((xs : List ℕ) × FitsAt s q xs)

-- of a sheet whose path has u rounds raised and d lowered, is at prices t at the turn and closes at prices p
pub record Close (s : Sheet) (u d : ℕ) (t p : List ℕ) : Type 0 where
  -- the closing rents balance, and are the least whole rents that do, also among rents above 4,095
  pub balance : Balances s p
  pub least : (q : List ℕ) → Balances s q → NotAbove p q
  -- they are the only ones from the floors up at which both sets are empty, and so (theorem 1 of the paper) no set is overdemanded and none weakly underdemanded
  pub unique : (q : List ℕ) → length q ≡ s.items → NotAbove s.floors q → excess_demand_at s q ≡ 0 → excess_supply_at s q ≡ 0 → q ≡ p
  pub none-over : (all_below (2 ^ s.items) λ x. not (overdemanded s.items (demands_at s p) x)) ≡ true
  pub none-under : (all_below (2 ^ s.items) λ x. not (weakly_underdemanded s.items (above_floors s.items s.floors p) (demands_at s p) x)) ≡ true
  pub only_there : (q : List ℕ) → length q ≡ s.items → NotAbove s.floors q
      → (all_below (2 ^ s.items) λ x. not (overdemanded s.items (demands_at s q) x)) ≡ true
      → (all_below (2 ^ s.items) λ x. not (weakly_underdemanded s.items (above_floors s.items s.floors q) (demands_at s q) x)) ≡ true → q ≡ p
  -- "Its total is the sum of its bids", less floors: no naming has a higher one than the names. By sums, as a total less floors may be below 0
  pub highest : (xs : List ℕ) → is_assignment s.items (length s.bids) xs ≡ true
      → total s.bids xs + floor_total s.floors (assignment_at s p) ≤ total s.bids (assignment_at s p) + floor_total s.floors xs
  -- the rounds raised are the largest rise, the rounds lowered the largest fall
  pub largest-rise : u ≡ greatest s.items λ i. amount t i - amount s.start i
  pub largest-fall : d ≡ greatest s.items λ i. amount t i - amount p i
  pub few_raised : u ≤ 4095
  pub few_lowered : d ≤ 4095
  -- the turn is the least vector from the start up at which no pan rises, and the close is nowhere above it
  pub turn_above : NotAbove s.start t
  pub turn_least : (q : List ℕ) → NotAbove s.start q → excess_demand_at s q ≡ 0 → NotAbove t q
  pub close_below : NotAbove p t
  -- no rent on the way is above 4,095 or below its floor, and none at 4,095 goes up: 17 meets no sheet
  pub range : (k i : ℕ) → amount (path s k).prices i ≤ 4095
  pub above_floor : (k i : ℕ) → amount s.floors i ≤ amount (path s k).prices i
  pub raisable : (k i : ℕ) → has (excess_demand_at s (path s k).prices) i ≡ true → amount (path s k).prices i < 4095

-- of all prices from `base` up at which the rising set is empty, these are the least, in 32 places: the close from the floors up, the turn from the start up
pub record Least (m : ℕ) (bids : List (List ℕ)) (base p : List ℕ) : Type 0 where
  pub from_base : NotAbove base p
  pub no_excess : excess_demand m (demands m bids p) ≡ 0
  pub lowest : (q : List ℕ) → NotAbove base q → excess_demand m (demands m bids q) ≡ 0 → NotAbove p q
  pub places_32 : length p ≡ 32

-- the closing sheet of a sheet, four lines: its rounds raised and lowered, its rents, its names and its gains (#106) at the close
abbrev pub closing_sheet_of : Sheet → List ℕ
closing_sheet_of s =
    sealed_sheet s.items (length s.bids) (close s).ups (close s).downs (close s).prices (assignment_at s (close s).prices) (gains_at s (close s).prices)

-- an outcome by value: rounds, rents in 32 places, names and gains in 64
abbrev pub outcome_of : Sheet → State → Closing
outcome_of s c =
    record {
      refusal = 0;
      raised = c.ups;
      lowered = c.downs;
      prices = places 32 c.prices;
      assignment = places 64 (assignment_at s c.prices);
      gains = places 64 (gains_at s c.prices);
    }

-- the sealed entries give it of the sheet that the lent numbers say, wherever no number turns them down; that sheet is within the limits
pub record Outcomes : Type 0 where
  -- "numbers, raker after raker"
  pub sheet_is : (m n : ℕ) (start floors bids : List ℕ) → sheet_above m n start floors bids
      ≡ record { items = m; start = start; floors = floors; bids = tabulate n (λ b. take m (drop (b * m) bids)) 0 }
  -- 1 to 32 pans, 1 to 64 rakers, a starting rent and a floor for each pan and a bid of each raker for each pan, "whole crowns, 0 to 4,095", and no start below its floor
  pub amounts_are : (m : ℕ) (xs : List ℕ) → each4095 m xs ≡ eqb (length xs) m && all_below m (λ k. leb (amount xs (suc k)) 4095)
  pub limits_are : (s : Sheet) → within_limits s
      ≡ leb 1 s.items && leb s.items 32 && leb 1 (length s.bids) && leb (length s.bids) 64
      && each4095 s.items s.start && each4095 s.items s.floors && all_below s.items (λ k. leb (amount s.floors (suc k)) (amount s.start (suc k)))
      && all_below (length s.bids) (λ b. each4095 s.items (row s.bids b))
  pub within : (m n : ℕ) (start floors bids : List ℕ) → sealed_above_refusal m n start floors bids ≡ 0 → within_limits (sheet_above m n start floors bids) ≡ true
  pub without_floors : (m n : ℕ) (start bids : List ℕ) → sealed_refusal m n start bids ≡ 0
      → sealed_of m n start bids ≡ outcome_of (sheet_of m n start bids) (close (sheet_of m n start bids))
  pub with_floors : (m n : ℕ) (start floors bids : List ℕ) → sealed_above_refusal m n start floors bids ≡ 0
      → sealed_above_of m n start floors bids ≡ outcome_of (sheet_above m n start floors bids) (close (sheet_above m n start floors bids))
  pub falling-first : (m n : ℕ) (start floors bids : List ℕ) → sealed_above_refusal m n start floors bids ≡ 0
      → falling_first_of m n start floors bids ≡ outcome_of (sheet_above m n start floors bids) (falling_close (sheet_above m n start floors bids))

-- "Sheets": bid sheet in, closing sheet out. `joined k f` is f 0 to f (k − 1), one after the other; byte 10, 0a, ends a line
pub record Sheets : Type 0 where
  -- a number in k digits, "0 to 9 and a to f"; read back it is the same
  pub no_digits : (x : ℕ) → hex 0 x ≡ []
  pub last_digit : (k x : ℕ) → hex (suc k) x ≡ hex k (x / 16) ++ cond (ltb (x % 16) 10) (48 + x % 16) (87 + x % 16) ∷ []
  pub digits_read : (k x : ℕ) → x < 16 ^ k → number_at k (hex k x) 0 ≡ Some x
  -- "Bid sheet: first line, pans and rakers as 2 digits each, then each starting rent as 4 digits; then one line a raker, in order, each bid as 4 digits. Nothing
  -- follows the last line"
  pub bid-sheet : (b : BidSheet) → bid_sheet b
      ≡ hex 2 b.items ++ hex 2 b.bidders ++ joined b.items (λ k. hex 4 (get_or b.start k 0)) ++ (10 ∷ [])
      ++ joined b.bidders λ r. joined b.items (λ k. hex 4 (get_or b.bids (r * b.items + k) 0)) ++ (10 ∷ [])
  -- its counts are read first, then all of it: nothing is said of a sheet that cannot be read
  pub items-in : (bytes : List ℕ) → items_in bytes ≡ number_at 2 bytes 0
  pub bidders-in : (bytes : List ℕ) → bidders_in bytes ≡ number_at 2 bytes 2
  pub items_are : (bytes : List ℕ) → items_of bytes ≡ unwrap_or (items_in bytes) 0
  pub bidders_are : (bytes : List ℕ) → bidders_of bytes ≡ unwrap_or (bidders_in bytes) 0
  pub sheet-in : (bytes : List ℕ) → bid_sheet_of bytes ≡ unwrap_or (read_sheet bytes) (record { items = 0; bidders = 0; start = []; bids = [] })
  -- a bid sheet is read as it is written, what is read was written so, and what was read, and nothing else with its counts in order, is not turned down by 6
  pub read_written : (b : BidSheet) → Writable b → read_sheet (bid_sheet b) ≡ Some b
  pub written_read : (bytes : List ℕ) (b : BidSheet) → read_sheet bytes ≡ Some b → Writable b × (bytes ≡ bid_sheet b)
  pub written_no_six : (b : BidSheet) → Writable b → (room : ℕ) → sheet_refusal (bid_sheet b) room ≡ 6 → ⊥
  pub read_no_six : (bytes : List ℕ) (room : ℕ) (b : BidSheet) → read_sheet bytes ≡ Some b → sheet_refusal bytes room ≡ 6 → ⊥
  pub not_six_read : (bytes : List ℕ) (room : ℕ) → (sheet_refusal bytes room ≡ 1 → ⊥) → (sheet_refusal bytes room ≡ 2 → ⊥) → (sheet_refusal bytes room ≡ 6 → ⊥)
      → read_sheet bytes ≡ Some (bid_sheet_of bytes)
  -- the sheet that the bytes say: floors of 0, and for each raker in order a part of the bids
  pub says : (bytes : List ℕ) → sheet_in bytes ≡ sheet_of (bid_sheet_of bytes).items (bid_sheet_of bytes).bidders (bid_sheet_of bytes).start (bid_sheet_of bytes).bids
  -- "Closing sheet, three lines: rounds raised and rounds lowered, 6 digits each …; each rent, 4 digits; each raker's pan, 2 digits"; and "one line of two decimal
  -- digits with the number that turned it down"
  pub three-lines : (m n u d : ℕ) (p xs : List ℕ) → closing_sheet m n u d p xs
      ≡ hex 6 u ++ hex 6 d ++ (10 ∷ []) ++ (joined m (λ k. hex 4 (get_or p k 0)) ++ (10 ∷ [])) ++ joined n (λ b. hex 2 (get_or xs b 0)) ++ (10 ∷ [])
  pub number-line : (x : ℕ) → number_line x ≡ (48 + x / 10) ∷ (48 + x % 10) ∷ 10 ∷ []
  -- a closing sheet says its rounds, rents and names, and with a fourth line (#106) its gains: read back, they are those that were written
  pub read_back : (m n u d : ℕ) (p xs : List ℕ) → u < 16 ^ 6 → d < 16 ^ 6 → ((k : ℕ) → k < m → get_or p k 0 < 16 ^ 4) → ((b : ℕ) → b < n → get_or xs b 0 < 16 ^ 2)
      → read_closing m n (closing_sheet m n u d p xs) ≡ Some (record { rounds = u ∷ d ∷ []; prices = places m p; options = places n xs })
  pub sealed_back : (m n u d : ℕ) (p xs : List ℕ) → u < 16 ^ 6 → d < 16 ^ 6 → ((k : ℕ) → k < m → get_or p k 0 < 16 ^ 4) → ((b : ℕ) → b < n → get_or xs b 0 < 16 ^ 2)
      → (gains : List ℕ) → ((b : ℕ) → b < n → get_or gains b 0 < 16 ^ 4)
      → read_sealed m n (sealed_sheet m n u d p xs gains)
      ≡ Some (record { said = record { rounds = u ∷ d ∷ []; prices = places m p; options = places n xs }; gains = places n gains })
  -- what a bid sheet says, by value: rents in 32 places, bids in 2,048. What is written into lent bytes stands at their front
  pub contents : (bytes : List ℕ) → bid_sheet_refusal bytes ≡ 0 → let b = bid_sheet_of bytes in contents_of bytes
      ≡ record { refusal = 0; items = b.items; bidders = b.bidders; start = places 32 b.start; bids = places 2048 b.bids }
  pub at_front : (out bytes : List ℕ) → written_to out bytes ≡ bytes ++ drop (length bytes) out
  -- a bid sheet that is not turned down says a sheet within the limits, and its closing sheet is written, bytes past it staying as they came: rounds, rents, names and
  -- gains of the close. What stands behind byte 8,390 of an input changes nothing, and with 528 bytes there is always room
  pub within : (bytes : List ℕ) (room : ℕ) → sheet_refusal bytes room ≡ 0 → within_limits (sheet_in bytes) ≡ true
  pub written : (bytes out : List ℕ) → sheet_refusal bytes (length out) ≡ 0 → closed_to bytes out ≡ closing_sheet_of (sheet_in bytes) ++ drop (length (closing_sheet_of (sheet_in bytes))) out
  pub printed : (bytes : List ℕ) (room : ℕ) → sheet_refusal bytes room ≡ 0 → answer_of bytes room ≡ closing_sheet_of (sheet_in bytes)
  pub number_printed : (bytes : List ℕ) (room : ℕ) → 3 ≤ room → (sheet_refusal bytes room ≡ 0 → ⊥) → answer_of bytes room ≡ number_line (sheet_refusal bytes room)
  pub no_room : (bytes : List ℕ) (room : ℕ) → room < 3 → answer_of bytes room ≡ []
  pub past : (bytes : List ℕ) (room k : ℕ) → 8390 ≤ k → answer_of (take k bytes) room ≡ answer_of bytes room
  pub enough : (bytes : List ℕ) (room : ℕ) → 528 ≤ room → sheet_refusal bytes room ≡ 3 → ⊥
  -- the same number where no closing sheet is asked for, as the sheet of reasons does (#101)
  pub same_number : (bytes : List ℕ) (room : ℕ) → 528 ≤ room → bid_sheet_refusal bytes ≡ sheet_refusal bytes room

pub record Demand3Sealed : Type 0 where
  pub closes : (s : Sheet) → within_limits s ≡ true → Close s (close s).ups (close s).downs (path s (close s).ups).prices (close s).prices
  pub outcomes : Outcomes
  pub sheets : Sheets
  -- what the letting computes in place of the rounds leaves nothing open: there is one such list
  pub one_least : (m : ℕ) (bids : List (List ℕ)) (base p q : List ℕ) → Least m bids base p → Least m bids base q → p ≡ q
