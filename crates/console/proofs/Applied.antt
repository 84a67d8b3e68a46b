-- Lines that open with floors, what is answered, and which tables are lent and kept, by computation from the definitions alone. Assumes nothing.
use Prim.Native.Nat.{ℕ, ◌*◌}
use mathlib.Core.Path.{◌≡◌, refl}
use mathlib.Core.Bool.{Bool, true, false, ◌||◌, not, cond}
use mathlib.Core.List.{List, [], ◌∷◌, ◌++◌}
use lib.Dec.{ltb, eqb}
use lib.ListN.{length, get_or, replicate, take-append-drop}
use lib.IntN.{ℤ, pos, negsuc}
use Rattle.sets.specs.Count.{any_below}
use Rattle.sets.specs.Lists.{tabulate, places}
use Rattle.rule.specs.Refusal.{first, bad_items, bad_live_bidders, bad_length, any_over, any_under, bad_floors}
use Rattle.digits.specs.Digits.{digit, hex}
use Rattle.digits.specs.Reading.{digit_value, digit_at, number_at}
use Rattle.lines.specs.Lines.{newline, joined, number_text, number_line, amounts_line}
use Rattle.lines.specs.Reading.{numbers_at}
use Rattle.reports.specs.Report.{saying as reporting-as}
use Rattle.live.specs.Tables.{bad_tables, open_tables}
use Rattle.live.specs.Calls.{open_above_number, zeros, opened, unopened, opened_by, open_above, open_number, open_auction, filled_by, report, end_answer, end_next, end_tables}
use Rattle.live.specs.declared.Auction.{Auction}
use Rattle.console.specs.Orders.{starts, alone, amounts_at, opening, reporting, order_of, amounts_of, starts_of, floors_of}
use Rattle.console.specs.Answers.{prices_text, opens, replies, ends, beside, lent, keeps, fills, told_by, told}
use Rattle.console.specs.Steps.{told_to}
use Rattle.console.specs.declared.Order.TheVariants.{Open, OpenAbove, Report, End, Clear, Read, Unknown}

-- the definitions that the cases compute with
computing : Unit {0}
unfolding any_below tabulate places first bad_items bad_live_bidders bad_length any_over any_under bad_floors digit hex digit_value digit_at number_at newline joined number_text number_line amounts_line numbers_at open_above_number zeros opened unopened opened_by open_above open_number open_auction bad_tables filled_by starts alone amounts_at opening reporting order_of amounts_of starts_of floors_of prices_text opens lent keeps fills told_by told
computing = tt

-- a line of this letter: 2 items, 1 bidder and these amounts
abbrev pub saying : ℕ → List ℕ → List ℕ
saying letter amounts = letter ∷ (hex 2 2 ++ hex 2 1 ++ joined (length amounts) (λ k. hex 4 (get_or amounts k 0)))

-- with floors: 5 and 4 over 3 and 4
abbrev pub above : List ℕ
above = saying 102 (5 ∷ 4 ∷ 3 ∷ 4 ∷ [])

-- what is held before: 1 item at 7
abbrev pub held : Auction
held = opened 1 1 (7 ∷ []) (0 ∷ [])

-- ---- what a line says

pub f-opens : order_of above ≡ OpenAbove 2 1
unfolding computing
f-opens = refl

pub o-opens : order_of (saying 111 (5 ∷ 4 ∷ [])) ≡ Open 2 1
unfolding computing
o-opens = refl

pub capital : order_of (saying 70 (5 ∷ 4 ∷ 3 ∷ 4 ∷ [])) ≡ Unknown
unfolding computing
capital = refl

-- one digit too many
pub amount-cut : order_of (above ++ 48 ∷ []) ≡ Unknown
unfolding computing
amount-cut = refl

-- starting prices stand before floors
pub starts_first : starts_of 2 above ≡ 5 ∷ 4 ∷ []
unfolding computing
starts_first = refl

pub floors-last : floors_of 2 above ≡ 3 ∷ 4 ∷ []
unfolding computing
floors-last = refl

-- ---- which tables are lent, and which are kept

-- room for two bidders, with numbers that tell the one's table from the other's
abbrev pub one_table : List ℤ
one_table = replicate 1089 (pos 7)

abbrev pub other-table : List ℤ
other-table = replicate 1089 (negsuc 2)

abbrev pub both : List ℤ
both = one_table ++ other-table

-- the first bidders' are lent, and all there are for more bidders than there is room for
pub one_lent : lent 1 both ≡ one_table
unfolding computing
one_lent = refl

pub both-lent : lent 2 both ≡ both
unfolding computing
both-lent = refl

pub all-lent : lent 3 both ≡ both
unfolding computing
all-lent = refl

-- the others stay, behind what the call left
pub others-kept : keeps 1 (replicate 1089 (pos 5)) both ≡ replicate 1089 (pos 5) ++ other-table
unfolding computing
others-kept = refl

-- lent and given back as they came, all are as they were
pub all-kept : (n : ℕ) (ts : List ℤ) → keeps n (lent n ts) ts ≡ ts
unfolding lent keeps
all-kept n ts = take-append-drop (n * 1089) ts

-- a report and an end are lent those of the bidders of the record: here 1, with 2 items
abbrev pub single : Auction
single = opened 2 1 (5 ∷ 4 ∷ []) (0 ∷ 0 ∷ [])

pub report-lent : (line : List ℕ) (b set : ℕ) → told_by single both line (Report b true set) ≡ beside both (replies (report single one_table b (reporting-as true set)))
unfolding computing
report-lent line b set = refl

pub end-lent : (line : List ℕ) → told_by single both line End ≡ beside (end_tables single one_table ++ other-table) (ends (end_answer single one_table) (end_next single one_table))
unfolding computing
end-lent line = refl

-- a clear, a read and a line that is none leave them
module _ (r : Auction) (ts : List ℤ) (line : List ℕ) where
  pub clear-keeps : (told_by r ts line Clear).tables ≡ ts
  unfolding computing
  clear-keeps = refl

  pub read_keeps : (told_by r ts line Read).tables ≡ ts
  unfolding computing
  read_keeps = refl

  pub none-keeps : (told_by r ts line Unknown).tables ≡ ts
  unfolding computing
  none-keeps = refl

  -- with room for 40 bidders, and no other, the line is answered
  pub right-room : length ts ≡ 43560 → told_to r ts line 226 ≡ told r ts line
  unfolding told_to
  right-room e = simp e

  pub less-room : length ts ≡ 43559 → told_to r ts line 226 ≡ record { bytes = []; next = r; tables = ts }
  unfolding told_to
  less-room e = simp e

  pub more_room : length ts ≡ 43561 → told_to r ts line 226 ≡ record { bytes = []; next = r; tables = ts }
  unfolding told_to
  more_room e = simp e

  pub few_bytes : told_to r ts line 225 ≡ record { bytes = []; next = r; tables = ts }
  unfolding told_to
  few_bytes = go (not (eqb (length ts) 43560))
    where
      go : (b : Bool) → cond (b || ltb 225 226) (record { bytes = []; next = r; tables = ts }) (told r ts line) ≡ record { bytes = []; next = r; tables = ts }
      go true = refl
      go false = refl

-- ---- what is answered

-- 00 and the prices, the record has the floors, and the bidder's table is the opening's
pub opens-above : told held both above
    ≡ record { bytes = number_text 0 ++ hex 4 5 ++ hex 4 4 ++ newline; next = opened 2 1 (5 ∷ 4 ∷ []) (3 ∷ 4 ∷ []); tables = open_tables 2 1 ++ other-table }
unfolding computing
opens-above = refl

-- without floors
pub opens-without : told held both (saying 111 (5 ∷ 4 ∷ []))
    ≡ record { bytes = number_text 0 ++ hex 4 5 ++ hex 4 4 ++ newline; next = opened 2 1 (5 ∷ 4 ∷ []) (0 ∷ 0 ∷ []); tables = open_tables 2 1 ++ other-table }
unfolding computing
opens-without = refl

-- prices on their floors
pub opens-on-floors : told_by held both (saying 102 (5 ∷ 4 ∷ 5 ∷ 4 ∷ [])) (OpenAbove 2 1)
    ≡ record { bytes = number_text 0 ++ hex 4 5 ++ hex 4 4 ++ newline; next = opened 2 1 (5 ∷ 4 ∷ []) (5 ∷ 4 ∷ []); tables = open_tables 2 1 ++ other-table }
unfolding computing
opens-on-floors = refl

-- a floor is missing, and one is too many: what is held stays, record and tables
pub floors-short : told held both (saying 102 (5 ∷ 4 ∷ 3 ∷ [])) ≡ record { bytes = number_line 3; next = held; tables = both }
unfolding computing
floors-short = refl

pub floors-long : told held both (saying 102 (5 ∷ 4 ∷ 3 ∷ 4 ∷ 0 ∷ [])) ≡ record { bytes = number_line 3; next = held; tables = both }
unfolding computing
floors-long = refl

-- a price is below its floor
pub below_floor : told held both (saying 102 (5 ∷ 4 ∷ 3 ∷ 5 ∷ [])) ≡ record { bytes = number_line 18; next = held; tables = both }
unfolding computing
below_floor = refl

-- after o all amounts are starting prices
pub no-floors : told held both (saying 111 (5 ∷ 4 ∷ 3 ∷ 4 ∷ [])) ≡ record { bytes = number_line 3; next = held; tables = both }
unfolding computing
no-floors = refl
