-- Request #107: reports that hang together. Every field is a sentence by itself; the numbers and their order stand in `Demand1`, the machine's tables in
-- `Demand3Live`. Assumes nothing: these are statements, which `proofs/Tables` proves.
use Rattle.std.specs.Prelude.{ℕ, suc, ◌+◌, ◌*◌, ◌≤◌, ◌<◌, Bool, true, false, ◌&&◌, not, cond, List, [], ◌∷◌, ◌++◌, ◌≡◌, length, take, drop, ℤ, pos, negsuc, eqb}
use Rattle.std.proofs.Math.IntN.{sub_ℕ}
use Rattle.std.specs.Int.Signed.{le_z}
use Rattle.sets.specs.Count.{◌⇒◌, all_below}
use Rattle.sets.specs.Bit.{each}
use Rattle.sets.specs.Lists.{tabulate}
use Rattle.rule.specs.Sheet.{Sheet, amount, each4095, within_limits}
use Rattle.rule.specs.Demand.{Demand, demand, nth}
use Rattle.rule.specs.Round.{raised, lowered, closed}
use Rattle.rule.specs.Closing.{demands_at}
use Rattle.reports.specs.Report.{same_demand}
use Rattle.differences.specs.Table.{some_bids, entry, meets, greatest_below, table_of, is_beyond, largest_table, opening, is_zero, zero_beyond, in_range, table_fits}
use Rattle.differences.specs.Allowed.{narrowed, unexplained}
use Rattle.differences.specs.Lent.{flat, table_at, flat_all}
use Rattle.live.specs.Auction.{place, has_reported}
use Rattle.live.specs.Tables.{tables_fit}
use Rattle.live.specs.Calls.{open_above_number, end_number, gives, refused, end_answer, end_tables}
use Rattle.live.specs.declared.Auction.{Auction}
use Rattle.live.specs.declared.Phase.TheVariants.{Closed}
use Rattle.agreement.specs.Calls.{Call, reporting, ending, clearing, reading, Answer, told, ended, shown, Held, call, run}
use Rattle.agreement.specs.Machine.{Machine, begin, ran, machine_run}
use Rattle.agreement.specs.Explained.{played, explains_moved, ExplainsRounds}
use Rattle.promises.specs.Demand3Live.{after_opening, Without, ClosesAs}

-- no end is answered this number
unfoldable pub WithoutAtEnd : ℕ → List Answer → Type 0
WithoutAtEnd n [] = Unit {0}
WithoutAtEnd n (told x ∷ rest) = WithoutAtEnd n rest
WithoutAtEnd n (ended (gives r) ∷ rest) = WithoutAtEnd n rest
WithoutAtEnd n (ended (refused x) ∷ rest) = (x ≡ n → ⊥) × WithoutAtEnd n rest
WithoutAtEnd n (shown x out ∷ rest) = WithoutAtEnd n rest

-- what a table is, and what is done to it: of m pans, any table t, any prices p and report d
pub record TableLaws : Type 0 where
  -- "a table of 33 by 33", "place 0 for no pan, row after row, raker after raker": raker k + 1's table among the lent numbers, and the numbers of n rakers' tables
  pub table-at : (ts : List ℤ) (k : ℕ) → table_at ts k ≡ tabulate 33 (λ i. take 33 (drop (i * 33) (take 1089 (drop (k * 1089) ts)))) 0
  pub tables_none : (f : ℕ → List (List ℤ)) → flat_all 0 f ≡ []
  pub tables_next : (n : ℕ) (f : ℕ → List (List ℤ)) → flat_all (suc n) f ≡ flat_all n f ++ flat (f n)
  pub rows_next : (row : List ℤ) (rows : List (List ℤ)) → flat (row ∷ rows) ≡ row ++ flat rows
  -- bids meet a table if no difference of two of them, no pan included, exceeds its number, row less column
  pub meets_is : (m : ℕ) (t : List (List ℤ)) (b : List ℕ) → meets m t b ≡ each m λ i. each m λ j. le_z (sub_ℕ (amount b i) (amount b j)) (entry t i j)
  -- "Every number is then the largest reached, row less column", by bids of 0 to 4,095 that pass; "Places for pans beyond the count hold 0"
  pub largest_is : (m : ℕ) (f : List ℕ → Bool)
      → largest_table m f
      ≡ table_of λ i j. cond (is_beyond m i j) (pos 0) (sub_ℕ (greatest_below 8191 λ k. some_bids m (λ b. f b && eqb (amount b i + 4095) (amount b j + k))) 4095)
  -- "Opening … fills them for all bids of 0 to 4,095"
  pub opening_is : (m : ℕ) → opening m ≡ largest_table m λ b. true
  pub opening_met : (m : ℕ) → m ≤ 32 → (b : List ℕ) → each4095 m b ≡ true → meets m (opening m) b ≡ true
  -- "a move narrows each table to the bids that met it and explain the report, so that it is exactly their demand at the round's rents": those, and no others, meet it
  pub narrowed_is : (m : ℕ) (t : List (List ℤ)) (p : List ℕ) (d : Demand) → narrowed m t p d ≡ largest_table m λ b. meets m t b && same_demand d (demand m p b)
  pub narrowed_met : (m : ℕ) → m ≤ 32 → (t : List (List ℤ)) → table_fits m t ≡ true → (p : List ℕ) → ((i : ℕ) → amount p i ≤ 4095) → (d : Demand)
      → unexplained m t p d ≡ false → (b : List ℕ) → each4095 m b ≡ true → meets m (narrowed m t p d) b ≡ meets m t b && same_demand d (demand m p b)
  -- "A table with another value there, a number beyond −4,095 to 4,095, or no bids of 0 to 4,095 that meet it, counts under 11"
  pub zero-beyond : (m : ℕ) (t : List (List ℤ)) → zero_beyond m t ≡ all_below 33 λ i. all_below 33 λ j. is_beyond m i j ⇒ is_zero (entry t i j)
  pub in-range : (m : ℕ) (t : List (List ℤ)) → in_range m t ≡ each m λ i. each m λ j. le_z (negsuc 4094) (entry t i j) && le_z (entry t i j) (pos 4095)
  pub all-fit : (r : Auction) (ts : List ℤ) → tables_fit r ts ≡ all_below r.bidders λ k. table_fits r.items (table_at ts k)
  pub fits_is : (m : ℕ) (t : List (List ℤ)) → table_fits m t ≡ zero_beyond m t && in_range m t && some_bids m (meets m t)
  -- a report is explained by bids whose demand is the same: no pan alike, and the same pans
  pub same_said : (d e : Demand) → same_demand d e ≡ true → d ≡ e
  pub same_self : (d : Demand) → same_demand d d ≡ true
  -- "19 when no bids of 0 to 4,095 explain the raker's report and also meet the table"
  pub nineteen_is : (m : ℕ) (t : List (List ℤ)) (p : List ℕ) (d : Demand) → unexplained m t p d ≡ not (some_bids m λ b. meets m t b && same_demand d (demand m p b))

-- what a call leaves of the lent tables: "nothing else changes one"
pub record Lent : Type 0 where
  pub filled : (m n : ℕ) (start floors : List ℕ) (lent : List ℤ) → open_above_number m n start floors lent ≡ 0
      → (after_opening m n start floors lent).tables ≡ flat_all n λ k. opening m
  pub by_report : (h : Held) (b : ℕ) (d : Demand) → (call h (reporting b d)).next.tables ≡ h.tables
  pub by_clear : (h : Held) → (call h clearing).next.tables ≡ h.tables
  pub by_read : (h : Held) (out : List ℕ) → (call h (reading out)).next.tables ≡ h.tables
  pub by_end : (h : Held) → (call h ending).next.tables ≡ end_tables h.auction h.tables
  pub by_raise : (r : Auction) (ts : List ℤ) (x : ℕ) → end_answer r ts ≡ gives (raised x)
      → end_tables r ts ≡ flat_all r.bidders λ k. narrowed r.items (table_at ts k) r.prices (place r k)
  pub by_lower : (r : Auction) (ts : List ℤ) (x : ℕ) → end_answer r ts ≡ gives (lowered x)
      → end_tables r ts ≡ flat_all r.bidders λ k. narrowed r.items (table_at ts k) r.prices (place r k)
  pub by_close : (r : Auction) (ts : List ℤ) → end_answer r ts ≡ gives closed → end_tables r ts ≡ ts
  pub by_refusal : (r : Auction) (ts : List ℤ) (x : ℕ) → end_answer r ts ≡ refused x → end_tables r ts ≡ ts

-- "lettings run with their tables from the opening, each call bringing record and tables as the last one left them": of any calls after any opening
module _ (m n : ℕ) (start floors : List ℕ) (lent : List ℤ) (calls : List Call) where
  abbrev opened : Held
  opened = after_opening m n start floors lent

  -- "some bid sheet, let with the opening's starting rents and floors, that explains all reports not cleared": those of every round played, and those that stand
  pub record Explains (s : Sheet) : Type 0 where
    pub within : within_limits s ≡ true
    pub same_items : s.items ≡ m
    pub same_bidders : length s.bids ≡ n
    pub same_start : s.start ≡ start
    pub same_floors : s.floors ≡ floors
    pub rounds : ExplainsRounds s (played opened calls)
    pub standing : let r = (run opened calls).last.auction in (k : ℕ) → k < r.bidders → has_reported r (suc k) ≡ true → nth (demands_at s r.prices) k ≡ place r k

  pub record Coherent : Type 0 where
    -- "a table allows just the bids that explain that raker's reports of the rounds that moved"
    pub allows_just : (k : ℕ) → k < n → (b : List ℕ) → each4095 m b ≡ true
        → meets m (table_at (run opened calls).last.tables k) b ≡ explains_moved m k (played opened calls) b
    -- "16 and 17 never occur", nor does 11, nor 19 at an end
    pub no_eleven : Without 11 (run opened calls).answers
    pub no_sixteen : Without 16 (run opened calls).answers
    pub no_seventeen : Without 17 (run opened calls).answers
    pub no_nineteen : WithoutAtEnd 19 (run opened calls).answers
    -- "its close is that of some bid sheet": there is one that explains it, and each that does is let so, by the plain machine's answers
    pub some_sheet : (s : Sheet) × Explains s
    pub same_answers : (s : Sheet) → Explains s → (t : Machine) × (machine_run s (begin s) calls ≡ ran (run opened calls).answers t)
    pub same_close : (s : Sheet) → Explains s → (run opened calls).last.auction.phase ≡ Closed → ClosesAs s (run opened calls).last.auction

pub record Request107 : Type 0 where
  pub tables : TableLaws
  pub lent : Lent
  pub coherent : (m n : ℕ) (start floors : List ℕ) (lent : List ℤ) → open_above_number m n start floors lent ≡ 0 → (calls : List Call) → Coherent m n start floors lent calls
  -- no call gives 17 any more, whatever record and tables are lent
  pub no_seventeen : (r : Auction) (ts : List ℤ) → end_number r ts ≡ 17 → ⊥
