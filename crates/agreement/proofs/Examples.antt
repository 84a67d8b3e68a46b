-- Document 02's examples for #107, beside document 01's for 16 and 17. Assumes nothing.
use Prim.Native.Nat.{ℕ, zero, suc, ◌≤◌}
use mathlib.Core.Path.{◌≡◌, refl, sym, ap, ◌∙◌}
use mathlib.Core.Bool.{Bool, true, false, ◌||◌}
use mathlib.Core.List.{List, [], ◌∷◌}
use native.Mathlib.Omega.{arith}
use lib.IntN.{ℤ}
use lib.ListN.{length}
use Rattle.sets.proofs.Counting.{and_both, not-both}
use Rattle.rule.specs.Sheet.{amount, Sheet, within_limits}
use Rattle.rule.specs.Round.{lowered}
use Rattle.rule.specs.Closing.{round_of}
use Rattle.rule.specs.Refusal.{on, first}
use Rattle.rule.proofs.Limits.{limits}
use Rattle.rule.proofs.Closing.{closing}
use Rattle.reports.specs.Report.{saying}
use Rattle.differences.specs.Table.{meets}
use Rattle.differences.specs.Table.{opening as openingTable}
use Rattle.differences.specs.Allowed.{explains, allows, narrowed, unexplained}
use Rattle.differences.proofs.Laws.{opening_met, opening-table-fits, explained-by, narrow-meets}
use Rattle.live.specs.Auction.{well_formed}
use Rattle.live.specs.Tables.{bad_tables, open_tables}
use Rattle.live.specs.Calls.{gives, refused}
use Rattle.live.specs.declared.Auction.{Auction}
use Rattle.live.specs.declared.Phase.TheVariants.{Rising, Falling}
use Rattle.agreement.specs.Calls.{reporting, ending, told, ended, Held, run}
use Rattle.agreement.specs.Machine.{Standing, none, Machine, begin, unexplained_by, turned}
use Rattle.agreement.specs.Agreement.{opened_with, live_run, stands_for, tables_of, held_for}
use Rattle.agreement.proofs.Nineteen.{allows-parts, none-explain, bid-most, item-alone, null-alone}
use Rattle.agreement.proofs.Tabled.{Tabled, tables_long, tables-fit}
use Rattle.agreement.proofs.Along.{lowered-closed}
use Rattle.agreement.proofs.Always.{Sound}
use Rattle.agreement.proofs.Follows.{Good, held-by}
use Rattle.agreement.proofs.Agreed.{computing, Answers, calls_of, answers_of, Goes, goes, done, Agreed, holding, tables0, tables1, is-nineteen, own, at_first, five, five_with, sixteen_list, sixteen_standing, sixteen, sixteen-holds}
use Rattle.agreement.proofs.AgreedLive.{reading-too, Live, live, live-from}

-- ---- "One pan at 5, two rakers report no pan, the rent falls to 4": now the first report of the pan alone gives 19

abbrev pub nineteen_list : Answers
nineteen_list =
    (reporting 1 (saying true 0), told 0)
    ∷ (reporting 2 (saying true 0), told 0)
    ∷ (ending, ended (gives (lowered 1)))
    ∷ (reporting 1 (saying false 1), told 19)
    ∷ []

-- the record as it then stands: falling, price 4, 0 raised, 1 lowered, no reports
abbrev pub fallen_five : Auction
fallen_five = holding 1 2 (4 ∷ []) [] [] 0 0 Falling 0 1

-- and the machine's state: its tables are narrowed by null alone at 5
abbrev pub fallen : Machine
fallen = five_with (λ i. none) (tables1 1 (5 ∷ []) (saying true 0 ∷ saying true 0 ∷ []))

five-within : within_limits five ≡ true
unfolding computing
five-within = refl

null-known : unexplained 1 (openingTable 1) (5 ∷ []) (saying true 0) ≡ false
unfolding computing allows explains
null-known =
    explained-by 1 (openingTable 1) (5 ∷ []) (saying true 0) (0 ∷ []) refl (and_both (meets 1 (openingTable 1) (0 ∷ [])) true (opening_met 1 (omega arith) (0 ∷ []) refl) refl)

five-low : (i : ℕ) → amount (5 ∷ []) i ≤ 4095
unfolding amount
five-low zero = omega arith
five-low (suc zero) = omega arith
five-low (suc (suc k)) = omega arith

-- bids that meet the narrowed table are at most 4, and the item alone at 4 asks for 5
item-unexplained : unexplained 1 (narrowed 1 (openingTable 1) (5 ∷ []) (saying true 0)) (4 ∷ []) (saying false 1) ≡ true
item-unexplained =
    none-explain 1 (narrowed 1 (openingTable 1) (5 ∷ []) (saying true 0)) (4 ∷ []) (saying false 1)
    (λ b q met h.
    let before = narrow-meets 1 (omega arith) (openingTable 1) (opening-table-fits 1 (omega arith)) (5 ∷ []) five-low (saying true 0) null-known b q in
    let most = null-alone 5 b (allows-parts 1 (openingTable 1) (5 ∷ []) (saying true 0) b (sym before ∙ met)).1 in
    let least = item-alone 4 b h in
    omega (arith, most, least))

fallen-nineteen : unexplained_by five fallen 0 (saying false 1) ≡ true
unfolding computing unexplained_by
fallen-nineteen = item-unexplained

pub first-report-nineteen : Agreed five nineteen_list fallen fallen_five
unfolding computing
first-report-nineteen =
    record {
      within = refl;
      few = omega arith;
      answered =
          goes (own five five-within (begin five) _ (at_first five five-within) 0 (omega arith) (saying true 0) refl)
          (goes (own five five-within _ _ (at_first five five-within) 1 (omega arith) (saying true 0) refl)
          (goes refl
          (goes (is-nineteen (unexplained_by five fallen 0 (saying false 1)) fallen _ fallen-nineteen)
          done)));
      holds = refl;
    }

-- and so does the live auction, whatever tables of the right length are lent at its opening
module _ (lent : List ℤ) (fit : bad_tables 2 lent ≡ false) where
  live-nineteen : Live five lent nineteen_list fallen fallen_five
  live-nineteen = live five nineteen_list fallen fallen_five first-report-nineteen lent fit

  pub first-report-answers : (run (opened_with 1 2 (5 ∷ []) (0 ∷ []) lent) (calls_of nineteen_list)).answers ≡ answers_of nineteen_list
  unfolding live_run
  first-report-answers = live-nineteen.answers

  pub first-report-record : (run (opened_with 1 2 (5 ∷ []) (0 ∷ []) lent) (calls_of nineteen_list)).last.auction ≡ fallen_five
  unfolding live_run
  first-report-record = live-nineteen.auction

-- if both reports stood all the same, the end would be told 19, and not 16
abbrev standing_fallen : Machine
standing_fallen = five_with sixteen_standing (tables1 1 (5 ∷ []) (saying true 0 ∷ saying true 0 ∷ []))

second-unexplained : unexplained_by five standing_fallen 1 (saying false 1) ≡ true
unfolding computing unexplained_by
second-unexplained = item-unexplained

pub nineteen-before-sixteen : Goes five standing_fallen ((ending, ended (refused 19)) ∷ []) standing_fallen
unfolding computing
nineteen-before-sixteen =
    goes
    (ap (λ (x : Bool). turned (first (on 19 (x || (unexplained_by five standing_fallen 0 (saying false 1) || false)) ∷ on 16 true ∷ [])) standing_fallen) second-unexplained)
    done

-- ---- with that record, and tables filled anew lent from there on, both reports of the pan alone stand, and the end gives 16

abbrev anew : Machine
anew = five_with (λ i. none) (tables0 1)

five-tabled : Tabled five (tables0 1)
unfolding computing
five-tabled = at_first five five-within

lowers-first : round_of five 0 ≡ lowered 1
unfolding computing
lowers-first = refl

anew-good : Good five anew
anew-good =
    record {
      not_before = λ k l e. let z : k ≡ 0 = omega arith in lowered-closed 1 (sym lowers-first ∙ ap (round_of five) (sym z) ∙ e);
      at_close = λ e. absurd (not-both false e refl);
      tabled = five-tabled;
    }

anew-holds : stands_for five anew ≡ fallen_five
unfolding computing
anew-holds = refl

anew-tables : (standing : ℕ → Standing) → tables_of five (five_with standing (tables0 1)) ≡ open_tables 1 2
unfolding tables_of open_tables
anew-tables standing = refl

anew-sound : Sound (held_for five anew)
unfolding held_for
anew-sound =
    record {
      placed = ap (λ (r : Auction). length r.sets) anew-holds ∙ (unfold computing in refl);
      floored = ap (λ (r : Auction). length r.floors) anew-holds ∙ (unfold computing in refl);
      well-formed = ap well_formed anew-holds ∙ (unfold computing reading-too in refl);
      long = unfold stands_for in tables_long five anew five-tabled;
      fit = tables-fit five anew five-tabled;
    }

pub sixteen_anew : run (record { auction = fallen_five; tables = open_tables 1 2 }) (calls_of sixteen_list)
    ≡ record { answers = answers_of sixteen_list; last = record { auction = holding 1 2 (4 ∷ []) [] (1 ∷ 1 ∷ []) 0 3 Falling 0 1; tables = open_tables 1 2 } }
unfolding held_for
sixteen_anew =
    ap (λ (h : Held). run h (calls_of sixteen_list)) (sym (held-by (stands_for five anew) fallen_five (tables_of five anew) (open_tables 1 2) anew-holds (anew-tables (λ i. none))))
    ∙ live-from five (limits five five-within) (closing five five-within) anew anew-good anew-sound sixteen_list (five_with sixteen_standing (tables0 1)) sixteen
    ∙ ap (λ (h : Held). record { answers = answers_of sixteen_list; last = h })
    (held-by (stands_for five (five_with sixteen_standing (tables0 1))) _ (tables_of five (five_with sixteen_standing (tables0 1))) (open_tables 1 2) sixteen-holds (anew-tables sixteen_standing))

-- ---- "One pan at 4,095": the first report of it alone gives 19, for it asks for a bid of 4,096

abbrev pub top : Sheet
top = record { items = 1; start = 4095 ∷ []; floors = 0 ∷ []; bids = (0 ∷ []) ∷ (0 ∷ []) ∷ [] }

top-unexplained : unexplained_by top (begin top) 0 (saying false 1) ≡ true
unfolding computing unexplained_by
top-unexplained =
    none-explain 1 (openingTable 1) (4095 ∷ []) (saying false 1) (λ b q met h. let most = bid-most b q in let least = item-alone 4095 b h in omega (arith, most, least))

abbrev pub seventeen_list : Answers
seventeen_list = (reporting 1 (saying false 1), told 19) ∷ []

pub seventeen_nineteen : Agreed top seventeen_list (begin top) (holding 1 2 (4095 ∷ []) [] [] 0 0 Rising 0 0)
unfolding computing
seventeen_nineteen =
    record {
      within = refl;
      few = omega arith;
      answered = goes (is-nineteen (unexplained_by top (begin top) 0 (saying false 1)) (begin top) _ top-unexplained) done;
      holds = refl;
    }

pub seventeen-answers : (lent : List ℤ) → bad_tables 2 lent ≡ false → (run (opened_with 1 2 (4095 ∷ []) (0 ∷ []) lent) (calls_of seventeen_list)).answers ≡ answers_of seventeen_list
unfolding live_run
seventeen-answers lent fit = (live top seventeen_list (begin top) _ seventeen_nineteen lent fit).answers
