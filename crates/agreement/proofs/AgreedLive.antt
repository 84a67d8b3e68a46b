-- What the instances of `Agreed` say of the live auction, by the theorem: its answers are the machine's, and its last record and tables are those that stand for the
-- machine's last state, whatever tables of the right length are lent at the opening. Assumes nothing.
use mathlib.Core.Path.{◌≡◌, refl, ap, ◌∙◌, subst}
use mathlib.Core.Bool.{Bool, true, false}
use mathlib.Core.List.{List, [], ◌∷◌}
use lib.IntN.{ℤ}
use lib.ListN.{length}
use Rattle.rule.specs.Sheet.{Sheet, price_sum}
use Rattle.rule.specs.Refusal.{on, first, bad_items, bad_live_bidders, bad_length, any_over, any_under, bad_floors}
use Rattle.rule.specs.Closing.{Closing}
use Rattle.rule.proofs.Limits.{Limits}
use Rattle.differences.specs.Lent.{flat_all}
use Rattle.round.specs.Reports.{reports}
use Rattle.reports.specs.Report.{saying}
use Rattle.live.specs.Auction.{place, has_reported, missing, reports_of, items_above, rising_set, falling_set, counts_fit, prices_fit, unused_prices, floors_fit, from_floors, unused_floors, unused_places, unused_bits, reported_fit, others_empty, rounds_fit, close_fits, well_formed}
use Rattle.live.specs.Tables.{bad_tables, open_tables}
use Rattle.live.specs.Calls.{open_above_number, opened, unopened, opened_by, open_above, filled_by, clear_number, cleared, clear}
use Rattle.live.specs.Reading.{read_number, names_of, sheet_of, read_bytes}
use Rattle.live.specs.declared.Phase.TheVariants.{Rising, Closed}
use Rattle.live.specs.declared.Auction.{Auction}
use Rattle.agreement.specs.Calls.{Call, reporting, ending, clearing, reading, Answer, told, Held, Answered, call, Ran, run}
use Rattle.agreement.specs.Machine.{Machine, begin, answers}
use Rattle.agreement.specs.Agreement.{opened_with, opening_of, live_run, tables_of, held_for}
use Rattle.agreement.proofs.Always.{Sound, keeps}
use Rattle.agreement.proofs.Follows.{Good, Follows}
use Rattle.agreement.proofs.Agreement.{follows, agreement}
use Rattle.agreement.proofs.Agreed.{computing, Answers, calls_of, answers_of, Goes, done, goes, goes-run, Agreed, holding, one, one_list, last_one, closed_one, closes, read_one, opened_one, eight, null_one, accepts-null, zero-bid, zero_list, closed_zero, no_item, with-it, six, six_list, raised_six, raises, floor2, floored_list, closed_floor, floored}

-- the definitions that a read computes with, beside those of `Agreed`
unfoldable pub reading-too : Unit {0}
unfolding price_sum bad_items bad_live_bidders any_over any_under reports place has_reported missing reports_of items_above rising_set falling_set counts_fit prices_fit unused_prices floors_fit from_floors unused_floors unused_places unused_bits reported_fit others_empty rounds_fit close_fits well_formed read_number names_of sheet_of read_bytes call run
reading-too = tt

-- and an opening with floors
opening-too : Unit {0}
unfolding open_above_number bad_length bad_floors opened unopened opened_by open_above filled_by opened_with live_run
opening-too = tt

-- ---- from the opening

pub record Live (s : Sheet) (lent : List ℤ) (xs : Answers) (v : Machine) (r : Auction) : Type 0 where
  pub opens : (opening_of s lent).number ≡ 0
  pub answers : (live_run s lent (calls_of xs)).answers ≡ answers_of xs
  pub auction : (live_run s lent (calls_of xs)).last.auction ≡ r
  pub tables : (live_run s lent (calls_of xs)).last.tables ≡ flat_all (length s.bids) v.tables

pub live : (s : Sheet) (xs : Answers) (v : Machine) (r : Auction) → Agreed s xs v r → (lent : List ℤ) → bad_tables (length s.bids) lent ≡ false → Live s lent xs v r
unfolding tables_of
live s xs v r a lent fit =
    let w = agreement s a.within a.few lent fit (calls_of xs) (answers_of xs) v (goes-run s (begin s) xs v a.answered) in
    record { opens = w.opens; answers = w.same_answers; auction = w.same_record ∙ a.holds; tables = w.same_tables }

-- ---- from what is held for any state that the machine may reach

parts : {s : Sheet} (a : Answered) (b : Answer) (u : Machine) → Follows s a (answers b u) → (a.answer ≡ b) × (a.next ≡ held_for s u) × Good s u
unfolding Follows
parts a b u h = h

module _ (s : Sheet) (lim : Limits s) (c : Closing s) where
  pub live-from : (t : Machine) → Good s t → Sound (held_for s t) → (xs : Answers) (v : Machine) → Goes s t xs v
      → run (held_for s t) (calls_of xs) ≡ record { answers = answers_of xs; last = held_for s v }
  unfolding run
  live-from t g w xs v done = refl
  live-from t g w xs v (goes {u = u} {c = x} {a = a} {xs = ys} e h) =
      let f : Follows s (call (held_for s t) x) (answers a u) = subst (Follows s (call (held_for s t) x)) e (follows s lim c t g (unfold held_for in w.well-formed) x) in
      let p = parts (call (held_for s t) x) a u f in
      let rest : run (held_for s u) (calls_of ys) ≡ record { answers = answers_of ys; last = held_for s v } = live-from u p.2 (subst Sound p.1 (keeps (held_for s t) w x)) ys v h in
      ap (λ (y : Answer). record { answers = y ∷ (run (call (held_for s t) x).next (calls_of ys)).answers; last = (run (call (held_for s t) x).next (calls_of ys)).last }) p.0
      ∙ ap (λ (k : Held). record { answers = a ∷ (run k (calls_of ys)).answers; last = (run k (calls_of ys)).last }) p.1
      ∙ ap (λ (k : Ran). record { answers = a ∷ k.answers; last = k.last }) rest

-- ---- what an opening holds, by computation: the sheet's floors, and the opening's tables, whatever was lent

pub opens-floored : (lent : List ℤ) → bad_tables 1 lent ≡ false → (live_run floor2 lent []).last.auction ≡ holding 1 1 (3 ∷ []) (2 ∷ []) [] 0 0 Rising 0 0
unfolding computing reading-too opening-too
opens-floored lent fit = ap (λ (x : Bool). (opened_by (first (on 3 x ∷ [])) 1 1 (3 ∷ []) (2 ∷ [])).next) fit

pub opens-filled : (lent : List ℤ) → bad_tables 1 lent ≡ false → (live_run floor2 lent []).last.tables ≡ open_tables 1 1
unfolding computing reading-too opening-too
opens-filled lent fit = ap (λ (x : Bool). filled_by (first (on 3 x ∷ [])) 1 1 lent) fit

-- ---- the instances

module _ (lent : List ℤ) (fit : bad_tables 1 lent ≡ false) where
  pub live-closes : Live one lent one_list last_one closed_one
  live-closes = live one one_list last_one closed_one closes lent fit

  pub live-eight : Live one lent ((reporting 1 (saying true 2), told 8) ∷ []) opened_one (holding 1 1 (1 ∷ []) [] [] 0 0 Rising 0 0)
  live-eight = live one _ _ _ eight lent fit

  pub live-accepts : Live one lent ((reporting 1 (saying true 0), told 0) ∷ []) null_one (holding 1 1 (1 ∷ []) [] [] 1 1 Rising 0 0)
  live-accepts = live one _ _ _ accepts-null lent fit

  pub live-no-item : Live zero-bid lent zero_list closed_zero (holding 1 1 (0 ∷ []) [] [] 1 1 Closed 0 0)
  live-no-item = live zero-bid _ _ _ no_item lent fit

  pub live-with-it : Live zero-bid lent ((reporting 1 (saying true 1), told 19) ∷ []) (begin zero-bid) (holding 1 1 (0 ∷ []) [] [] 0 0 Rising 0 0)
  live-with-it = live zero-bid _ _ _ with-it lent fit

  pub live-floored : Live floor2 lent floored_list closed_floor (holding 1 1 (2 ∷ []) (2 ∷ []) (0 ∷ []) 1 1 Closed 0 1)
  live-floored = live floor2 _ _ _ floored lent fit

pub live-raises : (lent : List ℤ) → bad_tables 3 lent ≡ false → Live six lent six_list raised_six (holding 2 3 (4 ∷ 5 ∷ []) [] [] 0 0 Rising 1 0)
live-raises lent fit = live six _ _ _ raises lent fit

-- a read of the closed record writes the lines that the machine's does, whatever tables are held beside it
pub live-reads : (ts : List ℤ) → run (record { auction = closed_one; tables = ts }) (calls_of read_one) ≡ record { answers = answers_of read_one; last = record { auction = closed_one; tables = ts } }
unfolding computing reading-too
live-reads ts = refl

-- and a clear of a record in which a report stands hands back one in which none does
pub live-clears : (ts : List ℤ)
    → run (record { auction = holding 1 1 (1 ∷ []) [] [] 1 1 Rising 0 0; tables = ts }) (clearing ∷ [])
    ≡ record { answers = told 0 ∷ []; last = record { auction = holding 1 1 (1 ∷ []) [] [] 0 0 Rising 0 0; tables = ts } }
unfolding computing reading-too clear_number cleared clear
live-clears ts = refl

-- no call but an end changes a table
pub only_end : (h : Held) (c : Call) → (c ≡ ending → ⊥) → (call h c).next.tables ≡ h.tables
unfolding call
only_end h (reporting b d) ne = refl
only_end h ending ne = absurd (ne refl)
only_end h clearing ne = refl
only_end h (reading out) ne = refl
