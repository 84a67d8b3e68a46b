-- What holds of every live list from an opening: the tables allow just the bids that explain, some sheet explains all reports not cleared, the auction is let as every
-- such sheet is, and 11, 16 and 17 never occur, nor 19 at an end. THEORY.md 4. Assumes nothing.
use Prim.Native.Nat.{ℕ, suc, ◌≤◌, ◌<◌}
use mathlib.Core.Path.{◌≡◌, refl, sym, ap, ◌∙◌, subst}
use mathlib.Core.Bool.{Bool, true, false, ◌&&◌, not}
use mathlib.Core.List.{List, [], ◌∷◌, ◌++◌}
use native.Mathlib.Omega.{arith}
use lib.Dec.{eqb}
use lib.ListN.{length}
use lib.IntN.{ℤ}
use borrow.Author.Tests.{ne_eqb}
use Rattle.sets.proofs.Counting.{and_both}
use Rattle.rule.specs.Sheet.{amount, each4095, Sheet}
use Rattle.rule.specs.Closing.{demands_at}
use Rattle.rule.specs.Refusal.{first, most_live_bidders}
use Rattle.rule.proofs.Closing.{closing}
use Rattle.rule.proofs.Limits.{limits, each-make}
use Rattle.rule.proofs.Refusal.{other, past, none-over, floors-fit}
use Rattle.differences.specs.Table.{meets}
use Rattle.differences.specs.Lent.{table_at}
use Rattle.differences.proofs.Laws.{opening_met}
use Rattle.live.specs.Auction.{missing, reports_of, well_formed}
use Rattle.live.specs.Tables.{bad_tables, tables_fit, open_tables}
use Rattle.live.specs.Calls.{is_closed, open_above_number, opened, opened_by, open_above, filled_by, report_number, report, clear_number, clear, end_number, round_by, Ending, gives, refused, end_answer}
use Rattle.live.specs.Reading.{read_number}
use Rattle.live.specs.declared.Auction.{Auction}
use Rattle.live.proofs.Opening.{Opens, tables-exact}
use Rattle.live.proofs.Opening.{opens as opens-within}
use Rattle.agreement.specs.Calls.{Call, reporting, ending, clearing, reading, Answer, ended, Held, call, Ran, run}
use Rattle.agreement.specs.Machine.{Machine, begin, ran, machine_run}
use Rattle.agreement.specs.Agreement.{opened_with, live_run, stands_for, number_of, never, ClosedAs, Agrees}
use Rattle.agreement.specs.Explained.{played, explains_moved, ExplainsRounds, never_at_end, ExplainedBy, LetAs, Coherent}
use Rattle.agreement.proofs.Lent.{open_at}
use Rattle.agreement.proofs.Always.{Sound, never_eleven, above-sound, ended-number}
use Rattle.agreement.proofs.Standing.{missing-is, closed-stands}
use Rattle.agreement.proofs.Agreement.{agreement, good-begin, opened-for}
use Rattle.agreement.proofs.Calling.{same_items, same_bidders}
use Rattle.agreement.proofs.Allowed.{list-allows}
use Rattle.agreement.proofs.Explainable.{Explainable, all-explainable, opened-explainable}
use Rattle.agreement.proofs.Choosing.{chosen_sheet, chosen-suits, chosen-within, rounds-explained, standing-explained, all_told}
use Rattle.agreement.proofs.NeverLeft.{Stays, never-left, all-stand, machine-said}

-- ---- lists of calls, and of refusals

-- one call more
run_more : (h : Held) (xs : List Call) (c : Call) → (run h (xs ++ c ∷ [])).last ≡ (call (run h xs).last c).next
unfolding run
run_more h [] c = refl
run_more h (x ∷ xs) c = run_more (call h x).next xs c

last-items : (h : Held) (calls : List Call) → (run h calls).last.auction.items ≡ h.auction.items
unfolding run
last-items h [] = refl
last-items h (c ∷ calls) = last-items (call h c).next calls ∙ same_items h c

last-bidders : (h : Held) (calls : List Call) → (run h calls).last.auction.bidders ≡ h.auction.bidders
unfolding run
last-bidders h [] = refl
last-bidders h (c ∷ calls) = last-bidders (call h c).next calls ∙ same_bidders h c

-- a number that is none of these: the auction is open and no report is missing
past-fourteen : (r : Auction) (ts : List ℤ) (x : ℕ) → (11 ≡ x → ⊥) → (3 ≡ x → ⊥) → (12 ≡ x → ⊥) → (14 ≡ x → ⊥) → end_number r ts ≡ x → (is_closed r.phase ≡ false) × (missing r ≡ false)
unfolding end_number
past-fourteen r ts x not-11 not-3 not-12 not-14 q =
    let q₁ = past 11 x (not (well_formed r)) _ q not-11 in
    let q₂ = past 3 x (bad_tables r.bidders ts) _ q₁.1 not-3 in
    let q₃ = past 11 x (not (tables_fit r ts)) _ q₂.1 not-11 in
    let q₄ = past 12 x (is_closed r.phase) _ q₃.1 not-12 in
    let q₅ = past 14 x (missing r) _ q₄.1 not-14 in
    (q₄.0, q₅.0)

no_number : (x : ℕ) → first [] ≡ suc x → ⊥
unfolding first
no_number x e = omega (arith, e)

-- ---- an opening that is not turned down

module _ (m n : ℕ) (start floors : List ℕ) (lent : List ℤ) (e : open_above_number m n start floors lent ≡ 0) where
  accepted : Opens m n start floors lent
  accepted = opens-within m n start floors lent e

  starts : each4095 m start ≡ true
  starts = let l = accepted.start-long in each-make m start l (λ k h. none-over start accepted.starts k (omega (arith, h, l)))

  lows : each4095 m floors ≡ true
  lows = let l = accepted.floors-long in each-make m floors l (λ k h. (floors-fit start floors accepted.lows).1 k (omega (arith, h, l)))

  low : (k : ℕ) → k < m → amount floors (suc k) ≤ amount start (suc k)
  unfolding amount
  low k h = (floors-fit start floors accepted.lows).0 k

  abbrev opens : Held
  opens = opened_with m n start floors lent

  opens-is : opened_with m n start floors lent ≡ record { auction = opened m n start floors; tables = open_tables m n }
  unfolding opened_with open_above opened_by filled_by
  opens-is = ap (λ (x : ℕ). record { auction = (opened_by x m n start floors).next; tables = filled_by x m n lent }) e

  sound : Sound (opened_with m n start floors lent)
  unfolding open_above opened_by
  sound = above-sound m n start floors lent (ap (λ (x : ℕ). (opened_by x m n start floors).number) e)

  items-is : opens.auction.items ≡ m
  items-is = ap (λ (h : Held). h.auction.items) opens-is ∙ (unfold opened in refl)

  bidders-is : opens.auction.bidders ≡ n
  bidders-is = ap (λ (h : Held). h.auction.bidders) opens-is ∙ (unfold opened in refl)

  explainable : (calls : List Call) → Explainable (run opens calls).last
  explainable calls = all-explainable opens sound (subst Explainable (sym opens-is) (opened-explainable m n start floors accepted.max_items)) calls

  module _ (calls : List Call) where
    abbrev z : Held
    z = (run opens calls).last

    items-last : z.auction.items ≡ m
    items-last = last-items opens calls ∙ items-is

    bidders-last : z.auction.bidders ≡ n
    bidders-last = last-bidders opens calls ∙ bidders-is

    -- ---- the tables

    just : (k : ℕ) → k < n → (b : List ℕ) → each4095 m b ≡ true → meets m (table_at z.tables k) b ≡ explains_moved m k (played opens calls) b
    just k l b q =
        list-allows m n opens sound items-is bidders-is calls k l b q
        ∙ ap (λ (x : Bool). x && explains_moved m k (played opens calls) b)
        (ap (λ (h : Held). meets m (table_at h.tables k) b) opens-is ∙ ap (λ (t : List (List ℤ)). meets m t b) (open_at m n k l) ∙ opening_met m accepted.max_items b q)

    -- ---- a sheet that explains

    abbrev chosen : Sheet
    chosen = chosen_sheet m n start floors z items-last bidders-last (explainable calls)

    explained : ExplainedBy m n start floors lent calls chosen
    explained =
        let a = accepted in
        let suits = chosen-suits m n start floors z items-last bidders-last (explainable calls) in
        record {
          within = chosen-within m n start floors z items-last bidders-last (explainable calls) a.some_item a.max_items a.some-bidder (omega (arith, a.max_bidders)) starts lows low;
          same_items = refl;
          same_bidders = sym (sym bidders-last ∙ suits.bidders);
          same_start = refl;
          same_floors = refl;
          rounds = rounds-explained chosen opens sound items-is (bidders-is ∙ sym bidders-last ∙ suits.bidders) calls suits;
          standing = standing-explained chosen z suits;
        }

    -- ---- and the auction is let as it is

    module _ (s : Sheet) (x : ExplainedBy m n start floors lent calls s) where
      -- the opening, by the sheet
      same-opening : opened_with s.items (length s.bids) s.start s.floors lent ≡ opened_with m n start floors lent
      same-opening =
          ap (λ (y : ℕ). opened_with y (length s.bids) s.start s.floors lent) x.same_items
          ∙ ap (λ (y : ℕ). opened_with m y s.start s.floors lent) x.same_bidders
          ∙ ap (λ (y : List ℕ). opened_with m n y s.floors lent) x.same_start
          ∙ ap (λ (y : List ℕ). opened_with m n start y lent) x.same_floors

      lent_fits : bad_tables (length s.bids) lent ≡ false
      lent_fits = ap (λ (y : ℕ). bad_tables y lent) x.same_bidders ∙ tables-exact n lent accepted.lent-long

      few : length s.bids ≤ most_live_bidders
      few = omega (arith, accepted.max_bidders, x.same_bidders)

      stays : (t : Machine) × (machine_run s (begin s) calls ≡ ran (run opens calls).answers t)
      unfolding Stays
      stays =
          let lim = limits s x.within in
          let o : opened_with m n start floors lent ≡ _ = sym same-opening ∙ opened-for s lim few lent lent_fits in
          let w = never-left s lim (closing s x.within) (begin s) (good-begin s lim) (subst Sound o sound) calls (subst (λ (h : Held). ExplainsRounds s (played h calls)) o x.rounds) in
          (w.0, w.1 ∙ ap (λ (h : Held). ran (run h calls).answers w.0) (sym o))

      agrees : Agrees s lent calls (run opens calls).answers stays.0
      agrees = agreement s x.within few lent lent_fits calls (run opens calls).answers stays.0 stays.1

      live-is : live_run s lent calls ≡ run opens calls
      unfolding live_run
      live-is = ap (λ (h : Held). run h calls) same-opening

      let_as : LetAs m n start floors lent calls s
      let_as =
          record {
            after = stays.0;
            stays = stays.1;
            closes = λ shut. subst (λ (y : Ran). ClosedAs s y.last.auction) live-is
                (agrees.as_the_sheet (agrees.closed_only (ap (λ (y : Ran). y.last.auction.phase) live-is ∙ shut)));
          }

      -- an end that finds the auction open and no report missing is not turned down
      not_refused : is_closed z.auction.phase ≡ false → missing z.auction ≡ false → end_number z.auction z.tables ≡ 0
      not_refused free full =
          let lim = limits s x.within in
          let t = stays.0 in
          let o : z.auction ≡ stands_for s t = ap (λ (y : Ran). y.last.auction) (sym live-is) ∙ agrees.same_record in
          ap (λ (y : Ran). end_number y.last.auction y.last.tables) (sym live-is)
          ∙ agrees.not_refused (sym (closed-stands s t) ∙ ap (λ (r : Auction). is_closed r.phase) (sym o) ∙ free)
          (all-stand s lim t (sym (missing-is s t lim) ∙ ap missing (sym o) ∙ full)
          (machine-said s lim t (subst (λ (r : Auction). demands_at s r.prices ≡ reports_of r) o (all_told s z.auction (bidders-last ∙ sym x.same_bidders) full x.standing))))

    -- ---- an end gets no number but 12 and 14

    late : (x : ℕ) → (11 ≡ suc x → ⊥) → (3 ≡ suc x → ⊥) → (12 ≡ suc x → ⊥) → (14 ≡ suc x → ⊥) → end_number z.auction z.tables ≡ suc x → ⊥
    late x not-11 not-3 not-12 not-14 q =
        let w = past-fourteen z.auction z.tables (suc x) not-11 not-3 not-12 not-14 q in
        let none = not_refused chosen explained w.0 w.1 in
        omega (arith, none, q)

  -- ---- numbers that no answer of a list has

  -- 16 and 17: of all calls only an end can get them
  module _ (x : ℕ) (least : 15 ≤ x) (most : x ≤ 16) where
    not-called : (calls : List Call) (c : Call) → number_of (call (run opens calls).last c).answer ≡ suc x → ⊥
    unfolding call report clear end_answer report_number clear_number read_number number_of
    not-called calls (reporting b d) q =
        other 11 (suc x) _ _ (λ w. omega (arith, w, least)) (other 3 (suc x) _ _ (λ w. omega (arith, w, least)) (other 11 (suc x) _ _ (λ w. omega (arith, w, least))
        (other 12 (suc x) _ _ (λ w. omega (arith, w, least)) (other 7 (suc x) _ _ (λ w. omega (arith, w, least)) (other 13 (suc x) _ _ (λ w. omega (arith, w, least))
        (other 8 (suc x) _ _ (λ w. omega (arith, w, least)) (other 19 (suc x) _ _ (λ w. omega (arith, w, most)) (no_number x)))))))) q
    not-called calls ending q =
        late calls x (λ w. omega (arith, w, least)) (λ w. omega (arith, w, least)) (λ w. omega (arith, w, least)) (λ w. omega (arith, w, least))
        (sym (ended-number (end_number (z calls).auction (z calls).tables) (round_by (z calls).auction)) ∙ q)
    not-called calls clearing q = other 11 (suc x) _ _ (λ w. omega (arith, w, least)) (other 12 (suc x) _ _ (λ w. omega (arith, w, least)) (no_number x)) q
    not-called calls (reading out) q =
        other 11 (suc x) _ _ (λ w. omega (arith, w, least)) (other 15 (suc x) _ _ (λ w. omega (arith, w, least)) (other 3 (suc x) _ _ (λ w. omega (arith, w, least)) (no_number x))) q

    -- call by call: those of xs are past
    never-after : (xs calls : List Call) → never (suc x) (run (run opens xs).last calls).answers ≡ true
    unfolding run never
    never-after xs [] = refl
    never-after xs (c ∷ calls) =
        and_both (not (eqb (number_of (call (z xs) c).answer) (suc x))) (never (suc x) (run (call (z xs) c).next calls).answers)
        (ap not (ne_eqb (number_of (call (z xs) c).answer) (suc x) (not-called xs c)))
        (subst (λ (w : Held). never (suc x) (run w calls).answers ≡ true) (run_more opens xs c) (never-after (xs ++ c ∷ []) calls))

    never-late : (calls : List Call) → never (suc x) (run opens calls).answers ≡ true
    unfolding run
    never-late calls = never-after [] calls

  -- 19 at an end
  not-ended : (n : ℕ) (e : Ending) (rest : List Answer) → (number_of (ended e) ≡ n → ⊥) → never_at_end n rest ≡ true → never_at_end n (ended e ∷ rest) ≡ true
  unfolding never_at_end number_of
  not-ended n (gives r) rest ne h = h
  not-ended n (refused x) rest ne h = and_both (not (eqb x n)) (never_at_end n rest) (ap not (ne_eqb x n ne)) h

  ends-after : (xs calls : List Call) → never_at_end 19 (run (run opens xs).last calls).answers ≡ true
  unfolding run
  ends-after xs [] = unfold never_at_end in refl
  ends-after xs (c ∷ calls) = one c (subst (λ (w : Held). never_at_end 19 (run w calls).answers ≡ true) (run_more opens xs c) (ends-after (xs ++ c ∷ []) calls))
    where
      nineteen : number_of (ended (end_answer (z xs).auction (z xs).tables)) ≡ 19 → ⊥
      nineteen q =
          late xs 18 (λ w. omega (arith, w)) (λ w. omega (arith, w)) (λ w. omega (arith, w)) (λ w. omega (arith, w))
          (sym (ended-number (end_number (z xs).auction (z xs).tables) (round_by (z xs).auction)) ∙ (unfold end_answer in q))

      one : (c : Call) → never_at_end 19 (run (call (z xs) c).next calls).answers ≡ true → never_at_end 19 ((call (z xs) c).answer ∷ (run (call (z xs) c).next calls).answers) ≡ true
      one (reporting b d) h = unfold call never_at_end in h
      one ending h = unfold call in not-ended 19 (end_answer (z xs).auction (z xs).tables) (run (call (z xs) ending).next calls).answers nineteen h
      one clearing h = unfold call never_at_end in h
      one (reading out) h = unfold call never_at_end in h

  never-nineteen : (calls : List Call) → never_at_end 19 (run opens calls).answers ≡ true
  unfolding run
  never-nineteen calls = ends-after [] calls

-- ---- the claim about every list

pub coherent : (m n : ℕ) (start floors : List ℕ) (lent : List ℤ) → open_above_number m n start floors lent ≡ 0 → (calls : List Call) → Coherent m n start floors lent calls
coherent m n start floors lent e calls =
    record {
      allows_just = just m n start floors lent e calls;
      sheet = chosen m n start floors lent e calls;
      explained = explained m n start floors lent e calls;
      let_as = let_as m n start floors lent e calls;
      no_eleven = never_eleven (opened_with m n start floors lent) (sound m n start floors lent e) calls;
      no_sixteen = never-late m n start floors lent e 15 (omega arith) (omega arith) calls;
      no_seventeen = never-late m n start floors lent e 16 (omega arith) (omega arith) calls;
      no_nineteen = never-nineteen m n start floors lent e calls;
    }
