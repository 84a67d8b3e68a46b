-- The agreement of the live auction with the plain machine, over the whole list. Assumes nothing.
use Prim.Native.Nat.{ℕ, suc, ◌≤◌, ◌<◌}
use mathlib.Core.Path.{◌≡◌, refl, sym, ap, ◌∙◌, subst}
use mathlib.Core.Bool.{Bool, true, false}
use mathlib.Core.List.{List, [], ◌∷◌}
use native.Mathlib.Omega.{arith}
use native.Mathlib.Nat.{not-suc-le-zero}
use native.Mathlib.Decide.{dec_le}
use lib.ListN.{length}
use lib.IntN.{ℤ}
use Rattle.rule.specs.Sheet.{amount, Sheet, within_limits}
use Rattle.rule.specs.Round.{closed, path, after, opening}
use Rattle.rule.specs.Closing.{round_of, Closing}
use Rattle.rule.specs.Refusal.{bad_items, most_live_bidders, bad_live_bidders}
use Rattle.rule.proofs.Limits.{Limits, limits}
use Rattle.rule.proofs.Closing.{closing}
use Rattle.rule.proofs.Refusal.{range-in, over-range, under-not}
use Rattle.sets.proofs.Counting.{not-both}
use Rattle.live.specs.Auction.{well_formed}
use Rattle.live.specs.Tables.{bad_tables}
use Rattle.live.specs.Calls.{is_closed, open_above_number, opened, unopened, opened_by, open_above, filled_by, end_number, end_answer}
use Rattle.live.specs.declared.Auction.{Auction}
use Rattle.live.specs.declared.Phase.TheVariants.{Closed}
use Rattle.live.specs.declared.Reply.{Reply}
use Rattle.live.proofs.Opening.{tables-exact, tables_long, two, no_number, accepts}
use Rattle.live.proofs.Parts.{by_parts}
use Rattle.agreement.specs.Calls.{Call, reporting, ending, clearing, reading, Answer, Held, Answered, call, Ran, run}
use Rattle.agreement.specs.Machine.{Machine, begin, at, phase, phase_of, Outcome, answers, leaves, machine, MachineRan, ran, left, behind, machine_run}
use Rattle.agreement.specs.Agreement.{opened_with, opening_of, live_run, stands_for, tables_of, held_for, all_rounds, never, ClosedAs, Agrees}
use Rattle.agreement.proofs.Along.{closes_at, not-sooner}
use Rattle.live.proofs.Formed.{not-any-over}
use Rattle.agreement.proofs.Always.{Sound, keeps, keeps-all, never_eleven, above-sound}
use Rattle.agreement.proofs.Counted.{rounds_are}
use Rattle.agreement.proofs.Follows.{Good, held-by, Follows, no-nulls, no-reported, no-sets}
use Rattle.agreement.proofs.Tabled.{begin-tabled, begin-tables}
use Rattle.agreement.proofs.Tabled.{tables_long as joined-long}
use Rattle.agreement.proofs.Standing.{closed-stands}
use Rattle.agreement.proofs.Reporting.{report-follows, clear-follows}
use Rattle.agreement.proofs.Ending.{end-follows, not_refused, next_round}
use Rattle.agreement.proofs.Reading.{read-follows, closed_as}

-- what following an answer says
parts : {s : Sheet} (a : Answered) (b : Answer) (u : Machine) → Follows s a (answers b u) → (a.answer ≡ b) × (a.next ≡ held_for s u) × Good s u
unfolding Follows
parts a b u h = h

module _ (s : Sheet) (lim : Limits s) where
  -- ---- at first

  pub good-begin : Good s (begin s)
  unfolding begin
  good-begin = record { not_before = λ k l. absurd (not-suc-le-zero l); at_close = λ h. absurd (not-both false h refl); tabled = begin-tabled s lim }

  -- ---- one call, and the list

  module _ (c : Closing s) where
    pub follows : (t : Machine) → Good s t → well_formed (stands_for s t) ≡ true → (x : Call) → Follows s (call (held_for s t) x) (machine s t x)
    follows t g w (reporting b d) = report-follows s t g w lim b d
    follows t g w ending = end-follows s lim c t g w
    follows t g w clearing = clear-follows s t g w
    follows t g w (reading out) = read-follows s lim c t g w out

    -- the runs side by side
    abbrev Matches : Ran → MachineRan → Type 0
    Matches a (ran xs u) = (a.answers ≡ xs) × (a.last ≡ held_for s u) × Good s u
    Matches a left = Unit {0}

    grow : (r : Ran) (o : MachineRan) (y a : Answer) → y ≡ a → Matches r o → Matches (record { answers = y ∷ r.answers; last = r.last }) (behind a o)
    unfolding behind
    grow r left y a e h = tt
    grow r (ran xs u) y a e (same, last, g) = (ap (λ (z : Answer). z ∷ r.answers) e ∙ ap (λ (zs : List Answer). a ∷ zs) same, last, g)

    matches : (t : Machine) → Good s t → Sound (held_for s t) → (calls : List Call) → Matches (run (held_for s t) calls) (machine_run s t calls)
    unfolding run machine_run
    matches t g w [] = (refl, refl, g)
    matches t g w (x ∷ xs) = go (λ u g w. matches u g w xs) (machine s t x) (follows t g (unfold held_for in w.well-formed) x)
      where
        go : ((u : Machine) → Good s u → Sound (held_for s u) → Matches (run (held_for s u) xs) (machine_run s u xs)) → (o : Outcome) → Follows s (call (held_for s t) x) o
            → Matches (record { answers = (call (held_for s t) x).answer ∷ (run (call (held_for s t) x).next xs).answers; last = (run (call (held_for s t) x).next xs).last })
            (elim o [ answers a u ↦ behind a (machine_run s u xs) | leaves ↦ left ])
        go rest leaves h = tt
        go rest (answers a u) h =
            let p = parts (call (held_for s t) x) a u h in
            subst (λ (r : Held). Matches (record { answers = (call (held_for s t) x).answer ∷ (run r xs).answers; last = (run r xs).last }) (behind a (machine_run s u xs)))
            (sym p.1) (grow (run (held_for s u) xs) (machine_run s u xs) (call (held_for s t) x).answer a p.0 (rest u p.2 (subst Sound p.1 (keeps (held_for s t) w x))))

    -- ---- where the path closes

    module _ (t : Machine) (g : Good s t) where
      no_more : t.moves ≤ all_rounds s
      no_more = go (dec_le t.moves (all_rounds s))
        where
          go : Dec (t.moves ≤ all_rounds s) → t.moves ≤ all_rounds s
          go (yes l) = l
          go (no l) = absurd (g.not_before (all_rounds s) (omega arith) (closes_at s c (all_rounds s) refl))

      closes_only : round_of s t.moves ≡ closed → t.moves ≡ all_rounds s
      closes_only e = omega (arith, no_more, not-sooner s c t.moves e)

      closed_only : (stands_for s t).phase ≡ Closed → t.has_closed ≡ true
      closed_only e = sym (closed-stands s t) ∙ ap is_closed e

      closed_when : t.has_closed ≡ true → (stands_for s t).phase ≡ Closed
      unfolding stands_for phase phase_of
      closed_when e = ap (λ (b : Bool). phase_of b (at s t).downs) e

-- ---- opening

module _ (s : Sheet) (lim : Limits s) (few : length s.bids ≤ most_live_bidders) (lent : List ℤ) (fit : bad_tables (length s.bids) lent ≡ false) where
  abbrev m : ℕ
  m = s.items

  abbrev n : ℕ
  n = length s.bids

  opens-number : open_above_number m n s.start s.floors lent ≡ 0
  opens-number =
      no_number m n s.start s.floors lent (unfold bad_items in range-in 32 m lim.some_item lim.max_items)
      (unfold bad_live_bidders in range-in most_live_bidders n lim.some-bidder few) lim.start.long lim.floors.long (tables_long n lent fit)
      (not-any-over s.start lim.start.most) (under-not s.start s.floors (λ k l. unfold amount in lim.floor-le (suc k)))

  opens_as : open_above m n s.start s.floors lent ≡ record { number = 0; next = opened m n s.start s.floors }
  opens_as = accepts m n s.start s.floors lent opens-number

  opened-is : opened m n s.start s.floors ≡ stands_for s (begin s)
  unfolding opened stands_for begin at phase phase_of path after opening
  opened-is = by_parts (opened m n s.start s.floors) (stands_for s (begin s)) refl refl refl refl no-sets no-nulls no-reported refl refl refl

  opens : (opening_of s lent).number ≡ 0
  unfolding opening_of
  opens = ap (λ (x : Reply). x.number) opens_as

  -- the tables are filled
  filled_is : filled_by (open_above_number m n s.start s.floors lent) m n lent ≡ tables_of s (begin s)
  unfolding filled_by
  filled_is = ap (λ (x : ℕ). filled_by x m n lent) opens-number ∙ begin-tables s

  -- what is held after the opening
  abbrev opened-held : Held
  opened-held = opened_with m n s.start s.floors lent

  pub opened-for : opened_with m n s.start s.floors lent ≡ held_for s (begin s)
  unfolding opened_with held_for
  opened-for =
      held-by (open_above m n s.start s.floors lent).next (stands_for s (begin s)) (filled_by (open_above_number m n s.start s.floors lent) m n lent) (tables_of s (begin s))
      (ap (λ (x : Reply). x.next) opens_as ∙ opened-is) filled_is

  pub opens-sound : Sound (opened_with m n s.start s.floors lent)
  opens-sound = above-sound m n s.start s.floors lent (ap (λ (x : Reply). x.number) opens_as)

  -- ---- the list

  last-sound : (calls : List Call) → Sound (live_run s lent calls).last
  unfolding live_run
  last-sound calls = keeps-all opened-held opens-sound calls

  no_eleven : (calls : List Call) → never 11 (live_run s lent calls).answers ≡ true
  unfolding live_run
  no_eleven calls = never_eleven opened-held opens-sound calls

  whole : (c : Closing s) (calls : List Call) (theirs : List Answer) (t : Machine) → machine_run s (begin s) calls ≡ ran theirs t → Matches s lim c (live_run s lent calls) (ran theirs t)
  unfolding live_run
  whole c calls theirs t e =
      subst (Matches s lim c (run opened-held calls)) e
      (subst (λ (r : Held). Matches s lim c (run r calls) (machine_run s (begin s) calls)) (sym opened-for) (matches s lim c (begin s) (good-begin s lim) (subst Sound opened-for opens-sound) calls))

-- ---- the claim about the whole list

-- what the held parts are, and what an end on them says
module _ (s : Sheet) (t : Machine) (h : Held) (e : h ≡ held_for s t) where
  record_is : h.auction ≡ stands_for s t
  unfolding held_for
  record_is = ap (λ (x : Held). x.auction) e

  tables-are : h.tables ≡ tables_of s t
  unfolding held_for
  tables-are = ap (λ (x : Held). x.tables) e

  end_is : {A : Type 0} (f : Auction → List ℤ → A) → f h.auction h.tables ≡ f (stands_for s t) (tables_of s t)
  unfolding held_for
  end_is f = ap (λ (x : Held). f x.auction x.tables) e

-- for every sheet within the limits that has no more bidders than a live auction, whatever tables of the right length are lent at its opening
pub agreement : (s : Sheet) → within_limits s ≡ true → length s.bids ≤ most_live_bidders → (lent : List ℤ) → bad_tables (length s.bids) lent ≡ false
    → (calls : List Call) (theirs : List Answer) (t : Machine) → machine_run s (begin s) calls ≡ ran theirs t → Agrees s lent calls theirs t
agreement s e few lent fit calls theirs t q =
    let lim = limits s e in
    let c = closing s e in
    let h = whole s lim few lent fit c calls theirs t q in
    let g = h.2 in
    let held : (live_run s lent calls).last ≡ held_for s t = h.1 in
    let last : (live_run s lent calls).last.auction ≡ stands_for s t = record_is s t (live_run s lent calls).last held in
    let sound = last-sound s lim few lent fit calls in
    let w : well_formed (stands_for s t) ≡ true = subst (λ (r : Auction). well_formed r ≡ true) last sound.well-formed in
    record {
      opens = opens s lim few lent fit;
      same_answers = h.0;
      same_record = last;
      same_tables = tables-are s t (live_run s lent calls).last held;
      rounds = rounds_are s calls theirs t q;
      no_more = no_more s lim c t g;
      closed_only = λ d. closed_only s lim c t g (sym (ap (λ (r : Auction). r.phase) last) ∙ d);
      closed_when = λ d. ap (λ (r : Auction). r.phase) last ∙ closed_when s lim c t g d;
      after_all = λ d. closes_only s lim c t g (g.at_close d).1;
      as_the_sheet = λ d. subst (ClosedAs s) (sym last) (closed_as s lim c t g w d);
      next_round = λ o d. end_is s t (live_run s lent calls).last held end_answer ∙ next_round s lim c t g w o d;
      closes_only = closes_only s lim c t g;
      closes_when = closes_at s c t.moves;
      well-formed = sound.well-formed;
      tables_long = ap (λ (x : List ℤ). bad_tables (length s.bids) x) (tables-are s t (live_run s lent calls).last held) ∙ tables-exact (length s.bids) (tables_of s t) (joined-long s t g.tabled);
      tables-fit = sound.fit;
      no_eleven = subst (λ (xs : List Answer). never 11 xs ≡ true) h.0 (no_eleven s lim few lent fit calls);
      not_refused = λ o d. end_is s t (live_run s lent calls).last held end_number ∙ not_refused s lim c t g w o d;
    }

-- and no sheet with more bidders is ever opened: 2, whatever is lent
pub too_many : (s : Sheet) → within_limits s ≡ true → most_live_bidders < length s.bids → (lent : List ℤ) → (opening_of s lent).number ≡ 2
unfolding opening_of open_above opened_by unopened
too_many s e more lent =
    let lim = limits s e in
    ap (λ (x : ℕ). (opened_by x s.items (length s.bids) s.start s.floors).number)
    (two s.items (length s.bids) s.start s.floors lent (unfold bad_items in range-in 32 s.items lim.some_item lim.max_items)
    (unfold bad_live_bidders in over-range most_live_bidders (length s.bids) lim.some-bidder more))
