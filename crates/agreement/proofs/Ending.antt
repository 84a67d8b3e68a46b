-- Ending a round agrees with the machine. Assumes nothing.
use Prim.Native.Nat.{ℕ, zero, suc, ◌+◌, ◌<◌}
use mathlib.Core.Path.{◌≡◌, refl, sym, ap, ◌∙◌, subst}
use mathlib.Core.Bool.{Bool, true, false, ◌&&◌, not}
use mathlib.Core.List.{List, []}
use native.Mathlib.Omega.{arith}
use lib.Dec.{eqb}
use lib.ListN.{length, replicate}
use borrow.Author.Tests.{eqb-true, eq-eqb}
use borrow.Author.Tests.{not-true as not-true-is}
use Rattle.sets.specs.Count.{any_below}
use Rattle.sets.specs.Bit.{has}
use Rattle.sets.specs.Lists.{places}
use Rattle.sets.proofs.Counting.{and_below, and_left, and_right, not-both, is_false, any-use, and-right-false}
use Rattle.rule.specs.Sheet.{amount, Sheet}
use Rattle.rule.specs.Demand.{Demand}
use Rattle.rule.specs.Excess.{excess_demand, above_floors}
use Rattle.rule.specs.Round.{rising, falling, Round, raised, lowered, closed, State, move, round_at, round, path, raise, lower}
use Rattle.rule.specs.Round.{Phase as RulePhase}
use Rattle.rule.specs.Closing.{demands_at, excess_demand_at, round_of, phase_after, Closing}
use Rattle.rule.proofs.Limits.{Limits}
use Rattle.rule.proofs.Refusal.{passed, first-nil}
use Rattle.prices.proofs.Moving.{raise-places, lower-places}
use Rattle.live.specs.Auction.{reports_of, missing, items_above, rising_set, well_formed}
use Rattle.live.specs.Tables.{bad_tables, tables_fit, any_unexplained, narrowed_tables}
use Rattle.live.specs.Calls.{is_closed, is_falling, is_rising, at_top, end_number, ruled, round_by, settled, gives, refused, end_answer, end_next, narrowed_by, end_tables}
use Rattle.live.specs.declared.Phase.{Phase}
use Rattle.live.specs.declared.Phase.TheVariants.{Rising, Falling}
use Rattle.live.proofs.Parts.{by_parts}
use Rattle.agreement.specs.Calls.{ending, ended, Answered, call}
use Rattle.agreement.specs.Machine.{Machine, none, at, phase_of, phase, said, said_all, is_missing, demands_stand, answers, unexplained_by, machine_end_number, narrowed_on, next, turned, machine_end, machine}
use Rattle.agreement.specs.Agreement.{stands_for, tables_of, held_for}
use Rattle.agreement.proofs.Along.{raised-closed, lowered-closed, step_by, rising-at, moved-small, phase-is, long-along, falling-calm}
use Rattle.agreement.proofs.Numbers.{first-same}
use Rattle.agreement.proofs.Standing.{said-demands, none-missing, closed-stands, reports-is, missing-is, above_is, rising_is, top-is}
use Rattle.agreement.proofs.Tabled.{not-bad, tables-fit, nineteen-all, not-nineteen, moved-tabled, narrowed_is}
use Rattle.agreement.proofs.Follows.{Good, held-by, Follows, no-nulls, no-reported, no-sets}

-- ---- phases

falls : (d : ℕ) → is_falling (phase_of false d) ≡ true → phase_after d ≡ falling
unfolding phase_of
falls zero e = absurd (not-both false e refl)
falls (suc d) e = refl

closed-not-falling : (b : Bool) (d : ℕ) → is_falling (phase_of b d) ≡ true → b ≡ false
unfolding phase_of
closed-not-falling false d e = refl
closed-not-falling true d e = sym e

no-downs : (d : ℕ) → rising ≡ phase_after d → Rising ≡ phase_of false d
unfolding phase_of
no-downs zero e = refl
no-downs (suc d) e = absurd (let z : ◌≡◌ {A = ℕ} 0 1 = cc in omega arith)

falling-phase : (d : ℕ) → Falling ≡ phase_of false (d + 1)
unfolding phase_of
falling-phase d = let one : suc d ≡ d + 1 = omega arith in ap (phase_of false) one

ruled-is : (d : ℕ) → ruled (phase_of false d) ≡ phase_after d
unfolding phase_of
ruled-is zero = refl
ruled-is (suc d) = refl

module _ (s : Sheet) (lim : Limits s) (c : Closing s) (t : Machine) (g : Good s t) (w : well_formed (stands_for s t) ≡ true) where
  abbrev m : ℕ
  m = s.items

  -- the path's state
  abbrev now : State
  now = path s t.moves

  -- ---- the number

  phase-now : (stands_for s t).phase ≡ phase s t
  phase-now = unfold stands_for in refl

  items-is : (stands_for s t).items ≡ m
  items-is = unfold stands_for in refl

  abbrev found : ℕ
  found = excess_demand m (said_all s t)

  abbrev unknown : Bool
  unknown = any_below (length s.bids) λ k. unexplained_by s t k (said (t.standing (suc k)))

  sixteen : is_falling (stands_for s t).phase && not (eqb (rising_set (stands_for s t)) 0) ≡ is_falling (phase s t) && not (eqb found 0)
  sixteen =
      ap (λ (x : Phase). is_falling x && not (eqb (rising_set (stands_for s t)) 0)) phase-now ∙ ap (λ (x : ℕ). is_falling (phase s t) && not (eqb x 0)) (rising_is s t lim)

  seventeen : is_rising (stands_for s t).phase && at_top (stands_for s t).items (stands_for s t).prices (rising_set (stands_for s t))
      ≡ is_rising (phase s t) && at_top m (at s t).prices found
  seventeen =
      ap (λ (x : Phase). is_rising x && at_top (stands_for s t).items (stands_for s t).prices (rising_set (stands_for s t))) phase-now
      ∙ ap (λ (x : ℕ). is_rising (phase s t) && at_top x (stands_for s t).prices (rising_set (stands_for s t))) items-is
      ∙ ap (λ (x : ℕ). is_rising (phase s t) && at_top m (stands_for s t).prices x) (rising_is s t lim)
      ∙ ap (λ (x : Bool). is_rising (phase s t) && x) (top-is s t lim found)

  pub end-number : end_number (stands_for s t) (tables_of s t) ≡ machine_end_number s t
  unfolding end_number machine_end_number
  end-number =
      passed 11 (not (well_formed (stands_for s t))) _ (ap not w)
      ∙ passed 3 (bad_tables (stands_for s t).bidders (tables_of s t)) _ (not-bad s t g.tabled)
      ∙ passed 11 (not (tables_fit (stands_for s t) (tables_of s t))) _ (ap not (tables-fit s t g.tabled))
      ∙ first-same 12 (is_closed (stands_for s t).phase) t.has_closed _ _ (closed-stands s t)
      (λ e. first-same 14 (missing (stands_for s t)) (is_missing s t) _ _ (missing-is s t lim)
      (λ e. first-same 19 (any_unexplained (stands_for s t) (tables_of s t)) unknown _ _ (nineteen-all s t g.tabled lim)
      (λ e. first-same 16 (is_falling (stands_for s t).phase && not (eqb (rising_set (stands_for s t)) 0)) (is_falling (phase s t) && not (eqb found 0)) _ _ sixteen
      (λ e. first-same 17 (is_rising (stands_for s t).phase && at_top (stands_for s t).items (stands_for s t).prices (rising_set (stands_for s t)))
      (is_rising (phase s t) && at_top m (at s t).prices found) _ _ seventeen (λ e. refl)))))

  calm-now : phase_after now.downs ≡ falling → excess_demand_at s (at s t).prices ≡ 0
  unfolding at
  calm-now d = falling-calm s c t.moves (phase-is s t.moves ∙ d)

  -- 16 and 17 never apply to the sheet's own demands
  not-sixteen : demands_stand s t ≡ true → is_falling (phase s t) && not (eqb found 0) ≡ false
  not-sixteen h = is_false (is_falling (phase s t) && not (eqb found 0)) by
    where
      by : is_falling (phase s t) && not (eqb found 0) ≡ true → ⊥
      by e =
          let f = and_left (is_falling (phase s t)) (not (eqb found 0)) e in
          let f' : is_falling (phase_of t.has_closed now.downs) ≡ true = unfold phase at in f in
          let o = closed-not-falling t.has_closed now.downs f' in
          let d = falls now.downs (subst (λ (b : Bool). is_falling (phase_of b now.downs) ≡ true) o f') in
          let z : found ≡ 0 = ap (excess_demand m) (said-demands s t h) ∙ calm-now d in
          not-both (not (eqb found 0)) (and_right (is_falling (phase s t)) (not (eqb found 0)) e) (ap not (eq-eqb found 0 z))

  top-never : at_top m now.prices (excess_demand_at s now.prices) ≡ false
  unfolding at_top
  top-never = is_false (any_below m topped) (λ e. by (any-use m topped e))
    where
      topped : ℕ → Bool
      topped k = has (excess_demand_at s now.prices) (suc k) && eqb (amount now.prices (suc k)) 4095

      by : (k : ℕ) × (k < m) × (topped k ≡ true) → ⊥
      by (k, l, e) =
          let a = and_left (has (excess_demand_at s now.prices) (suc k)) (eqb (amount now.prices (suc k)) 4095) e in
          let b = and_right (has (excess_demand_at s now.prices) (suc k)) (eqb (amount now.prices (suc k)) 4095) e in
          omega (arith, c.raisable t.moves (suc k) a, eqb-true (amount now.prices (suc k)) 4095 b)

  not-seventeen : demands_stand s t ≡ true → is_rising (phase s t) && at_top m (at s t).prices found ≡ false
  not-seventeen h =
      and-right-false (is_rising (phase s t)) (at_top m (at s t).prices found)
      (ap (λ (ds : List Demand). at_top m (at s t).prices (excess_demand m ds)) (said-demands s t h) ∙ (unfold at in top-never))

  no_number : t.has_closed ≡ false → demands_stand s t ≡ true → machine_end_number s t ≡ 0
  unfolding machine_end_number
  no_number o h =
      passed 12 t.has_closed _ o ∙ passed 14 (is_missing s t) _ (none-missing s t h) ∙ passed 19 unknown _ (not-nineteen s t g.tabled lim h)
      ∙ passed 16 (is_falling (phase s t) && not (eqb found 0)) _ (not-sixteen h)
      ∙ passed 17 (is_rising (phase s t) && at_top m (at s t).prices found) [] (not-seventeen h) ∙ first-nil

  pub not_refused : t.has_closed ≡ false → demands_stand s t ≡ true → end_number (stands_for s t) (tables_of s t) ≡ 0
  not_refused o h = end-number ∙ no_number o h

  -- ---- the round

  phases : t.has_closed ≡ false → ruled (stands_for s t).phase ≡ now.phase
  phases o =
      let q : (stands_for s t).phase ≡ phase_of t.has_closed now.downs = unfold stands_for phase at in refl in
      ap ruled q ∙ ap (λ (b : Bool). ruled (phase_of b now.downs)) o ∙ ruled-is now.downs ∙ sym (phase-is s t.moves)

  round_is : t.has_closed ≡ false → demands_stand s t ≡ true → round_by (stands_for s t) ≡ round_of s t.moves
  unfolding round_by round_at at
  round_is o h =
      ap (λ (x : ℕ). round x (items_above (stands_for s t)) (reports_of (stands_for s t)) (ruled (stands_for s t).phase)) items-is
      ∙ ap (λ (x : ℕ). round m x (reports_of (stands_for s t)) (ruled (stands_for s t).phase)) (above_is s t lim)
      ∙ ap (λ (x : List Demand). round m (above_floors m s.floors (at s t).prices) x (ruled (stands_for s t).phase)) (reports-is s t lim ∙ said-demands s t h)
      ∙ ap (λ (x : RulePhase). round m (above_floors m s.floors (at s t).prices) (demands_at s (at s t).prices) x) (phases o)

  -- ---- the record after it

  abbrev moved_on : Machine
  moved_on = record { moves = suc t.moves; has_closed = t.has_closed; standing = λ i. none; tables = narrowed_on s t }

  abbrev closed-now : Machine
  closed-now = record { moves = t.moves; has_closed = true; standing = t.standing; tables = t.tables }

  good-moved : t.has_closed ≡ false → (round_of s t.moves ≡ closed → ⊥) → Good s moved_on
  good-moved o ne =
      record {
        not_before = and_below (λ k. round_of s k ≡ closed → ⊥) ne g.not_before;
        at_close = λ h. absurd (not-both t.has_closed h o);
        tabled = moved-tabled s t g.tabled lim c;
      }

  good-closed : demands_stand s t ≡ true → round_of s t.moves ≡ closed → Good s closed-now
  good-closed h e = record { not_before = g.not_before; at_close = λ q. (unfold demands_stand at in h, e); tabled = g.tabled }

  -- the record of a move, from the path's state after it
  moved-record : (q : State) (p : List ℕ) (ph : Phase) → path s (suc t.moves) ≡ q → t.has_closed ≡ false → p ≡ places 32 q.prices → ph ≡ phase_of false q.downs
      → record {
        items = m;
        bidders = length s.bids;
        prices = p;
        floors = places 32 s.floors;
        sets = replicate 64 0;
        nulls = 0;
        reported = 0;
        phase = ph;
        raised = q.ups;
        lowered = q.downs;
      } ≡ stands_for s moved_on
  unfolding stands_for at phase
  moved-record q p ph after o prices phases =
      by_parts _ (stands_for s moved_on) refl refl (prices ∙ ap (λ (z : State). places 32 z.prices) (sym after)) refl no-sets no-nulls no-reported
      (phases ∙ ap (λ (z : State). phase_of false z.downs) (sym after) ∙ ap (λ (b : Bool). phase_of b (path s (suc t.moves)).downs) (sym o))
      (ap (λ (z : State). z.ups) (sym after)) (ap (λ (z : State). z.downs) (sym after))

  long : length now.prices ≡ m
  long = long-along s lim.start.long t.moves

  raised-record : (x : ℕ) → t.has_closed ≡ false → round_of s t.moves ≡ raised x → settled (stands_for s t) (raised x) ≡ stands_for s moved_on
  unfolding settled stands_for at move
  raised-record x o e =
      moved-record (move m now (raised x)) (raise 32 (places 32 now.prices) x) Rising (step_by s t.moves (raised x) e) o
      (raise-places m lim.max_items now.prices long x (moved-small s t.moves (raised x) e))
      (no-downs now.downs (sym (rising-at s t.moves x e) ∙ phase-is s t.moves))

  lowered-record : (x : ℕ) → t.has_closed ≡ false → round_of s t.moves ≡ lowered x → settled (stands_for s t) (lowered x) ≡ stands_for s moved_on
  unfolding settled stands_for at move
  lowered-record x o e =
      moved-record (move m now (lowered x)) (lower 32 (places 32 now.prices) x) Falling (step_by s t.moves (lowered x) e) o
      (lower-places m lim.max_items now.prices long x (moved-small s t.moves (lowered x) e)) (falling-phase now.downs)

  closed-record : settled (stands_for s t) closed ≡ stands_for s closed-now
  unfolding settled stands_for at phase phase_of
  closed-record = refl

  -- and the tables after it
  moved-tables : demands_stand s t ≡ true → narrowed_tables (stands_for s t) (tables_of s t) ≡ tables_of s moved_on
  unfolding tables_of
  moved-tables h = narrowed_is s t g.tabled lim h

  -- what is held after it is the machine's next state
  record Settles (r : Round) : Type 0 where
    auction : settled (stands_for s t) r ≡ stands_for s (next s t r)
    tables : narrowed_by (stands_for s t) (tables_of s t) r ≡ tables_of s (next s t r)
    good : Good s (next s t r)

  settles : (r : Round) → t.has_closed ≡ false → demands_stand s t ≡ true → round_of s t.moves ≡ r → Settles r
  unfolding next narrowed_by
  settles (raised x) o h e = record { auction = raised-record x o e; tables = moved-tables h; good = good-moved o (λ q. raised-closed x (sym e ∙ q)) }
  settles (lowered x) o h e = record { auction = lowered-record x o e; tables = moved-tables h; good = good-moved o (λ q. lowered-closed x (sym e ∙ q)) }
  settles closed o h e = record { auction = closed-record; tables = unfold tables_of in refl; good = good-closed h e }

  -- ---- the call

  answer-by : (x : ℕ) → end_number (stands_for s t) (tables_of s t) ≡ x → end_answer (stands_for s t) (tables_of s t) ≡ elim x [ zero ↦ gives (round_by (stands_for s t)) | suc j ↦ refused (suc j) ]
  unfolding end_answer
  answer-by x e = ap (λ (x : ℕ). elim x [ zero ↦ gives (round_by (stands_for s t)) | suc j ↦ refused (suc j) ]) e

  next-by : (x : ℕ) → end_number (stands_for s t) (tables_of s t) ≡ x
      → end_next (stands_for s t) (tables_of s t) ≡ elim x [ zero ↦ settled (stands_for s t) (round_by (stands_for s t)) | suc j ↦ stands_for s t ]
  unfolding end_next
  next-by x e = ap (λ (x : ℕ). elim x [ zero ↦ settled (stands_for s t) (round_by (stands_for s t)) | suc j ↦ stands_for s t ]) e

  tables-by : (x : ℕ) → end_number (stands_for s t) (tables_of s t) ≡ x
      → end_tables (stands_for s t) (tables_of s t) ≡ elim x [ zero ↦ narrowed_by (stands_for s t) (tables_of s t) (round_by (stands_for s t)) | suc j ↦ tables_of s t ]
  unfolding end_tables
  tables-by x e = ap (λ (x : ℕ). elim x [ zero ↦ narrowed_by (stands_for s t) (tables_of s t) (round_by (stands_for s t)) | suc j ↦ tables_of s t ]) e

  pub next_round : t.has_closed ≡ false → demands_stand s t ≡ true → end_answer (stands_for s t) (tables_of s t) ≡ gives (round_of s t.moves)
  next_round o h = answer-by 0 (not_refused o h) ∙ ap gives (round_is o h)

  abbrev answered : Answered
  answered =
      record {
        answer = ended (end_answer (stands_for s t) (tables_of s t));
        next = record { auction = end_next (stands_for s t) (tables_of s t); tables = end_tables (stands_for s t) (tables_of s t) };
      }

  moves : t.has_closed ≡ false → demands_stand s t ≡ true → Follows s answered (answers (ended (gives (round_of s t.moves))) (next s t (round_of s t.moves)))
  unfolding Follows held_for
  moves o h =
      let q = settles (round_of s t.moves) o h refl in
      let r = next-by 0 (not_refused o h) ∙ ap (settled (stands_for s t)) (round_is o h) ∙ q.auction in
      let ts = tables-by 0 (not_refused o h) ∙ ap (narrowed_by (stands_for s t) (tables_of s t)) (round_is o h) ∙ q.tables in
      (ap ended (next_round o h), held-by _ _ _ _ r ts, q.good)

  turned-down : (x : ℕ) → end_number (stands_for s t) (tables_of s t) ≡ x → Follows s answered (turned x t)
  unfolding turned Follows held_for
  turned-down zero e = tt
  turned-down (suc j) e = (ap ended (answer-by (suc j) e), held-by _ _ _ _ (next-by (suc j) e) (tables-by (suc j) e), g)

  pub end-follows : Follows s (call (held_for s t) ending) (machine s t ending)
  unfolding call machine machine_end held_for
  end-follows = go (not t.has_closed && demands_stand s t) refl
    where
      go : (b : Bool) → not t.has_closed && demands_stand s t ≡ b
          → Follows s answered (elim b [
            | true ↦ answers (ended (gives (round_of s t.moves))) (next s t (round_of s t.moves))
            | false ↦ turned (machine_end_number s t) t
          ])
      go true e = moves (not-true-is t.has_closed (and_left (not t.has_closed) (demands_stand s t) e)) (and_right (not t.has_closed) (demands_stand s t) e)
      go false e = turned-down (machine_end_number s t) end-number
