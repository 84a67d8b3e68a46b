-- Reading the close agrees with the machine: the bytes are those of the sealed closing sheet. Assumes nothing.
use Prim.Native.Nat.{ℕ, zero, suc, ◌≤◌}
use mathlib.Core.Path.{◌≡◌, refl, sym, ap, ◌∙◌, subst}
use mathlib.Core.Bool.{true, not}
use mathlib.Core.List.{List, []}
use native.Mathlib.Omega.{arith}
use lib.Dec.{ltb}
use lib.ListN.{length}
use borrow.Author.Tests.{le-ltb}
use borrow.Author.Tests.{not-false as not-false-is}
use Rattle.sets.specs.Lists.{places}
use Rattle.sets.proofs.Lists.{places-at}
use Rattle.rule.specs.Sheet.{Sheet}
use Rattle.rule.specs.Excess.{above_floors}
use Rattle.rule.specs.Round.{State, close}
use Rattle.rule.specs.Assignment.{assignment}
use Rattle.rule.specs.Closing.{assignment_at, Closing}
use Rattle.rule.proofs.Limits.{Limits}
use Rattle.rule.proofs.Refusal.{passed, first-nil, none as first_none}
use Rattle.lines.specs.Lines.{closing_sheet, closing_length, written_to}
use Rattle.live.specs.Auction.{reports_of, items_above, well_formed}
use Rattle.live.specs.Calls.{is_closed}
use Rattle.live.specs.Reading.{read_number, names_of, sheet_of, read_bytes}
use Rattle.agreement.specs.Calls.{reading, shown, call}
use Rattle.agreement.specs.Machine.{Machine, at, answers, three_lines, machine_read_number, machine_read, machine}
use Rattle.agreement.specs.Agreement.{stands_for, held_for, ClosedAs}
use Rattle.agreement.proofs.Along.{closed-close}
use Rattle.lines.proofs.Same.{sheet-same}
use Rattle.agreement.proofs.Numbers.{first-same}
use Rattle.agreement.proofs.Standing.{said-demands, closed-stands, reports-is, above_is}
use Rattle.agreement.proofs.Follows.{Good, Follows}

-- the sheet has regard to the prices of the items only
pub sheet-places : (m n ups downs : ℕ) (p options : List ℕ) → m ≤ 32 → closing_sheet m n ups downs (places 32 p) options ≡ closing_sheet m n ups downs p options
sheet-places m n ups downs p options few = sheet-same m n ups downs (places 32 p) p options options (λ k l. places-at 32 p k (omega arith)) (λ b l. refl)

module _ (s : Sheet) (lim : Limits s) (c : Closing s) (t : Machine) (g : Good s t) (w : well_formed (stands_for s t) ≡ true) where
  abbrev m : ℕ
  m = s.items

  abbrev n : ℕ
  n = length s.bids

  read-number : (out : List ℕ) → read_number (stands_for s t) out ≡ machine_read_number s t out
  unfolding read_number machine_read_number stands_for
  read-number out =
      passed 11 (not (well_formed (stands_for s t))) _ (ap not w)
      ∙ first-same 15 (not (is_closed (stands_for s t).phase)) (not t.has_closed) _ _ (ap not (closed-stands s t)) (λ e. refl)

  -- ---- at the close

  module _ (done : t.has_closed ≡ true) where
    at-is : at s t ≡ close s
    unfolding at
    at-is = closed-close s c t.moves (g.at_close done).1

    names_are : names_of (stands_for s t) ≡ assignment_at s (close s).prices
    unfolding names_of
    names_are =
        let items : (stands_for s t).items ≡ m = unfold stands_for in refl in
        ap (λ (x : ℕ). assignment x (items_above (stands_for s t)) (reports_of (stands_for s t))) items
        ∙ ap (λ (x : ℕ). assignment m x (reports_of (stands_for s t))) (above_is s t lim)
        ∙ ap (assignment m (above_floors m s.floors (at s t).prices)) (reports-is s t lim ∙ said-demands s t (g.at_close done).0)
        ∙ ap (λ (q : State). assignment_at s q.prices) at-is

    -- a closed record's sheet is the sheet's three lines
    lines_are : sheet_of (stands_for s t) ≡ three_lines s
    unfolding sheet_of three_lines stands_for
    lines_are =
        ap (closing_sheet m n (at s t).ups (at s t).downs (places 32 (at s t).prices)) names_are
        ∙ sheet-places m n (at s t).ups (at s t).downs (at s t).prices (assignment_at s (close s).prices) lim.max_items
        ∙ ap (λ (q : State). closing_sheet m n q.ups q.downs q.prices (assignment_at s (close s).prices)) at-is

    reads_on : (out : List ℕ) → closing_length m n ≤ length out → read_number (stands_for s t) out ≡ 0
    unfolding machine_read_number
    reads_on out l =
        read-number out ∙ passed 15 (not t.has_closed) _ (ap not done)
        ∙ passed 3 (ltb (length out) (closing_length m n)) [] (le-ltb (length out) (closing_length m n) l) ∙ first-nil

    reads_lines : (out : List ℕ) → closing_length m n ≤ length out → read_bytes (stands_for s t) out ≡ written_to out (three_lines s)
    unfolding read_bytes
    reads_lines out l =
        ap (λ (x : ℕ). elim x [ zero ↦ written_to out (sheet_of (stands_for s t)) | suc j ↦ out ]) (reads_on out l) ∙ ap (written_to out) lines_are

    pub closed_as : ClosedAs s (stands_for s t)
    unfolding stands_for
    closed_as =
        record {
          all_raised = ap (λ (q : State). q.ups) at-is;
          all_lowered = ap (λ (q : State). q.downs) at-is;
          at_prices = ap (λ (q : State). places 32 q.prices) at-is;
          names = names_are;
          reads = reads_on;
          reads_lines = reads_lines;
        }

  -- ---- the call

  closed-read : (out : List ℕ) → machine_read_number s t out ≡ 0 → t.has_closed ≡ true
  unfolding machine_read_number
  closed-read out e = not-false-is t.has_closed (first_none 14 (not t.has_closed) _ e).0

  read_by : (out : List ℕ) (x : ℕ) → (x ≡ 0 → t.has_closed ≡ true)
      → Follows s (record { answer = shown x (elim x [ zero ↦ written_to out (sheet_of (stands_for s t)) | suc j ↦ out ]); next = held_for s t })
      (elim x [ zero ↦ answers (shown 0 (written_to out (three_lines s))) t | suc j ↦ answers (shown (suc j) out) t ])
  unfolding Follows
  read_by out zero h = (ap (λ (y : List ℕ). shown 0 (written_to out y)) (lines_are (h refl)), refl, g)
  read_by out (suc j) h = (refl, refl, g)

  pub read-follows : (out : List ℕ) → Follows s (call (held_for s t) (reading out)) (machine s t (reading out))
  unfolding call machine machine_read read_bytes held_for
  read-follows out =
      subst (λ (x : ℕ). Follows s (record { answer = shown x (elim x [ zero ↦ written_to out (sheet_of (stands_for s t)) | suc j ↦ out ]); next = held_for s t })
      (machine s t (reading out))) (sym (read-number out))
      (read_by out (machine_read_number s t out) (closed-read out))
