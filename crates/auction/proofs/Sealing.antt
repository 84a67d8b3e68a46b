-- The outcome of the sealed auction, from what the code's steps answer, and what it promises of its sheet. Assumes nothing.
use Prim.Native.Nat.{ℕ, zero, suc, ◌^◌, ◌≤◌, ◌<◌}
use mathlib.Core.Path.{◌≡◌, refl, sym, ap, ap₂, ◌∙◌, subst}
use mathlib.Core.Bool.{true}
use mathlib.Core.List.{List}
use native.Mathlib.Omega.{arith}
use lib.ListN.{length, replicate}
use Rattle.sets.specs.Lists.{places}
use Rattle.rule.specs.Sheet.{Sheet, within_limits}
use Rattle.rule.specs.Demand.{demands, surpluses}
use Rattle.rule.specs.Excess.{above_floors}
use Rattle.rule.specs.Round.{State, close}
use Rattle.rule.specs.Assignment.{assignment}
use Rattle.rule.specs.Refusal.{bad_items}
use Rattle.rule.specs.Closing.{FitsAt, assignment_at}
use Rattle.rule.specs.Closing as rule
use Rattle.rule.specs.Gains.{gains_at, Gains}
use Rattle.rule.specs.FallingFirst.{falling_close, FallingClosing}
use Rattle.rule.proofs.Closing.{closing}
use Rattle.rule.proofs.Gains.{gains}
use Rattle.rule.proofs.FallingClosing.{falling-closing}
use Rattle.rule.proofs.Refusal.{given, over-range}
use Rattle.round.specs.Reports.{reports, Reported}
use Rattle.prices.proofs.Moving.{demands-places, surpluses-places}
use Rattle.round.proofs.Narrowing.{above_floors-lt}
use Rattle.assignment.specs.Assigned.{assigned}
use Rattle.assignment.proofs.Unfit.{assigned-is}
use Rattle.assignment.proofs.Narrowing.{assignment-narrow}
use Rattle.bids.specs.Lent.{rows_of, sheet_above, sheet_of}
use Rattle.bids.specs.Refusal.{sealed_above_refusal, sealed_refusal}
use Rattle.bids.proofs.Limits.{accepted-within, without_floors}
use Rattle.auction.specs.Sealed.{refused, named_at, closed, falling_closed, outcome, sealed_above_of, sealed_of, falling_first_of, Promised, PromisedFalling}
use Rattle.auction.specs.Accepted as accepted
use Rattle.auction.specs.declared.Closing.{Closing}
use Rattle.auction.specs.declared.Accepted.{Accepted}
use Rattle.auction.proofs.Settling.{ready, close-long, above_floors-wide}
use Rattle.auction.proofs.FallingRounds.{same_close}

-- ---- an outcome, by its number

by_refusal : (c : Closing) (why number : ℕ) → why ≡ number → (why ≡ 0 → ⊥) → refused why ≡ outcome number c
unfolding outcome
by_refusal c why number e ne = go why ne ∙ ap (λ (y : ℕ). outcome y c) e
  where
    go : (x : ℕ) → (x ≡ 0 → ⊥) → refused x ≡ outcome x c
    go zero h = absurd (h refl)
    go (suc k) h = refl

by_close : (c : Closing) (number : ℕ) → number ≡ 0 → c ≡ outcome number c
unfolding outcome
by_close c number z = ap (λ (y : ℕ). outcome y c) (sym z)

by-number : (c : Closing) → c.refusal ≡ 0 → (x : ℕ) → (outcome x c).refusal ≡ x
unfolding outcome refused
by-number c z zero = z
by-number c z (suc k) = refl

module _ (m n : ℕ) (start floors bids : List ℕ) where
  abbrev sheet : Sheet
  sheet = sheet_above m n start floors bids

  abbrev number : ℕ
  number = sealed_above_refusal m n start floors bids

  pub above-refused : (why : ℕ) → why ≡ sealed_above_refusal m n start floors bids → (why ≡ 0 → ⊥) → refused why ≡ sealed_above_of m n start floors bids
  unfolding sealed_above_of
  above-refused why = by_refusal (closed sheet) why number

  pub above-closed : sealed_above_refusal m n start floors bids ≡ 0 → closed (sheet_above m n start floors bids) ≡ sealed_above_of m n start floors bids
  unfolding sealed_above_of
  above-closed = by_close (closed sheet) number

  pub above-number : (sealed_above_of m n start floors bids).refusal ≡ sealed_above_refusal m n start floors bids
  unfolding sealed_above_of closed
  above-number = by-number (closed sheet) refl number

  -- the same falling first
  pub falling-refused : (why : ℕ) → why ≡ sealed_above_refusal m n start floors bids → (why ≡ 0 → ⊥) → refused why ≡ falling_first_of m n start floors bids
  unfolding falling_first_of
  falling-refused why = by_refusal (falling_closed sheet) why number

  pub falling-closed : sealed_above_refusal m n start floors bids ≡ 0 → falling_closed (sheet_above m n start floors bids) ≡ falling_first_of m n start floors bids
  unfolding falling_first_of
  falling-closed = by_close (falling_closed sheet) number

  pub falling-number : (falling_first_of m n start floors bids).refusal ≡ sealed_above_refusal m n start floors bids
  unfolding falling_first_of falling_closed
  falling-number = by-number (falling_closed sheet) refl number

-- without floors they are 0
pub zero-floors : (m n : ℕ) (start bids : List ℕ) → sealed_above_of m n start (replicate m 0) bids ≡ sealed_of m n start bids
unfolding sealed_above_of sealed_of sheet_of
zero-floors m n start bids = ap (λ (y : ℕ). outcome y (closed (sheet_of m n start bids))) (without_floors m n start bids)

pub sealed-closed : (m n : ℕ) (start bids : List ℕ) → sealed_refusal m n start bids ≡ 0 → closed (sheet_of m n start bids) ≡ sealed_of m n start bids
unfolding sheet_of
sealed-closed m n start bids e = above-closed m n start (replicate m 0) bids (without_floors m n start bids ∙ e) ∙ zero-floors m n start bids

-- more than 32 items are turned down first
pub too-many-items : (m n : ℕ) (start bids : List ℕ) → 32 < m → refused 1 ≡ sealed_of m n start bids
unfolding sealed_of outcome sealed_refusal bad_items
too-many-items m n start bids l =
    ap (λ (y : ℕ). outcome y (closed (sheet_of m n start bids))) (sym (given 1 (bad_items m) _ (over-range 32 m (omega (arith, l)) l)))

pub sealed_number : (m n : ℕ) (start bids : List ℕ) → (sealed_of m n start bids).refusal ≡ sealed_refusal m n start bids
sealed_number m n start bids =
    sym (ap (λ (r : Closing). r.refusal) (zero-floors m n start bids)) ∙ above-number m n start (replicate m 0) bids ∙ without_floors m n start bids

-- ---- the close of a sheet, from its closing

promise : (s : Sheet) → within_limits s ≡ true → Promised s (closed s)
unfolding closed
promise s e = by (closing s e)
  where
    by : rule.Closing s → Promised s (closed s)
    by c =
        record {
          within = e;
          closing = c;
          raised = ap (λ (t : State). t.ups) c.close_is;
          lowered = ap (λ (t : State). t.downs) c.close_is;
          prices = ap (λ (t : State). places 32 t.prices) c.close_is;
          names = ap (λ (t : State). places 64 (assignment_at s t.prices)) c.close_is;
          gains = ap (λ (t : State). places 64 (gains_at s t.prices)) c.close_is;
          gaining = gains s c.prices c.fitting;
        }

promise-falling : (s : Sheet) → within_limits s ≡ true → PromisedFalling s (falling_closed s)
unfolding falling_closed closed
promise-falling s e = by (falling-closing s e)
  where
    by : FallingClosing s → PromisedFalling s (falling_closed s)
    by c =
        let same = same_close s c in
        record {
          within = e;
          closing = c;
          raised = ap (λ (t : State). t.ups) c.close_is;
          lowered = ap (λ (t : State). t.downs) c.close_is;
          prices = ap (λ (t : State). places 32 t.prices) c.close_is;
          names = ap (λ (t : State). places 64 (assignment_at s t.prices)) c.close_is;
          gains = ap (λ (t : State). places 64 (gains_at s t.prices)) c.close_is;
          gaining = subst (Gains s) (sym c.same-prices) (gains s c.rising_first.prices c.rising_first.fitting);
          same-prices = ap (places 32) same;
          same_names = ap (λ (p : List ℕ). places 64 (assignment_at s p)) same;
          same_gains = ap (λ (p : List ℕ). places 64 (gains_at s p)) same;
        }

-- an outcome without a number promises all that demand 3 asks of its sheet
pub above-promised : (m n : ℕ) (start floors bids : List ℕ) (r : Closing) → r ≡ sealed_above_of m n start floors bids → r.refusal ≡ 0
    → Promised (sheet_above m n start floors bids) r
above-promised m n start floors bids r e z =
    let none : sealed_above_refusal m n start floors bids ≡ 0 = sym (above-number m n start floors bids) ∙ sym (ap (λ (x : Closing). x.refusal) e) ∙ z in
    subst (λ (x : Closing). Promised (sheet_above m n start floors bids) x) (above-closed m n start floors bids none ∙ sym e)
    (promise (sheet_above m n start floors bids) (accepted-within m n start floors bids none).1)

pub sealed-promised : (m n : ℕ) (start bids : List ℕ) (r : Closing) → r ≡ sealed_of m n start bids → r.refusal ≡ 0 → Promised (sheet_of m n start bids) r
unfolding sheet_of
sealed-promised m n start bids r e z = above-promised m n start (replicate m 0) bids r (e ∙ sym (zero-floors m n start bids)) z

pub falling-promised : (m n : ℕ) (start floors bids : List ℕ) (r : Closing) → r ≡ falling_first_of m n start floors bids → r.refusal ≡ 0
    → PromisedFalling (sheet_above m n start floors bids) r
falling-promised m n start floors bids r e z =
    let none : sealed_above_refusal m n start floors bids ≡ 0 = sym (falling-number m n start floors bids) ∙ sym (ap (λ (x : Closing). x.refusal) e) ∙ z in
    subst (λ (x : Closing). PromisedFalling (sheet_above m n start floors bids) x) (falling-closed m n start floors bids none ∙ sym e)
    (promise-falling (sheet_above m n start floors bids) (accepted-within m n start floors bids none).1)

-- and so does that of a sheet which no number turns down
pub accepted-promised : (m n : ℕ) (start bids : List ℕ) → sealed_refusal m n start bids ≡ 0 → Promised (sheet_of m n start bids) (sealed_of m n start bids)
accepted-promised m n start bids e = sealed-promised m n start bids (sealed_of m n start bids) refl (sealed_number m n start bids ∙ e)

-- ---- the names, as the code finds them

module _ (m n : ℕ) (floors bids q : List ℕ) (lm : m ≤ 32) (low-long : length floors ≡ m) (long : length q ≡ m)
    (p low sets : List ℕ) (nulls above : ℕ) (ep : p ≡ places 32 q) (el : low ≡ places 32 floors) (ea : above ≡ above_floors 32 low p)
    (rep : Reported m n sets) (same : reports n sets nulls ≡ demands m (rows_of m n bids) p)
    (tops : List ℕ) (highest : tops ≡ places 64 (surpluses m (rows_of m n bids) p)) where
  above_is : above ≡ above_floors m floors q
  above_is = ea ∙ ap₂ (above_floors 32) el ep ∙ above_floors-wide m lm floors q low-long long

  reports_are : reports n sets nulls ≡ demands m (rows_of m n bids) q
  reports_are = same ∙ ap (demands m (rows_of m n bids)) ep ∙ demands-places m lm q long (rows_of m n bids)

  above-lt : above < 2 ^ m
  above-lt = subst (λ (x : ℕ). x < 2 ^ m) (sym above_is) (above_floors-lt m floors q)

  names_at : assigned sets nulls above n ≡ places 64 (assignment m (above_floors m floors q) (demands m (rows_of m n bids) q))
  names_at =
      sym (assigned-is sets nulls above n rep.max_bidders) ∙ ap (places 64) (assignment-narrow m n sets rep nulls above above-lt ∙ ap₂ (assignment m) above_is reports_are)

  abbrev at : Sheet
  at = sheet_above m n q floors bids

  gains-at : FitsAt (sheet_above m n q floors bids) q (assignment_at (sheet_above m n q floors bids) q) → tops ≡ places 64 (gains_at (sheet_above m n q floors bids) q)
  unfolding sheet_above
  gains-at fitting =
      highest
      ∙ ap (λ (r : List ℕ). places 64 (surpluses m (rows_of m n bids) r)) ep
      ∙ ap (places 64) (surpluses-places m lm q long (rows_of m n bids) ∙ sym (gains at q fitting).found)

  pub named-is : FitsAt (sheet_above m n q floors bids) q (assignment_at (sheet_above m n q floors bids) q) → (u k : ℕ) (names : List ℕ) → names ≡ assigned sets nulls above n
      → ◌≡◌ {A = Closing} (record { refusal = 0; raised = u; lowered = k; prices = p; assignment = names; gains = tops }) (named_at (sheet_above m n q floors bids) u k q)
  unfolding sheet_above
  named-is fitting u k names en =
      ap₂ (λ (y z : List ℕ). record { refusal = 0; raised = u; lowered = k; prices = y; assignment = z; gains = tops }) ep (en ∙ names_at)
      ∙ ap (λ (y : List ℕ). record { refusal = 0; raised = u; lowered = k; prices = places 32 q; assignment = places 64 (assignment_at at q); gains = y }) (gains-at fitting)

-- ---- the code's steps

-- names do not go by the starting prices, and neither does whether they fit
pub named-any : (m n : ℕ) (start floors bids : List ℕ) (u k : ℕ) (q : List ℕ) → named_at (sheet_above m n q floors bids) u k q ≡ named_at (sheet_above m n start floors bids) u k q
unfolding sheet_above gains_at
named-any m n start floors bids u k q = refl

pub fits-any : (m n : ℕ) (start floors bids q : List ℕ) → FitsAt (sheet_above m n start floors bids) q (assignment_at (sheet_above m n start floors bids) q)
    → FitsAt (sheet_above m n q floors bids) q (assignment_at (sheet_above m n q floors bids) q)
unfolding sheet_above
fits-any m n start floors bids q fitting = fitting

-- what `named` answers to the rounds and prices of a close
module _ (a : Accepted) (u k : ℕ) (p : List ℕ) (r : Closing)
    (named : (q : List ℕ) → length q ≡ a.items → p ≡ places 32 q
    → FitsAt (sheet_above a.items a.bidders q a.floors.now a.bids.now) q (assignment_at (sheet_above a.items a.bidders q a.floors.now a.bids.now) q)
    → r ≡ named_at (sheet_above a.items a.bidders q a.floors.now a.bids.now) u k q)
    (ep : p ≡ places 32 (close (accepted.sheet a)).prices) where
  abbrev s : Sheet
  s = accepted.sheet a

  within : within_limits s ≡ true
  within = (accepted-within a.items a.bidders a.start.now a.floors.now a.bids.now a.accepted).1

  closing-is : r ≡ named_at s u k (close s).prices
  closing-is =
      named (close s).prices long ep (fits-any a.items a.bidders a.start.now a.floors.now a.bids.now (close s).prices fitting)
      ∙ named-any a.items a.bidders a.start.now a.floors.now a.bids.now u k (close s).prices
    where
      c : rule.Closing s
      c = closing s within

      fitting : FitsAt s (close s).prices (assignment_at s (close s).prices)
      fitting = subst (λ (t : State). FitsAt s t.prices (assignment_at s t.prices)) (sym c.close_is) c.fitting

      long : length (close s).prices ≡ a.items
      long = unfold sheet_above in close-long s (ready s within)

  pub closed-is : u ≡ (close (accepted.sheet a)).ups → k ≡ (close (accepted.sheet a)).downs → r ≡ closed (accepted.sheet a)
  unfolding closed
  closed-is eu ek = closing-is ∙ ap₂ (λ (x y : ℕ). named_at s x y (close s).prices) eu ek

  pub falling_is : u ≡ (falling_close (accepted.sheet a)).ups → k ≡ (falling_close (accepted.sheet a)).downs → r ≡ falling_closed (accepted.sheet a)
  unfolding falling_closed
  falling_is eu ek =
      closing-is ∙ ap₂ (λ (x y : ℕ). named_at s x y (close s).prices) eu ek
      ∙ ap (named_at s (falling_close s).ups (falling_close s).downs) (sym (same_close s (falling-closing s within)))
