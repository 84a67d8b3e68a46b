-- Request #102, from the theorems of `rule` and `reasons`. Assumes nothing.
use Prim.Native.Nat.{ℕ, suc, ◌<◌}
use mathlib.Core.Path.{◌≡◌, refl, sym, ◌∙◌, subst}
use mathlib.Core.Bool.{true}
use mathlib.Core.List.{List}
use native.Mathlib.Omega.{arith}
use lib.ListN.{length}
use borrow.Author.Tests.{ltb-true}
use Rattle.sets.specs.Bit.{has}
use Rattle.rule.specs.Sheet.{Sheet, amount, row}
use Rattle.rule.specs.Assignment.{option}
use Rattle.rule.specs.Round.{opening, most_rounds, close}
use Rattle.rule.specs.Former.{former_demand, former_demands, former_round_at, former_after, former_path, former_close, former_reason_at}
use Rattle.rule.specs.Excess.{above_floors}
use Rattle.rule.specs.Equilibrium.{Below}
use Rattle.rule.specs.Closing.{assignment_at}
use Rattle.rule.proofs.Zeros as zeros
use Rattle.rule.proofs.Limits.{above_floors-is}
use Rattle.bids.specs.Lent.{line_of, sheet_above}
use Rattle.bids.specs.Refusal.{sealed_above_refusal}
use Rattle.bids.proofs.Lent.{rows-length, row_at}
use Rattle.auction.specs.Sealed.{sealed_above_of, falling_first_of}
use Rattle.auction.proofs.Sealing as sealing
use Rattle.auction.proofs.Naming as naming
use Rattle.rule.proofs.AtPrices as at_prices
use Rattle.rule.proofs.Balance as balance
use Rattle.rule.proofs.Unchanged as unchanging
use Rattle.reasons.specs.Sheets.{former_reason_sheet}
use Rattle.reasons.proofs.Unchanged as sheets
use Rattle.promises.specs.Zeros.{Request102}
use Rattle.promises.proofs.AtClose.{fitting}

-- a pan above its floor has a rent above 0
above-price : (s : Sheet) (p : List ℕ) (i : ℕ) → i < suc s.items → has (above_floors s.items s.floors p) i ≡ true → 0 < amount p i
above-price s p i l h =
    let x = ltb-true (amount s.floors i) (amount p i) (sym (above_floors-is s.items s.floors p i l) ∙ h) in
    omega (arith, x)

module _ (m n : ℕ) (start floors bids : List ℕ) (e : sealed_above_refusal m n start floors bids ≡ 0) (b : ℕ) (l : b < n) where
  abbrev s : Sheet
  s = sheet_above m n start floors bids

  long : b < length s.bids
  unfolding sheet_above
  long = omega (arith, l, rows-length m n bids)

  to-line : (i : ℕ) → 0 < amount (row s.bids b) i → 0 < amount (line_of m bids b) i
  unfolding sheet_above
  to-line i h = subst (λ (xs : List ℕ). 0 < amount xs i) (row_at m n bids b l) h

  never_sealed : 0 < option (sealed_above_of m n start floors bids).assignment b
      → 0 < amount (line_of m bids b) (option (sealed_above_of m n start floors bids).assignment b)
  unfolding option
  never_sealed h =
      to-line _ (naming.bid-for s (sealed_above_of m n start floors bids) (sealing.above-promised m n start floors bids (sealed_above_of m n start floors bids) refl (sealing.above-number m n start floors bids ∙ e)) b long h)

  never_falling : 0 < option (falling_first_of m n start floors bids).assignment b
      → 0 < amount (line_of m bids b) (option (falling_first_of m n start floors bids).assignment b)
  unfolding option
  never_falling h =
      to-line _ (naming.falling-bid-for s (falling_first_of m n start floors bids) (sealing.falling-promised m n start floors bids (falling_first_of m n start floors bids) refl (sealing.falling-number m n start floors bids ∙ e)) b long h)

pub request102 : Request102
unfolding Below opening former_demands former_after former_path former_round_at former_demand most_rounds former_close former_reason_at former_reason_sheet
request102 =
    record {
      never_demanded = zeros.demanded-bid;
      never_empty = at_prices.demands-some;
      never_named = balance.named-bid;
      never_at_close = λ s e. balance.named-bid s.items (above_floors s.items s.floors (close s).prices) s.bids (close s).prices (assignment_at s (close s).prices) (fitting s e);
      never_sealed = never_sealed;
      never_falling = never_falling;
      former_start = λ s. refl;
      former_next = λ s k. refl;
      former_round = λ s k. refl;
      same_states = λ s. (unchanging.unchanged s).states;
      same_rounds = λ s. (unchanging.unchanged s).rounds;
      same_close = λ s. (unchanging.unchanged s).closes;
      same_rising = λ s. zeros.same_rising s.items s.bids;
      same_falling = λ s p. zeros.same_falling s.items s.bids p (above_floors s.items s.floors p) (above-price s p);
      same_reasons = λ s. (unchanging.unchanged s).reasons;
      same_sheet = sheets.same_sheet;
      still_balance = λ s q e. let x = (unchanging.unchanged s).balance_back q (record { from-floors = e.0; assigned = e.1.0; balances = e.1.1 }) in (x.from-floors, (x.assigned, x.balances));
      balanced_before = λ s q e. let x = (unchanging.unchanged s).balance q (record { from-floors = e.0; assigned = e.1.0; balances = e.1.1 }) in (x.from-floors, (x.assigned, x.balances));
    }
