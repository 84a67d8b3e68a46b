-- Request #103, from the theorems of `rule`, `bids`, `auction` and `live`. Assumes nothing.
use Prim.Native.Nat.{ℕ, suc, ◌≤◌, ◌<◌}
use mathlib.Core.Path.{◌≡◌, refl, sym, ◌∙◌}
use mathlib.Core.Bool.{Bool, true, false}
use mathlib.Core.List.{List}
use native.Mathlib.Omega.{arith}
use lib.ListN.{length}
use borrow.Author.Tests.{ltb-false}
use Rattle.sets.specs.Bit.{has}
use Rattle.rule.specs.Sheet.{Sheet, amount, within_limits}
use Rattle.rule.specs.Demand.{demands}
use Rattle.rule.specs.Excess.{above_floors}
use Rattle.rule.specs.Round.{close}
use Rattle.rule.specs.Assignment.{is_assignment, option, total}
use Rattle.rule.specs.Closing.{excess_demand_at, excess_supply_at, assignment_at}
use Rattle.rule.proofs.AtPrices.{demands-length}
use Rattle.rule.proofs.Limits.{above_floors-is}
use Rattle.rule.proofs.Fitting.{fits-use}
use Rattle.rule.proofs.Closing.{closing}
use Rattle.rule.proofs.NoFloors as no-floors
use Rattle.bids.specs.Lent.{sheet_of, sheet_above}
use Rattle.bids.proofs.Limits as limits
use Rattle.auction.proofs.Sealing as sealed
use Rattle.live.proofs.Opening as live
use Rattle.sheet.specs.Accepted.{sheet_in}
use Rattle.promises.specs.Floors.{Request103}
use Rattle.promises.proofs.AtClose.{at_close, fitting, from-floors}

unlet : (s : Sheet) → within_limits s ≡ true → (i : ℕ) → i < suc s.items → ((b : ℕ) → b < length s.bids → option (assignment_at s (close s).prices) b ≡ i → ⊥)
    → amount (close s).prices i ≡ amount s.floors i
unlet s e i l nobody = go (has above i) refl
  where
    above : ℕ
    above = above_floors s.items s.floors (close s).prices

    go : (b : Bool) → has above i ≡ b → amount (close s).prices i ≡ amount s.floors i
    go true h =
        let x = (fits-use s.items above (demands s.items s.bids (close s).prices) (assignment_at s (close s).prices) (fitting s e)).covers i l h in
        absurd (nobody x.0 (omega (arith, x.1, demands-length s.items s.bids (close s).prices)) x.2)
    go false h =
        omega (arith, from-floors s e i, ltb-false (amount s.floors i) (amount (close s).prices i) (sym (above_floors-is s.items s.floors (close s).prices i l) ∙ h))

pub request103 : Request103
unfolding sheet_of sheet_in sheet_above
request103 =
    record {
      above = above_floors-is;
      unlet = unlet;
      old_sheets = λ m n start bids. refl;
      old_number = λ m n start bids. sym (limits.without_floors m n start bids);
      old_sealed = λ m n start bids. sym (sealed.zero-floors m n start bids);
      old_open = λ m n start ts. sym (live.zero-floors m n start ts);
      bid_sheets = λ bytes. refl;
      above_zero = no-floors.above_zero;
      unique_of_all = λ s e z. at_close s (closing s e) (λ u d p. (q : List ℕ) → length q ≡ s.items → excess_demand_at s q ≡ 0 → excess_supply_at s q ≡ 0 → q ≡ p) (no-floors.unique_of_all s (closing s e) z);
      highest_of_bids = λ s e z. at_close s (closing s e)
          (λ u d p. (xs : List ℕ) → is_assignment s.items (length s.bids) xs ≡ true → total s.bids xs ≤ total s.bids (assignment_at s p)) (no-floors.highest_of_bids s (closing s e) z);
    }
