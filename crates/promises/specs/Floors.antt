-- Request #103: floors. That least rents are least among balancing rents at or above the floors, that the total is bids less floors, and that a live letting agrees
-- with a sheet let with its floors stands in `Demand3Sealed` and `Demand3Live`, which hold of any floors; 18 and its place in `Demand1`. Here is the rest. Assumes
-- nothing: these are statements, which `proofs/Floors` proves.
use Rattle.std.specs.Prelude.{ℕ, suc, ◌≤◌, ◌<◌, true, List, ◌≡◌, ltb, ℤ, length, replicate}
use Rattle.sets.specs.Bit.{has}
use Rattle.rule.specs.Sheet.{Sheet, amount, within_limits}
use Rattle.rule.specs.Excess.{above_floors}
use Rattle.rule.specs.Round.{close}
use Rattle.rule.specs.Assignment.{is_assignment, option, total}
use Rattle.rule.specs.Closing.{excess_demand_at, excess_supply_at, assignment_at}
use Rattle.bids.specs.Lent.{sheet_of, sheet_above}
use Rattle.bids.specs.Refusal.{sealed_refusal, sealed_above_refusal}
use Rattle.auction.specs.Sealed.{sealed_of, sealed_above_of}
use Rattle.live.specs.Calls.{open_auction, open_above}
use Rattle.sheet.specs.Accepted.{sheet_in}

pub record Request103 : Type 0 where
  -- "'Rent above 0' becomes 'rent above the floor' everywhere"
  pub above : (m : ℕ) (floors p : List ℕ) (i : ℕ) → i < suc m → has (above_floors m floors p) i ≡ ltb (amount floors i) (amount p i)
  -- "an unlet pan stands at its floor"
  pub unlet : (s : Sheet) → within_limits s ≡ true → (i : ℕ) → i < suc s.items → ((b : ℕ) → b < length s.bids → option (assignment_at s (close s).prices) b ≡ i → ⊥)
      → amount (close s).prices i ≡ amount s.floors i
  -- "bid sheets and the old calls mean floors of 0"
  pub old_sheets : (m n : ℕ) (start bids : List ℕ) → sheet_of m n start bids ≡ sheet_above m n start (replicate m 0) bids
  pub old_number : (m n : ℕ) (start bids : List ℕ) → sealed_refusal m n start bids ≡ sealed_above_refusal m n start (replicate m 0) bids
  pub old_sealed : (m n : ℕ) (start bids : List ℕ) → sealed_of m n start bids ≡ sealed_above_of m n start (replicate m 0) bids
  pub old_open : (m n : ℕ) (start : List ℕ) (ts : List ℤ) → open_auction m n start ts ≡ open_above m n start (replicate m 0) ts
  pub bid_sheets : (bytes : List ℕ) → (sheet_in bytes).floors ≡ replicate (sheet_in bytes).items 0
  -- with floors of 0 the promises read as document 01 has them: rents above 0, the only rents of all at which both sets are empty, the highest total of bids
  pub above_zero : (m : ℕ) (p : List ℕ) (i : ℕ) → i < suc m → has (above_floors m (replicate m 0) p) i ≡ ltb 0 (amount p i)
  pub unique_of_all : (s : Sheet) → within_limits s ≡ true → s.floors ≡ replicate s.items 0 → (q : List ℕ) → length q ≡ s.items
      → excess_demand_at s q ≡ 0 → excess_supply_at s q ≡ 0 → q ≡ (close s).prices
  pub highest_of_bids : (s : Sheet) → within_limits s ≡ true → s.floors ≡ replicate s.items 0 → (xs : List ℕ) → is_assignment s.items (length s.bids) xs ≡ true
      → total s.bids xs ≤ total s.bids (assignment_at s (close s).prices)
