-- Request #108: forty rakers at the call. The agreement of sheets with at most forty rakers stands in `Demand3Live`, and of every opening that is not turned down in
-- `Tables`. Assumes nothing: these are statements, which `proofs/Forty` proves.
use Rattle.std.specs.Prelude.{ℕ, ◌*◌, ◌≤◌, ◌<◌, true, false, List, ◌≡◌, length, ℤ}
use Rattle.rule.specs.Sheet.{Sheet, within_limits}
use Rattle.rule.specs.Refusal.{bad_items, bad_bidders, bad_live_bidders}
use Rattle.bids.specs.Lent.{sheet_above}
use Rattle.bids.specs.Refusal.{sealed_above_refusal}
use Rattle.live.specs.Auction.{well_formed}
use Rattle.live.specs.Calls.{open_number, open_above_number}
use Rattle.live.specs.declared.Auction.{Auction}

pub record Request108 : Type 0 where
  -- "That becomes the limit for live lettings": 1 to 40 are not turned down by 2
  pub live : (n : ℕ) → 1 ≤ n → n ≤ 40 → bad_live_bidders n ≡ false
  -- "opening with more gives 2", whatever else is lent
  pub opening : (m n : ℕ) (start : List ℕ) (lent : List ℤ) → bad_items m ≡ false → 40 < n → open_number m n start lent ≡ 2
  pub opening_above : (m n : ℕ) (start floors : List ℕ) (lent : List ℤ) → bad_items m ≡ false → 40 < n → open_above_number m n start floors lent ≡ 2
  -- so of a sheet within the limits with more, whatever is lent
  pub too_many : (s : Sheet) → within_limits s ≡ true → 40 < length s.bids → (lent : List ℤ) → open_above_number s.items (length s.bids) s.start s.floors lent ≡ 2
  -- "and a record with more gives 11"
  pub records : (r : Auction) → 40 < r.bidders → well_formed r ≡ false
  -- "Sealed letting stays at 64": a sheet within the limits is turned down by no number
  pub sealed : (n : ℕ) → 1 ≤ n → n ≤ 64 → bad_bidders n ≡ false
  pub sealed_more : (n : ℕ) → 64 < n → bad_bidders n ≡ true
  pub accepted : (m n : ℕ) (start floors bids : List ℕ) → length bids ≡ n * m → within_limits (sheet_above m n start floors bids) ≡ true
      → sealed_above_refusal m n start floors bids ≡ 0
  pub within : (m n : ℕ) (start floors bids : List ℕ) → sealed_above_refusal m n start floors bids ≡ 0 → within_limits (sheet_above m n start floors bids) ≡ true
