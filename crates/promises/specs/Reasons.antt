-- Request #101: the sheet of reasons. Every field is a sentence by itself; the program's answer, byte for byte, is that of the call in `src`. Assumes nothing: these
-- are statements, which `proofs/Reasons` proves.
use Rattle.std.specs.Prelude.{ℕ, ◌+◌, ◌-◌, ◌*◌, ◌≤◌, ◌<◌, Bool, true, List, [], ◌≡◌, ℤ, length, take, Some}
use Rattle.sets.specs.Bit.{set_of, size}
use Rattle.rule.specs.Sheet.{Sheet, within_limits}
use Rattle.rule.specs.Demand.{Demand, nth}
use Rattle.rule.specs.Excess.{nothing_outside, something_in}
use Rattle.rule.specs.Round.{Round, raised, lowered, path, close}
use Rattle.rule.specs.Closing.{demands_at, excess_demand_at, excess_supply_at}
use Rattle.rule.specs.FallingFirst.{falling_path, falling_round_of}
use Rattle.rule.specs.Reasons.{bidders_with, Reason, reason_of, reason_at}
use Rattle.digits.specs.Reading.{number_at}
use Rattle.lines.specs.Lines.{number_line}
use Rattle.lines.specs.Reading.{ends_at}
use Rattle.sheet.specs.Contents.{bid_sheet_refusal}
use Rattle.sheet.specs.Accepted.{sheet_in}
use Rattle.reasons.specs.Sheets.{reasons_in, answer_of}
use Rattle.live.specs.Auction.{reports_of}
use Rattle.live.specs.Calls.{end_answer, gives}
use Rattle.live.specs.declared.Auction.{Auction}

-- "a raised set always has more such rakers than pans, and a lowered set no more than it has pans": of m pans, n rakers
abbrev pub Right : (m n : ℕ) → Reason → Type 0
Right m n r = (r.kind ≡ 1 → size m r.items < size n r.bidders) × (r.kind ≡ 2 → size n r.bidders ≤ size m r.items)

-- "4 hexadecimal digits for the round from 0001, 2 digits for the kind, 8 digits for the pan set, and 16 digits for the rakers", and the line's end
abbrev pub Line : (bytes : List ℕ) (k : ℕ) → Reason → Type 0
Line bytes k r =
    (number_at 4 bytes (31 * k) ≡ Some (k + 1))
    × (number_at 2 bytes (31 * k + 4) ≡ Some r.kind)
    × (number_at 8 bytes (31 * k + 6) ≡ Some r.items)
    × (number_at 16 bytes (31 * k + 14) ≡ Some r.bidders)
    × (ends_at bytes (31 * k + 30) ≡ true)

pub record Request101 : Type 0 where
  -- "For a rise these are the rakers who want only pans of the set; for a fall, those who want some pan of it": of m pans and any demands or reports
  pub bidders_are : (ds : List Demand) (f : Demand → Bool) → bidders_with ds f ≡ set_of (length ds) λ b. f (nth ds (b - 1))
  pub of_a_rise : (m : ℕ) (ds : List Demand) (x : ℕ) → reason_of m ds (raised x) ≡ record { kind = 1; items = x; bidders = bidders_with ds (nothing_outside m x) }
  pub of_a_fall : (m : ℕ) (ds : List Demand) (x : ℕ) → reason_of m ds (lowered x) ≡ record { kind = 2; items = x; bidders = bidders_with ds (something_in m x) }
  -- the reasons of a sheet's rounds: first those of its rises, then those of its falls, each at the rents before the round, and then none
  pub rises : (s : Sheet) → within_limits s ≡ true → (k : ℕ) → k < (close s).ups
      → reason_at s k ≡ reason_of s.items (demands_at s (path s k).prices) (raised (excess_demand_at s (path s k).prices))
  pub falls : (s : Sheet) → within_limits s ≡ true → (k : ℕ) → k < (close s).downs
      → reason_at s ((close s).ups + k)
      ≡ reason_of s.items (demands_at s (path s ((close s).ups + k)).prices) (lowered (excess_supply_at s (path s ((close s).ups + k)).prices))
  pub no_more : (s : Sheet) → within_limits s ≡ true → (k : ℕ) → reason_at s ((close s).ups + (close s).downs + k) ≡ record { kind = 0; items = 0; bidders = 0 }
  -- "prints, after a bid sheet, one line for each round", and no other byte
  pub lines : (bytes : List ℕ) → bid_sheet_refusal bytes ≡ 0 → (k : ℕ) → k < (close (sheet_in bytes)).ups + (close (sheet_in bytes)).downs
      → Line (reasons_in bytes) k (reason_at (sheet_in bytes) k)
  pub says_one : (bytes : List ℕ) (k : ℕ) (r q : Reason) → Line bytes k r → Line bytes k q → r ≡ q
  pub as_many : (bytes : List ℕ) → bid_sheet_refusal bytes ≡ 0 → length (reasons_in bytes) ≡ 31 * ((close (sheet_in bytes)).ups + (close (sheet_in bytes)).downs)
  -- "A sheet that is turned down prints its two digits"
  pub turned-down : (bytes : List ℕ) → (bid_sheet_refusal bytes ≡ 0 → ⊥) → reasons_in bytes ≡ number_line (bid_sheet_refusal bytes)
  -- into lent bytes all of it is written, or nothing where there is no room for it. There is in 253,890 bytes, and what stands behind byte 8,390 of an input changes nothing
  pub no_room : (bytes : List ℕ) (room : ℕ) → room < length (reasons_in bytes) → answer_of bytes room ≡ []
  pub room_for_it : (bytes : List ℕ) (room : ℕ) → length (reasons_in bytes) ≤ room → answer_of bytes room ≡ reasons_in bytes
  pub room : (bytes : List ℕ) (room : ℕ) → 253890 ≤ room → answer_of bytes room ≡ reasons_in bytes
  pub past : (bytes : List ℕ) (room k : ℕ) → 8390 ≤ k → answer_of (take k bytes) room ≡ answer_of bytes room
  -- "Shown with it": of every round of every path, rising first and falling first, and of every round that a live letting moves
  pub right : (s : Sheet) (k : ℕ) → Right s.items (length s.bids) (reason_at s k)
  pub right_falling : (s : Sheet) (k : ℕ) → Right s.items (length s.bids) (reason_of s.items (demands_at s (falling_path s k).prices) (falling_round_of s k))
  pub right_live : (r : Auction) (ts : List ℤ) (x : Round) → end_answer r ts ≡ gives x → Right r.items r.bidders (reason_of r.items (reports_of r) x)
