-- The sealed auction: document 01, "What demand 3 speaks of"; with floors, document 02, #103; falling first, #104; gains, #106. Assumes nothing: these are definitions.
use Rattle.std.specs.Prelude.{ℕ, zero, suc, ◌≡◌, true, List, replicate}
use Rattle.sets.specs.Lists.{places}
use Rattle.rule.specs.Sheet.{Sheet, within_limits}
use Rattle.rule.specs.Round.{close}
use Rattle.rule.specs.Closing.{assignment_at}
use Rattle.rule.specs.Closing as rule
use Rattle.rule.specs.Gains.{gains_at, Gains}
use Rattle.rule.specs.FallingFirst.{falling_close, FallingClosing}
use Rattle.bids.specs.Lent.{sheet_above, sheet_of}
use Rattle.bids.specs.Refusal.{sealed_above_refusal, sealed_refusal}
use Rattle.auction.specs.declared.Closing.{Closing}

-- beside a number, zeros only
unfoldable pub refused : ℕ → Closing
refused why = record { refusal = why; raised = 0; lowered = 0; prices = replicate 32 0; assignment = replicate 64 0; gains = replicate 64 0 }

-- what is said of a close: rounds raised, rounds lowered, the closing prices in 32 places, the names at them and each bidder's gain from them in 64
abbrev pub named_at : Sheet → (raised lowered : ℕ) (prices : List ℕ) → Closing
named_at s raised lowered prices =
    record {
      refusal = 0;
      raised = raised;
      lowered = lowered;
      prices = places 32 prices;
      assignment = places 64 (assignment_at s prices);
      gains = places 64 (gains_at s prices);
    }

-- the close of a sheet's path, and of its path falling first
unfoldable pub closed : Sheet → Closing
closed s = named_at s (close s).ups (close s).downs (close s).prices

unfoldable pub falling_closed : Sheet → Closing
falling_closed s = named_at s (falling_close s).ups (falling_close s).downs (falling_close s).prices

-- the outcome of a sealed auction: by the number that turns its sheet down, or how it closes
unfoldable pub outcome : ℕ → Closing → Closing
outcome zero c = c
outcome (suc why) c = refused (suc why)

unfoldable pub sealed_above_of : ℕ → ℕ → (start floors bids : List ℕ) → Closing
sealed_above_of m n start floors bids = outcome (sealed_above_refusal m n start floors bids) (closed (sheet_above m n start floors bids))

-- and without floors: they are 0
unfoldable pub sealed_of : ℕ → ℕ → List ℕ → List ℕ → Closing
sealed_of m n start bids = outcome (sealed_refusal m n start bids) (closed (sheet_of m n start bids))

-- falling first, with floors
unfoldable pub falling_first_of : ℕ → ℕ → (start floors bids : List ℕ) → Closing
falling_first_of m n start floors bids = outcome (sealed_above_refusal m n start floors bids) (falling_closed (sheet_above m n start floors bids))

-- an outcome that stands for its sheet: the sheet is within the limits, and rounds, prices, names and gains are those of its closing, of which the rule's
-- `Closing` says all that demand 3 asks, and `Gains` all that document 02, #106, does
pub record Promised (s : Sheet) (r : Closing) : Type 0 where
  pub within : within_limits s ≡ true
  pub closing : rule.Closing s
  pub raised : r.raised ≡ closing.ups
  pub lowered : r.lowered ≡ closing.downs
  pub prices : r.prices ≡ places 32 closing.prices
  pub names : r.assignment ≡ places 64 (assignment_at s closing.prices)
  pub gains : r.gains ≡ places 64 (gains_at s closing.prices)
  pub gaining : Gains s closing.prices

-- falling first: rounds, prices, names and gains are those of its closing, and all but the rounds those of rising first
pub record PromisedFalling (s : Sheet) (r : Closing) : Type 0 where
  pub within : within_limits s ≡ true
  pub closing : FallingClosing s
  pub raised : r.raised ≡ closing.ups
  pub lowered : r.lowered ≡ closing.downs
  pub prices : r.prices ≡ places 32 closing.prices
  pub names : r.assignment ≡ places 64 (assignment_at s closing.prices)
  pub gains : r.gains ≡ places 64 (gains_at s closing.prices)
  pub gaining : Gains s closing.prices
  pub same-prices : r.prices ≡ (closed s).prices
  pub same_names : r.assignment ≡ (closed s).assignment
  pub same_gains : r.gains ≡ (closed s).gains
