-- Why each round moved its set: document 02, #101, the sheet of reasons. Assumes nothing: these are definitions.
use Rattle.std.specs.Prelude.{ℕ, ◌+◌, ◌-◌, ◌≤◌, ◌<◌, Bool, List, ◌≡◌, length}
use Rattle.sets.specs.Bit.{set_of, size}
use Rattle.rule.specs.Sheet.{Sheet}
use Rattle.rule.specs.Demand.{Demand, nth}
use Rattle.rule.specs.Excess.{something_in, nothing_outside}
use Rattle.rule.specs.Round.{Round, raised, lowered, closed, path, close}
use Rattle.rule.specs.Closing.{demands_at, round_of}

-- the set of the bidders (rakers) whose demand passes the test: bit b − 1 stands for bidder b
unfoldable pub bidders_with : List Demand → (Demand → Bool) → ℕ
bidders_with ds f = set_of (length ds) λ b. f (nth ds (b - 1))

-- a round's reason: its kind, the set of items (pans) that it moves, and the bidders for whose demands it does
pub record Reason : Type 0 where
  pub kind : ℕ
  pub items : ℕ
  pub bidders : ℕ

-- 1, raised: the bidders who demand nothing outside the set, null (no pan) being outside. 2, lowered: those who demand something in it. A close moves nothing, and
-- has no reason
unfoldable pub reason_of : ℕ → List Demand → Round → Reason
reason_of m ds (raised s) = record { kind = 1; items = s; bidders = bidders_with ds (nothing_outside m s) }
reason_of m ds (lowered s) = record { kind = 2; items = s; bidders = bidders_with ds (something_in m s) }
reason_of m ds closed = record { kind = 0; items = 0; bidders = 0 }

-- the reason of round k + 1 of a sheet's path: the demands are those at the prices before the round
unfoldable pub reason_at : Sheet → ℕ → Reason
reason_at s k = reason_of s.items (demands_at s (path s k).prices) (round_of s k)

-- how many rounds a sheet's path has to its close
unfoldable pub round_count : Sheet → ℕ
round_count s = (close s).ups + (close s).downs

-- what is shown of every reason, of m items and n bidders: a raised set has more such bidders than items, and a lowered set no more than it has items
pub record Justified (m n : ℕ) (r : Reason) : Type 0 where
  pub raised_more : r.kind ≡ 1 → size m r.items < size n r.bidders
  pub lowered_no_more : r.kind ≡ 2 → size n r.bidders ≤ size m r.items
