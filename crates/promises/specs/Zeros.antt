-- Request #102: a zero is no bid. Every field is a sentence by itself. `Former` has the rule as it was without the request. Assumes nothing: these are statements,
-- which `proofs/Zeros` proves.
use Rattle.std.specs.Prelude.{ℕ, suc, ◌+◌, ◌<◌, true, List, map, ◌≡◌, length}
use Rattle.sets.specs.Bit.{set_of}
use Rattle.rule.specs.Sheet.{Sheet, amount, row, within_limits}
use Rattle.rule.specs.Demand.{best, Demand, demand, demands, wants, nth}
use Rattle.rule.specs.Excess.{excess_demand, excess_supply, above_floors}
use Rattle.rule.specs.Round.{rising, round, move, path, close}
use Rattle.rule.specs.Assignment.{option, fits}
use Rattle.rule.specs.Closing.{excess_demand_at, excess_supply_at, round_of, assignment_at}
use Rattle.rule.specs.Reasons.{reason_of, reason_at}
use Rattle.rule.specs.Former.{former_path, former_round_of}
use Rattle.bids.specs.Lent.{line_of}
use Rattle.bids.specs.Refusal.{sealed_above_refusal}
use Rattle.auction.specs.Sealed.{sealed_above_of, falling_first_of}
use Rattle.lines.specs.Lines.{joined}
use Rattle.reasons.specs.Sheets.{reason_line, reason_sheet}
use Rattle.promises.specs.Demand3Sealed.{NotAbove, Balances}

-- the demands as they were
abbrev pub former_demands_at : Sheet → List ℕ → List Demand
former_demands_at s p = map (λ b. record { null = best s.items p b 0; items = set_of s.items (best s.items p b) }) s.bids

abbrev pub FormerlyBalances : Sheet → List ℕ → Type 0
FormerlyBalances s q = NotAbove s.floors q × ((xs : List ℕ) × (fits s.items (above_floors s.items s.floors q) (former_demands_at s q) xs ≡ true))

pub record Request102 : Type 0 where
  -- "a pan with bid 0 is never in a raker's demand, also at rent 0", at any prices; and a demand is never empty
  pub never_demanded : (m : ℕ) (prices bids : List ℕ) (i : ℕ) → i < suc m → 0 < i → wants (demand m prices bids) i ≡ true → 0 < amount bids i
  pub never_empty : (m : ℕ) (bids : List (List ℕ)) (prices : List ℕ) (b : ℕ) → b < length (demands m bids prices)
      → (i : ℕ) × (i < suc m) × (wants (nth (demands m bids prices) b) i ≡ true)
  -- nobody is named a pan that they bid 0 for: in no naming that fits, at any prices, and so in none at a close
  pub never_named : (m above : ℕ) (bids : List (List ℕ)) (prices xs : List ℕ) → fits m above (demands m bids prices) xs ≡ true
      → (b : ℕ) → b < length bids → 0 < option xs b → 0 < amount (row bids b) (option xs b)
  pub never_at_close : (s : Sheet) → within_limits s ≡ true → (b : ℕ) → b < length s.bids → 0 < option (assignment_at s (close s).prices) b
      → 0 < amount (row s.bids b) (option (assignment_at s (close s).prices) b)
  -- nor in the outcome of a sealed letting, rising or falling first
  pub never_sealed : (m n : ℕ) (start floors bids : List ℕ) → sealed_above_refusal m n start floors bids ≡ 0 → (b : ℕ) → b < n
      → 0 < option (sealed_above_of m n start floors bids).assignment b
      → 0 < amount (line_of m bids b) (option (sealed_above_of m n start floors bids).assignment b)
  pub never_falling : (m n : ℕ) (start floors bids : List ℕ) → sealed_above_refusal m n start floors bids ≡ 0 → (b : ℕ) → b < n
      → 0 < option (falling_first_of m n start floors bids).assignment b
      → 0 < amount (line_of m bids b) (option (falling_first_of m n start floors bids).assignment b)
  -- the rule as it was: every option of the highest gain, no pan included, was demanded; a path by these demands, from the starting rents
  pub former_start : (s : Sheet) → former_path s 0 ≡ record { phase = rising; prices = s.start; ups = 0; downs = 0 }
  pub former_next : (s : Sheet) (k : ℕ) → former_path s (suc k) ≡ move s.items (former_path s k) (former_round_of s k)
  pub former_round : (s : Sheet) (k : ℕ) → former_round_of s k
      ≡ round s.items (above_floors s.items s.floors (former_path s k).prices) (former_demands_at s (former_path s k).prices) (former_path s k).phase
  -- "rents and rounds come out unchanged for every sheet": rents, phase and counts after each round, each round's kind and pans, the close
  pub same_states : (s : Sheet) (k : ℕ) → path s k ≡ former_path s k
  pub same_rounds : (s : Sheet) (k : ℕ) → round_of s k ≡ former_round_of s k
  pub same_close : (s : Sheet) → close s ≡ former_path s 8190
  -- at any rents, also off the path, both sets are the same
  pub same_rising : (s : Sheet) (p : List ℕ) → excess_demand_at s p ≡ excess_demand s.items (former_demands_at s p)
  pub same_falling : (s : Sheet) (p : List ℕ) → excess_supply_at s p ≡ excess_supply s.items (above_floors s.items s.floors p) (former_demands_at s p)
  -- so does the sheet of reasons, and the same rents balance
  pub same_reasons : (s : Sheet) (k : ℕ) → reason_at s k ≡ reason_of s.items (former_demands_at s (former_path s k).prices) (former_round_of s k)
  pub same_sheet : (s : Sheet) → reason_sheet s
      ≡ joined ((former_path s 8190).ups + (former_path s 8190).downs) λ k. reason_line (k + 1) (reason_of s.items (former_demands_at s (former_path s k).prices) (former_round_of s k))
  pub still_balance : (s : Sheet) (q : List ℕ) → FormerlyBalances s q → Balances s q
  pub balanced_before : (s : Sheet) (q : List ℕ) → Balances s q → FormerlyBalances s q
