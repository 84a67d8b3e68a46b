-- Live lists and the bids that explain their reports: document 02, #107. The lists are those that run with their tables from an opening, each call bringing record and tables as the
-- last one left them, whatever is reported. Assumes nothing: these are definitions.
use Rattle.std.specs.Prelude.{ℕ, suc, ◌<◌, Bool, true, false, ◌&&◌, not, List, [], ◌∷◌, ◌++◌, ◌≡◌, eqb, length, ℤ}
use Rattle.sets.specs.Count.{◌⇒◌}
use Rattle.rule.specs.Sheet.{Sheet, each4095, within_limits}
use Rattle.rule.specs.Demand.{Demand, nth}
use Rattle.rule.specs.Round.{Round, raised, lowered, closed}
use Rattle.rule.specs.Closing.{demands_at}
use Rattle.differences.specs.Table.{meets}
use Rattle.differences.specs.Allowed.{explains}
use Rattle.differences.specs.Lent.{table_at}
use Rattle.live.specs.Auction.{place, has_reported, reports_of}
use Rattle.live.specs.Calls.{Ending, gives, refused, end_answer}
use Rattle.live.specs.declared.Auction.{Auction}
use Rattle.live.specs.declared.Phase.TheVariants.{Closed}
use Rattle.agreement.specs.Calls.{Call, reporting, ending, clearing, reading, Answer, told, ended, shown, Held, call, run}
use Rattle.agreement.specs.Machine.{Machine, begin, ran, machine_run}
use Rattle.agreement.specs.Agreement.{opened_with, never, ClosedAs}

-- ---- the rounds of a list

-- a round that was played: the prices at which it was ended, the reports of all bidders, and whether it moved; a round that did not is the close
pub record Played : Type 0 where
  pub prices : List ℕ
  pub reports : List Demand
  pub moved : Bool

unfoldable pub has_moved : Round → Bool
has_moved (raised s) = true
has_moved (lowered s) = true
has_moved closed = false

-- an end on this record that gives a round plays it, and one that is turned down plays none
unfoldable pub played_by : Auction → Ending → List Played
played_by r (gives x) = record { prices = r.prices; reports = reports_of r; moved = has_moved x } ∷ []
played_by r (refused n) = []

unfoldable pub played_in : Held → Call → List Played
played_in h (reporting b d) = []
played_in h ending = played_by h.auction (end_answer h.auction h.tables)
played_in h clearing = []
played_in h (reading out) = []

unfoldable pub played : Held → List Call → List Played
played h [] = []
played h (c ∷ cs) = played_in h c ++ played (call h c).next cs

-- ---- bids that explain

-- the bids explain the reports that the bidder of place k made in the rounds that moved
unfoldable pub explains_moved : (items k : ℕ) → List Played → (bids : List ℕ) → Bool
explains_moved m k [] bids = true
explains_moved m k (q ∷ qs) bids = (q.moved ⇒ explains m q.prices (nth q.reports k) bids) && explains_moved m k qs bids

-- the sheet's demands are the reports of every round that was played
unfoldable pub ExplainsRounds : Sheet → List Played → Type 0
ExplainsRounds s [] = Unit {0}
ExplainsRounds s (q ∷ qs) = (demands_at s q.prices ≡ q.reports) × ExplainsRounds s qs

-- and each report that stands in the record is the bidder's demand at its prices
unfoldable pub ExplainsStanding : Sheet → Auction → Type 0
ExplainsStanding s r = (k : ℕ) → k < r.bidders → has_reported r (suc k) ≡ true → nth (demands_at s r.prices) k ≡ place r k

-- ---- what holds of every list from an opening

-- the number n is not among the answers to the ends
unfoldable pub never_at_end : ℕ → List Answer → Bool
never_at_end n [] = true
never_at_end n (told x ∷ rest) = never_at_end n rest
never_at_end n (ended (gives r) ∷ rest) = never_at_end n rest
never_at_end n (ended (refused x) ∷ rest) = not (eqb x n) && never_at_end n rest
never_at_end n (shown x out ∷ rest) = never_at_end n rest

module _ (m n : ℕ) (start floors : List ℕ) (lent : List ℤ) (calls : List Call) where
  abbrev pub opens : Held
  opens = opened_with m n start floors lent

  -- a sheet that is let with the opening's starting prices and floors and explains all reports not cleared: those of every round played, and those that stand
  pub record ExplainedBy (s : Sheet) : Type 0 where
    pub within : within_limits s ≡ true
    pub same_items : s.items ≡ m
    pub same_bidders : length s.bids ≡ n
    pub same_start : s.start ≡ start
    pub same_floors : s.floors ≡ floors
    pub rounds : ExplainsRounds s (played opens calls)
    pub standing : ExplainsStanding s (run opens calls).last.auction

  -- what follows for such a sheet: the machine fed with it and the calls never leaves it and gives the list's answers, and a close is the sheet's
  pub record LetAs (s : Sheet) : Type 0 where
    pub after : Machine
    pub stays : machine_run s (begin s) calls ≡ ran (run opens calls).answers after
    pub closes : (run opens calls).last.auction.phase ≡ Closed → ClosedAs s (run opens calls).last.auction

  pub record Coherent : Type 0 where
    -- a table allows just the bids that explain that bidder's reports of the rounds that moved
    pub allows_just : (k : ℕ) → k < n → (bids : List ℕ) → each4095 m bids ≡ true
        → meets m (table_at (run opens calls).last.tables k) bids ≡ explains_moved m k (played opens calls) bids
    -- some bid sheet explains all reports not cleared, and the auction is let as every such sheet is
    pub sheet : Sheet
    pub explained : ExplainedBy sheet
    pub let_as : (s : Sheet) → ExplainedBy s → LetAs s
    -- 11, 16 and 17 never occur, and 19 at no end
    pub no_eleven : never 11 (run opens calls).answers ≡ true
    pub no_sixteen : never 16 (run opens calls).answers ≡ true
    pub no_seventeen : never 17 (run opens calls).answers ≡ true
    pub no_nineteen : never_at_end 19 (run opens calls).answers ≡ true
