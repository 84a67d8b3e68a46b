-- The demands of all bidders at prices, by the lent bids of a sheet, as the code holds them. Assumes nothing: these are definitions.
use Rattle.std.specs.Prelude.{ℕ, ◌*◌, ◌-◌, Bool, ◌&&◌, cond, List, [], map, leb, eqb, length}
use Rattle.sets.specs.Bit.{set_of}
use Rattle.sets.specs.Lists.{places}
use Rattle.rule.specs.Demand.{Demand, surplus, demands, surpluses, nth}
use Rattle.bids.specs.Lent.{rows_of}
use Rattle.demands.specs.declared.Demands.{Demands}

-- at most 32 items and 64 bidders, and a bid for each of both
unfoldable pub complete : (m n long : ℕ) → Bool
complete m n long = leb m 32 && leb n 64 && eqb long (n * m)

-- the highest surplus of a bidder whose bids are the line, null's included, which is 0; 0 also where the line is longer than 32
unfoldable pub surplus_of : (prices line : List ℕ) → ℕ
surplus_of prices line = cond (leb (length line) 32) (surplus (length line) prices line) 0

-- the demands of n bidders for m items, and their highest surpluses; of nobody where the bids are not complete
unfoldable pub demands_of : (m n : ℕ) (prices bids : List ℕ) → List Demand
demands_of m n prices bids = cond (complete m n (length bids)) (demands m (rows_of m n bids) prices) []

unfoldable pub surpluses_of : (m n : ℕ) (prices bids : List ℕ) → List ℕ
surpluses_of m n prices bids = cond (complete m n (length bids)) (surpluses m (rows_of m n bids) prices) []

-- both as the code holds them: an item set and a surplus in each of 64 places, zeros past the last bidder, and the set of the bidders who demand null
unfoldable pub held : List Demand → (surpluses : List ℕ) → Demands
held ds xs = record { sets = places 64 (map (λ d. d.items) ds); nulls = set_of (length ds) λ b. (nth ds (b - 1)).null; surpluses = places 64 xs }
