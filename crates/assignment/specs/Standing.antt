-- What the code holds in structs, in the words of the other files. Assumes nothing: these are definitions.
use Rattle.std.specs.Prelude.{ℕ, ◌≤◌, ◌≡◌, List, [], ◌∷◌, ◌++◌}
use Rattle.assignment.specs.declared.Ways.{Ways}
use Rattle.assignment.specs.declared.Standing.{Standing}
use Rattle.assignment.specs.Choice.{next_option, Completes}
use Rattle.assignment.specs.Search.{Grown, Pooled}
use Rattle.assignment.specs.Turn.{Turn}

-- the ways after some places are entered, whose step leads to q
abbrev pub Grows : ℕ → (ℕ → ℕ → Type 0) → Ways → Ways → Type 0
Grows q enters old new = Grown q enters old.next old.entered old.seen new.next new.entered new.seen

-- and after the step of nobody
abbrev pub Pools : ℕ → ℕ → ℕ → ℕ → Ways → Ways → Type 0
Pools q unpriced spare t old new = Pooled q unpriced spare t old.next old.entered old.seen new.next new.entered new.seen

-- x completes the options of the bidders before k
abbrev pub AtTurn : Standing → List ℕ → Type 0
AtTurn s x = Turn s.demands s.who x s.above s.opens s.later s.k s.n

-- bidder k has its option i, and y completes the options up to it
abbrev pub Chosen : Standing → List ℕ → ℕ → List ℕ → Type 0
Chosen s x i y =
    (i ≤ 32) × ((t : AtTurn s x) → (i ≡ next_option s.n t.sets t.nulls s.above t.ys) × Completes s.n t.sets t.nulls s.above (t.ys ++ (i ∷ [])) y)
