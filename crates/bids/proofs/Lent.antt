-- The lines of lent bids. Assumes nothing.
use Prim.Native.Nat.{ℕ, ◌+◌, ◌*◌, ◌≤◌, ◌<◌}
use mathlib.Core.Path.{◌≡◌, ap, ◌∙◌}
use mathlib.Core.List.{List, []}
use native.Mathlib.Omega.{arith}
use native.Mathlib.Nat.{suc-mul, mul-le-mul_right, zero-add}
use lib.ListN.{length, get_or, drop, length-drop}
use lib.Seq.{length-take-le, get_or-take, get_or-drop}
use Rattle.sets.proofs.Lists.{tabulate-length, tabulate-at}
use Rattle.rule.specs.Sheet.{row}
use Rattle.bids.specs.Lent.{line_of, rows_of}

pub rows-length : (m n : ℕ) (bids : List ℕ) → length (rows_of m n bids) ≡ n
unfolding rows_of
rows-length m n bids = tabulate-length n (line_of m bids) 0

pub row_at : (m n : ℕ) (bids : List ℕ) (b : ℕ) → b < n → row (rows_of m n bids) b ≡ line_of m bids b
unfolding row rows_of
row_at m n bids b l = tabulate-at n (line_of m bids) 0 b [] l ∙ ap (line_of m bids) (zero-add b)

-- a bidder's line lies within the bids, and is as long as there are items
pub line-inside : (m n b l : ℕ) → l ≡ n * m → b < n → b * m + m ≤ l
line-inside m n b l e lt = omega (arith, e, suc-mul b m, mul-le-mul_right m lt)

pub line-length : (m : ℕ) (bids : List ℕ) (b : ℕ) → b * m + m ≤ length bids → length (line_of m bids b) ≡ m
unfolding line_of
line-length m bids b l = length-take-le m (drop (b * m) bids) (omega (arith, length-drop (b * m) bids))

pub line-at : (m : ℕ) (bids : List ℕ) (b k : ℕ) → k < m → get_or (line_of m bids b) k 0 ≡ get_or bids (b * m + k) 0
unfolding line_of
line-at m bids b k l = get_or-take m (drop (b * m) bids) k 0 l ∙ get_or-drop (b * m) bids k 0
