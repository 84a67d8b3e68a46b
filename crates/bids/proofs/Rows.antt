-- A row of a table: where there is one, and what is shown of it. Assumes nothing.
use Prim.Native.Nat.{ℕ, ◌+◌, ◌*◌, ◌≤◌, ◌<◌}
use mathlib.Core.Path.{◌≡◌, sym, ap}
use mathlib.Core.Bool.{Bool, true, false, ◌&&◌, cond}
use mathlib.Core.List.{List, []}
use lib.Dec.{leb}
use lib.ListN.{length}
use borrow.Author.Tests.{le-leb, lt-leb}
use Rattle.sets.proofs.Counting.{and_both, and-right-false}
use Rattle.bids.specs.Lent.{line_of}
use Rattle.bids.specs.Line.{has_row, row_shown, row_start}

module _ (m b : ℕ) (table : List ℕ) where
  -- no row: nothing is shown, at the front
  pub record None : Type 0 where
    pub shown : [] ≡ row_shown m b table
    pub start : row_start m b table ≡ 0

  none : has_row m b table ≡ false → None
  unfolding row_shown row_start
  none e = record { shown = ap (λ (x : Bool). cond x (line_of m table b) []) (sym e); start = ap (λ (x : Bool). cond x (b * m) 0) e }

  pub too_wide : 64 < m → None
  unfolding has_row
  too_wide l = none (ap (λ (x : Bool). x && leb (b * m + m) (length table)) (lt-leb m 64 l))

  pub too_short : length table < b * m + m → None
  unfolding has_row
  too_short l = none (and-right-false (leb m 64) (leb (b * m + m) (length table)) (lt-leb (b * m + m) (length table) l))

  module _ (lm : m ≤ 64) (l : b * m + m ≤ length table) where
    has-row : has_row m b table ≡ true
    unfolding has_row
    has-row = and_both (leb m 64) (leb (b * m + m) (length table)) (le-leb m 64 lm) (le-leb (b * m + m) (length table) l)

    pub row_is : row_shown m b table ≡ line_of m table b
    unfolding row_shown
    row_is = ap (λ (x : Bool). cond x (line_of m table b) []) has-row

    pub start_is : row_start m b table ≡ b * m
    unfolding row_start
    start_is = ap (λ (x : Bool). cond x (b * m) 0) has-row
