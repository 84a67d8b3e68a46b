-- What a sheet has that no number turns down. Assumes nothing.
use Prim.Native.Nat.{ℕ, ◌+◌, ◌*◌, ◌≤◌, ◌<◌}
use mathlib.Core.Path.{◌≡◌, sym, ap, ◌∙◌, subst}
use mathlib.Core.List.{List}
use mathlib.Core.Logic.{◌⊎◌, inl, inr}
use native.Mathlib.Omega.{arith}
use lib.ListN.{length, get_or, drop, length-take, get_or-eq_default}
use Rattle.sets.specs.Lists.{places}
use Rattle.sets.proofs.Counting.{lt-or-le}
use Rattle.sets.proofs.Lists.{places-length, places-at}
use Rattle.bids.specs.Lent.{line_of}
use Rattle.bids.specs.Fit.{Small, Fit}
use Rattle.bids.proofs.Lent.{line-at}
use Rattle.bids.proofs.Limits.{Fine}

all_small : (xs : List ℕ) → ((k : ℕ) → k < length xs → get_or xs k 0 ≤ 4095) → Small xs
unfolding Small
all_small xs h k = go (lt-or-le k (length xs))
  where
    go : (k < length xs) ⊎ (length xs ≤ k) → get_or xs k 0 ≤ 4095
    go (inl l) = h k l
    go (inr l) = omega (arith, get_or-eq_default xs 0 {n = k} l)

-- a bidder's line
pub line_small : (m : ℕ) (bids : List ℕ) → Small bids → (b : ℕ) → Small (line_of m bids b)
unfolding Small line_of
line_small m bids h b = all_small (line_of m bids b) at
  where
    at : (k : ℕ) → k < length (line_of m bids b) → get_or (line_of m bids b) k 0 ≤ 4095
    at k lk = omega (arith, line-at m bids b k (omega (arith, lk, length-take m (drop (b * m) bids))), h (b * m + k))

-- small amounts in 32 places
pub places-fit : (xs : List ℕ) → Small xs → (ys : List ℕ) → ys ≡ places 32 xs → Small ys × (length ys ≡ 32)
unfolding Small
places-fit xs h ys e = (subst Small (sym e) (all_small (places 32 xs) at), ap length e ∙ places-length 32 xs)
  where
    at : (k : ℕ) → k < length (places 32 xs) → get_or (places 32 xs) k 0 ≤ 4095
    at k l = omega (arith, places-at 32 xs k (omega (arith, l, places-length 32 xs)), h k)

module _ {m n : ℕ} {start floors bids : List ℕ} (f : Fine m n start floors bids) where
  pub bids-fit : Fit m n bids
  bids-fit = record { some_item = f.some_item; max_items = f.max_items; max_bidders = f.max_bidders; long = f.bids-long; small = all_small bids f.amounts }

  pub start_fits : Small start × (length start ≤ 32)
  start_fits = (all_small start f.starts, omega (arith, f.start-long, f.max_items))

  pub floors-fit : Small floors × (length floors ≤ 32)
  floors-fit = (all_small floors f.floors-most, omega (arith, f.floors-long, f.max_items))
