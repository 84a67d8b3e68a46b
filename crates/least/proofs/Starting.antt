-- Where the two rises start: the floors and the starting prices of a sheet that no number turns down, in 32 places. Assumes nothing.
use Prim.Native.Nat.{ℕ, zero, suc, ◌≤◌, ◌<◌}
use mathlib.Core.Path.{◌≡◌, ap, ◌∙◌}
use mathlib.Core.List.{List}
use mathlib.Core.Logic.{◌⊎◌, inl, inr}
use native.Mathlib.Omega.{arith}
use lib.ListN.{length, get_or, get_or-eq_default}
use Rattle.sets.specs.Lists.{places}
use Rattle.sets.proofs.Counting.{lt-or-le}
use Rattle.sets.proofs.Lists.{places-length, places-at}
use Rattle.rule.specs.Sheet.{amount}
use Rattle.rule.specs.Equilibrium.{Below}
use Rattle.bids.specs.Fit.{Small}
use Rattle.bids.proofs.Limits.{Fine}
use Rattle.bids.proofs.Fitting.{start_fits, floors-fit, places-fit}
use Rattle.least.specs.Lifting.{Starts}

-- small amounts of m items
starts : (m : ℕ) (xs ys : List ℕ) → length xs ≡ m → Small xs → ys ≡ places 32 xs → Starts m ys
starts m xs ys long small e = record { small = (places-fit xs small ys e).0; long = (places-fit xs small ys e).1; past = λ x l. past x l (lt-or-le x 32) }
  where
    past : (x : ℕ) → m ≤ x → (x < 32) ⊎ (32 ≤ x) → get_or ys x 0 ≡ 0
    past x l (inl h) = ap (λ (z : List ℕ). get_or z x 0) e ∙ places-at 32 xs x h ∙ get_or-eq_default xs 0 {n = x} (omega (arith, long, l))
    past x l (inr h) = get_or-eq_default ys 0 {n = x} (omega (arith, ap length e, places-length 32 xs, h))

module _ {m n : ℕ} {start floors bids : List ℕ} (f : Fine m n start floors bids) where
  pub short-floors : length floors ≤ 32
  short-floors = (floors-fit f).1

  pub short-start : length start ≤ 32
  short-start = (start_fits f).1

  pub from-floors : (low : List ℕ) → low ≡ places 32 floors → Starts m low
  from-floors low e = starts m floors low f.floors-long (floors-fit f).0 e

  pub from_start : (first : List ℕ) → first ≡ places 32 start → Starts m first
  from_start first e = starts m start first f.start-long (start_fits f).0 e

  -- no floor is above its starting price
  pub floors-below : (low first : List ℕ) → low ≡ places 32 floors → first ≡ places 32 start → Below low first
  unfolding Below amount
  floors-below low first el ef zero = omega arith
  floors-below low first el ef (suc x) = go (lt-or-le x 32)
    where
      go : (x < 32) ⊎ (32 ≤ x) → get_or low x 0 ≤ get_or first x 0
      go (inl h) =
          omega (
            arith,
            ap (λ (z : List ℕ). get_or z x 0) el,
            ap (λ (z : List ℕ). get_or z x 0) ef,
            places-at 32 floors x h,
            places-at 32 start x h,
            f.floors-below x,
          )
      go (inr h) = omega (arith, get_or-eq_default low 0 {n = x} (omega (arith, ap length el, places-length 32 floors, h)))
