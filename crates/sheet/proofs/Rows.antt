-- The bids, line after line: what has been read stands ahead of the lines that are left. Assumes nothing.
use Prim.Native.Nat.{ℕ, zero, suc, ◌+◌, ◌*◌, ◌-◌, ◌≤◌, ◌<◌}
use mathlib.Core.Path.{◌≡◌, refl, sym, ap, ◌∙◌}
use mathlib.Core.Bool.{Bool, true, false, cond}
use mathlib.Core.List.{List, [], ◌++◌, append_assoc, append-nil}
use Rattle.std.specs.Prelude.{Option, None, Some}
use native.Mathlib.Omega.{arith}
use native.Mathlib.Nat.{lt_irrefl, suc-mul, mul-le-mul, mul-le-mul_right}
use native.Mathlib.Numerals.{add-one}
use lib.Dec.{eqb}
use lib.ListN.{length, take, length-append}
use lib.Seq.{take_at, length-take-le}
use borrow.Rule.Slice.PartMut.{mid_of, post_of, put_mid, mid_len}
use Rattle.digits.specs.Reading.{◌>>=◌}
use Rattle.lines.specs.Reading.{line_at}
use Rattle.lines.proofs.Lengths.{line-length}
use Rattle.digits.proofs.Gives.{gives}
use Rattle.lines.proofs.Line.{line_read}
use Rattle.sheet.specs.BidSheet.{bids_at}
use Rattle.sheet.specs.Steps.{read_as}
use Rattle.sheet.proofs.Ahead.{ahead, ahead-both}

-- ---- places of the bids

pub next_row : (b m : ℕ) → (b + 1) * m ≡ b * m + m
next_row b m = ap (λ (k : ℕ). k * m) (add-one b) ∙ suc-mul b m

pub row_inside : (b n m : ℕ) → b < n → b * m + m ≤ n * m
row_inside b n m l = omega (arith, suc-mul b m, mul-le-mul_right m l)

pub few : (n m : ℕ) → n ≤ 64 → m ≤ 32 → n * m ≤ 2048
few n m h l = mul-le-mul h l

module _ (into : List ℕ) (b m : ℕ) (fits : b * m + m ≤ length into) where
  width : b * m + m - b * m ≡ m
  width = omega arith

  -- the part that is lent for line b
  pub part_length : length (mid_of (b * m) (b * m + m - b * m) into) ≡ m
  part_length = mid_len (b * m) (b * m + m) into fits ∙ width

  -- the part is back with the bids of the line
  pub part-back : (xs : List ℕ) → length xs ≡ m → take ((b + 1) * m) (put_mid (b * m) (b * m + m - b * m) into xs) ≡ take (b * m) into ++ xs
  part-back xs e =
      let k : ℕ = b * m + m - b * m in
      let start : List ℕ = take (b * m) into in
      let l : length (start ++ xs) ≡ (b + 1) * m =
      omega (arith, length-append start xs, length-take-le (b * m) into (omega (arith, fits)), e, next_row b m) in
      ap (take ((b + 1) * m)) (sym (append_assoc start xs (post_of (b * m) k into))) ∙ take_at (start ++ xs) (post_of (b * m) k into) ((b + 1) * m) l

-- ---- the lines

module _ (bytes : List ℕ) (m : ℕ) where
  -- a line that was read ends within the bytes
  pub line-inside : (here : ℕ) (xs : List ℕ) → here ≤ length bytes → line_at m 4 bytes here ≡ Some xs → here + (4 * m + 1) ≤ length bytes
  line-inside here xs l e = omega (arith, (line_read bytes m 4 here xs l e).1.fits, line-length m 4 xs)

  pub bids-stop : (j here : ℕ) → 0 < j → line_at m 4 bytes here ≡ None → bids_at j m bytes here ≡ None
  unfolding bids_at
  bids-stop zero here l e = absurd (lt_irrefl 0 l)
  bids-stop (suc j) here l e = ap (λ (o : Option (List ℕ)). o >>= λ xs. bids_at j m bytes (here + 4 * m + 1) >>= λ ys. Some (xs ++ ys)) e

  first_of : (j here : ℕ) (xs : List ℕ) → 0 < j → line_at m 4 bytes here ≡ Some xs → bids_at j m bytes here ≡ ahead xs (bids_at (j - 1) m bytes (here + (4 * m + 1)))
  unfolding bids_at
  first_of zero here xs l e = absurd (lt_irrefl 0 l)
  first_of (suc j) here xs l e =
      let f : suc j - 1 ≡ j = omega arith in
      let g : here + (4 * m + 1) ≡ here + 4 * m + 1 = omega arith in
      rw (f, g) (gives (line_at m 4 bytes here) (λ ys. bids_at j m bytes (here + 4 * m + 1) >>= λ zs. Some (ys ++ zs)) xs e)

  pub bids-step : (all : Option (List ℕ)) (before : List ℕ) (n b here : ℕ) (xs : List ℕ) → b < n → line_at m 4 bytes here ≡ Some xs
      → all ≡ ahead before (bids_at (n - b) m bytes here) → all ≡ ahead (before ++ xs) (bids_at (n - (b + 1)) m bytes (here + (4 * m + 1)))
  bids-step all before n b here xs l e h =
      let f : n - b - 1 ≡ n - (b + 1) = omega arith in
      h
      ∙ ap (ahead before) (first_of (n - b) here xs (omega arith) e)
      ∙ ahead-both before xs (bids_at (n - b - 1) m bytes (here + (4 * m + 1)))
      ∙ ap (λ (j : ℕ). ahead (before ++ xs) (bids_at j m bytes (here + (4 * m + 1)))) f

  pub bids-done : (all : Option (List ℕ)) (before : List ℕ) (n b here : ℕ) → n ≤ b → all ≡ ahead before (bids_at (n - b) m bytes here)
      → all ≡ read_as (eqb here (length bytes)) before
  unfolding bids_at
  bids-done all before n b here l h =
      let f : n - b ≡ 0 = omega arith in
      h ∙ ap (λ (j : ℕ). ahead before (bids_at j m bytes here)) f ∙ go (eqb here (length bytes))
    where
      go : (t : Bool) → ahead before (cond t (Some []) None) ≡ read_as t before
      go true = ap {B = Option (List ℕ)} Some (append-nil before)
      go false = refl
