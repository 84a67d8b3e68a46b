-- The first four bytes were read, so they are there. Assumes nothing.
use Prim.Native.Nat.{ℕ, ◌≤◌}
use mathlib.Core.Path.{◌≡◌}
use mathlib.Core.List.{List}
use Rattle.std.specs.Prelude.{Some}
use native.Mathlib.Omega.{arith}
use lib.ListN.{length}
use Rattle.digits.proofs.Digits.{hex-length}
use Rattle.digits.proofs.Numbers.{number_read}
use Rattle.sheet.specs.BidSheet.{items_in, bidders_in}

module _ (bytes : List ℕ) (m : ℕ) (e : items_in bytes ≡ Some m) where
  pub two-bytes : 2 ≤ length bytes
  unfolding items_in
  two-bytes = omega (arith, (number_read bytes 2 0 m (omega arith) e).1.fits, hex-length 2 m)

  pub four_bytes : (n : ℕ) → bidders_in bytes ≡ Some n → 4 ≤ length bytes
  unfolding bidders_in
  four_bytes n f = omega (arith, (number_read bytes 2 2 n two-bytes f).1.fits, hex-length 2 n)
