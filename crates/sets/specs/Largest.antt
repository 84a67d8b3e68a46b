-- The largest of the item sets that pass a test. Assumes nothing: this is a definition.
use Rattle.std.specs.Prelude.{ℕ, zero, suc, ◌^◌, Bool, ◌&&◌, cond, ltb}
use Rattle.sets.specs.Bit.{size}

-- of the sets of the items 1 to m that are numbered below n and pass the test, the largest; the empty one if there is none
unfoldable pub largest_below : ℕ → ℕ → (ℕ → Bool) → ℕ
largest_below m zero f = 0
largest_below m (suc n) f =
    let r : ℕ = largest_below m n f in
    cond (f n && ltb (size m r) (size m n)) n r

-- of all sets of the items 1 to m
unfoldable pub largest : ℕ → (ℕ → Bool) → ℕ
largest m f = largest_below m (2 ^ m) f
