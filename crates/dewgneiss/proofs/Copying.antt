-- The first numbers of a list, as they are copied into a lent one. Assumes nothing.
use Prim.Native.Nat.{ℕ, ◌≤◌}
use mathlib.Core.Path.{◌≡◌, sym, ap, ◌∙◌}
use mathlib.Core.List.{List}
use native.Mathlib.Omega.{arith}
use native.Mathlib.Nat.{zero-add}
use lib.ListN.{length, get_or, take}
use lib.Seq.{length-take-le, get_or-take}
use Rattle.sets.specs.Lists.{places}
use Rattle.sets.proofs.Lists.{is-tabulate}

module _ (n w : ℕ) (xs : List ℕ) (l : n ≤ w) (e : length xs ≡ w) where
  -- as many as the lent list has places
  pub as-long : (lent : List ℕ) → length lent ≡ n → length lent ≡ length (take n xs)
  as-long lent h = h ∙ sym (length-take-le n xs (omega arith))

  pub take-places : take n xs ≡ places n xs
  unfolding places
  take-places =
      is-tabulate n (take n xs) (λ k. get_or xs k 0) 0 (length-take-le n xs (omega arith)) (λ k lk. get_or-take n xs k 0 lk ∙ ap (λ (j : ℕ). get_or xs j 0) (sym (zero-add k)))
