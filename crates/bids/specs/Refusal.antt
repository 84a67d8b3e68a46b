-- What turns the lent numbers of a sheet down: document 01, "Order"; document 02, #103. Assumes nothing: these are definitions.
use Rattle.std.specs.Prelude.{ℕ, ◌*◌, List, [], ◌∷◌}
use Rattle.rule.specs.Refusal.{on, first, bad_items, bad_bidders, bad_length, any_over, bad_floors}

-- the number that turns a sheet with floors down, or 0: 1, 2, 3, 4, 18, 5
unfoldable pub sealed_above_refusal : ℕ → ℕ → (start floors bids : List ℕ) → ℕ
sealed_above_refusal m n start floors bids =
    first
    (on 1 (bad_items m)
    ∷ on 2 (bad_bidders n)
    ∷ on 3 (bad_length start m)
    ∷ on 3 (bad_length floors m)
    ∷ on 3 (bad_length bids (n * m))
    ∷ on 4 (any_over start)
    ∷ on 18 (bad_floors start floors)
    ∷ on 5 (any_over bids)
    ∷ [])

-- and without floors: 1, 2, 3, 4, 5
unfoldable pub sealed_refusal : ℕ → ℕ → List ℕ → List ℕ → ℕ
sealed_refusal m n start bids =
    first (on 1 (bad_items m) ∷ on 2 (bad_bidders n) ∷ on 3 (bad_length start m) ∷ on 3 (bad_length bids (n * m)) ∷ on 4 (any_over start) ∷ on 5 (any_over bids) ∷ [])
