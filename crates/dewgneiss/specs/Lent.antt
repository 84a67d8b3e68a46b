-- The sealed auction into lent lists: which number turns the call down. Assumes nothing: these are definitions.
use Rattle.std.specs.Prelude.{ℕ, ◌*◌, Bool, ◌||◌, cond, List, [], ◌∷◌, eqb}
use Rattle.rule.specs.Refusal.{on, first, bad_items, bad_bidders, bad_length, any_over, bad_floors}

-- the lists lent for the results are not exact: two rounds, a price for each item, an option and a gain for each bidder
unfoldable pub unfit : (m n : ℕ) (rounds prices options gains : List ℕ) → Bool
unfit m n rounds prices options gains = bad_length rounds 2 || bad_length prices m || bad_length options n || bad_length gains n

-- document 01's order for sealed auctions; 3 covers every lent length
unfoldable pub lent_refusal : (m n : ℕ) (start bids rounds prices options gains : List ℕ) → ℕ
lent_refusal m n start bids rounds prices options gains =
    first
    (on 1 (bad_items m)
    ∷ on 2 (bad_bidders n)
    ∷ on 3 (bad_length start m)
    ∷ on 3 (bad_length bids (n * m))
    ∷ on 3 (unfit m n rounds prices options gains)
    ∷ on 4 (any_over start)
    ∷ on 5 (any_over bids)
    ∷ [])

-- and with floors: 18 directly after 4
unfoldable pub lent_above_refusal : (m n : ℕ) (start floors bids rounds prices options gains : List ℕ) → ℕ
lent_above_refusal m n start floors bids rounds prices options gains =
    first
    (on 1 (bad_items m)
    ∷ on 2 (bad_bidders n)
    ∷ on 3 (bad_length start m)
    ∷ on 3 (bad_length floors m)
    ∷ on 3 (bad_length bids (n * m))
    ∷ on 3 (unfit m n rounds prices options gains)
    ∷ on 4 (any_over start)
    ∷ on 18 (bad_floors start floors)
    ∷ on 5 (any_over bids)
    ∷ [])

-- the auction's own number, and 3 in its place
unfoldable pub with_lengths : (why : ℕ) (unfit : Bool) → ℕ
with_lengths why unfit = cond (eqb why 1 || eqb why 2) why (cond unfit 3 why)
