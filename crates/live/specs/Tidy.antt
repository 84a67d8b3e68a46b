-- What the functions inside a report and an end rest on, and what they answer. Assumes nothing: these are definitions.
use Rattle.std.specs.Prelude.{ℕ, zero, suc, Bool, true, false, ◌&&◌, not, List, [], ◌∷◌, ◌≡◌, eqb, ℤ}
use Rattle.rule.specs.Round.{raised, lowered, closed}
use Rattle.rule.specs.Refusal.{on, first}
use Rattle.live.specs.Auction.{counts_fit, unused_prices, unused_places, unused_bits, missing, rising_set, well_formed}
use Rattle.live.specs.Tables.{bad_tables, tables_fit, any_unexplained}
use Rattle.live.specs.Calls.{is_closed, is_falling, is_rising, at_top, round_by, settled, Ending, gives, refused}
use Rattle.live.specs.declared.Auction.{Auction}

-- the counts are in range, and every unused place and bit is zero: the reports are those of so many bidders on so many items
pub record Tidy (r : Auction) : Type 0 where
  pub counts : counts_fit r ≡ true
  pub prices : unused_prices r ≡ true
  pub places : unused_places r ≡ true
  pub bits : unused_bits r ≡ true

-- none of 11, 12 and 14 applies
pub record Ready (r : Auction) : Type 0 where
  pub formed : well_formed r ≡ true
  pub running : is_closed r.phase ≡ false
  pub complete : missing r ≡ false

-- nor do 16 and 17, as the rising set is empty
pub record Calm (r : Auction) : Type 0 where
  pub ready : Ready r
  pub empty : rising_set r ≡ 0

-- ---- the numbers of a report and of an end, part by part

-- what record and tables are refused for before anything is asked of them: 11, 3, 11
unfoldable pub fit_number : Auction → List ℤ → ℕ
fit_number r ts = first (on 11 (not (well_formed r)) ∷ on 3 (bad_tables r.bidders ts) ∷ on 11 (not (tables_fit r ts)) ∷ [])

-- neither applies
pub record Fit (r : Auction) (ts : List ℤ) : Type 0 where
  pub formed : well_formed r ≡ true
  pub long : bad_tables r.bidders ts ≡ false
  pub fit : tables_fit r ts ≡ true

-- an end, before its round is looked for: 11, 3, 11, 12, 14, 19
unfoldable pub ready_number : Auction → List ℤ → ℕ
ready_number r ts =
    first
    (on 11 (not (well_formed r))
    ∷ on 3 (bad_tables r.bidders ts)
    ∷ on 11 (not (tables_fit r ts))
    ∷ on 12 (is_closed r.phase)
    ∷ on 14 (missing r)
    ∷ on 19 (any_unexplained r ts)
    ∷ [])

-- and then: 16 or 17
unfoldable pub round_number : Auction → ℕ
round_number r =
    first
    (on 16 (is_falling r.phase && not (eqb (rising_set r) 0))
    ∷ on 17 (is_rising r.phase && at_top r.items r.prices (rising_set r))
    ∷ [])

unfoldable pub round_answer : Auction → Ending
round_answer r = elim (round_number r) [ zero ↦ gives (round_by r) | suc j ↦ refused (suc j) ]

unfoldable pub round_next : Auction → Auction
round_next r = elim (round_number r) [ zero ↦ settled r (round_by r) | suc j ↦ r ]

-- the round moved
unfoldable pub is_move : Ending → Bool
is_move (gives (raised s)) = true
is_move (gives (lowered s)) = true
is_move (gives closed) = false
is_move (refused n) = false
