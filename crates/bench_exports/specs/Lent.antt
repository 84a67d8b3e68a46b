-- A record of the live auction in lent lists. Assumes nothing: these are definitions.
use Rattle.std.specs.Prelude.{ℕ, zero, suc, ◌≡◌, List, [], ◌∷◌, get_or}
use Rattle.rule.specs.Round.{raised, lowered, closed}
use Rattle.live.specs.Calls.{Ending, gives, refused}
use Rattle.live.specs.declared.Auction.{Auction}
use Rattle.live.specs.declared.Phase.{Phase}
use Rattle.live.specs.declared.Phase.TheVariants.{Rising, Falling, Closed}

-- the phase: 0 rising, 1 falling, any other closed
unfoldable pub phase_of : ℕ → Phase
phase_of zero = Rising
phase_of (suc zero) = Falling
phase_of (suc (suc n)) = Closed

unfoldable pub phase_number : Phase → ℕ
phase_number Rising = 0
phase_number Falling = 1
phase_number Closed = 2

-- the record that stands in lists: the numbers are items, bidders, who says null, who has reported; the rounds raised, lowered, the phase
unfoldable pub record_in : (numbers prices floors sets rounds : List ℕ) → Auction
record_in numbers prices floors sets rounds =
    record {
      items = get_or numbers 0 0;
      bidders = get_or numbers 1 0;
      prices = prices;
      floors = floors;
      sets = sets;
      nulls = get_or numbers 2 0;
      reported = get_or numbers 3 0;
      phase = phase_of (get_or rounds 2 0);
      raised = get_or rounds 0 0;
      lowered = get_or rounds 1 0;
    }

-- the lists that a record is left in
pub record StandsIn (r : Auction) (numbers prices floors sets rounds : List ℕ) : Type 0 where
  pub in_numbers : numbers ≡ r.items ∷ r.bidders ∷ r.nulls ∷ r.reported ∷ []
  pub in_prices : prices ≡ r.prices
  pub in_floors : floors ≡ r.floors
  pub in_sets : sets ≡ r.sets
  pub in_rounds : rounds ≡ r.raised ∷ r.lowered ∷ phase_number r.phase ∷ []

-- what ending a round gives: its number, or 0
unfoldable pub end_number_of : Ending → ℕ
end_number_of (gives m) = 0
end_number_of (refused n) = n

-- and the move: 1 and the items raised, 2 and the items lowered, or zeros where nothing moves
unfoldable pub move_in : Ending → List ℕ
move_in (gives (raised s)) = 1 ∷ s ∷ []
move_in (gives (lowered s)) = 2 ∷ s ∷ []
move_in (gives closed) = 0 ∷ 0 ∷ []
move_in (refused n) = 0 ∷ 0 ∷ []
