-- What the contracts in `src` say of outcomes and lent lists, where an equation would be too long to read. Assumes nothing: these are definitions.
use Rattle.std.specs.Prelude.{ℕ, true, List, [], ◌∷◌, ◌≡◌}
use Rattle.sets.specs.Lists.{places}
use Rattle.rule.specs.Sheet.{Sheet, within_limits}
use Rattle.rule.specs.Round.{State}
use Rattle.rule.specs.Closing.{assignment_at}
use Rattle.rule.specs.Gains.{gains_at}
use Rattle.auction.specs.declared.Closing.{Closing}
use Rattle.live.specs.declared.Auction.{Auction}
use Rattle.bench_exports.specs.Lent.{phase_number}
use Rattle.promises.specs.Gains.{Gaining}

-- a sealed outcome r by value that no number turned down, of sheet s, whose path is at c at its close: rounds, rents in 32 places, names and gains in 64
pub record Stands (s : Sheet) (c : State) (r : Closing) : Type 0 where
  pub within : within_limits s ≡ true
  pub raised_are : r.raised ≡ c.ups
  pub lowered_are : r.lowered ≡ c.downs
  pub prices_are : r.prices ≡ places 32 c.prices
  pub names_are : r.assignment ≡ places 64 (assignment_at s c.prices)
  pub gains_are : r.gains ≡ places 64 (gains_at s c.prices)
  pub gaining : Gaining s c.prices

-- the lists that are lent to an exported sealed entry, before the call and afterwards: the same of them, and nothing else, if the number `why` is 0; as they came if it
-- is not
pub record Leaves (s : Sheet) (c : State) (why : ℕ) (rounds prices options gains rounds' prices' options' gains' : List ℕ) : Type 0 where
  pub rounds_are : why ≡ 0 → rounds' ≡ c.ups ∷ c.downs ∷ []
  pub prices_are : why ≡ 0 → prices' ≡ c.prices
  pub names_are : why ≡ 0 → options' ≡ assignment_at s c.prices
  pub gains_are : why ≡ 0 → gains' ≡ gains_at s c.prices
  pub rounds_kept : (why ≡ 0 → ⊥) → rounds' ≡ rounds
  pub prices_kept : (why ≡ 0 → ⊥) → prices' ≡ prices
  pub names_kept : (why ≡ 0 → ⊥) → options' ≡ options
  pub gains_kept : (why ≡ 0 → ⊥) → gains' ≡ gains

-- a record in lent lists: counts, who says no pan and who has reported; rents, floors, reported sets; rounds raised and lowered, and the phase, 0 rising, 1 falling, 2
-- closed
pub record InLists (r : Auction) (numbers prices floors sets rounds : List ℕ) : Type 0 where
  pub numbers_are : numbers ≡ r.items ∷ r.bidders ∷ r.nulls ∷ r.reported ∷ []
  pub prices_are : prices ≡ r.prices
  pub floors_are : floors ≡ r.floors
  pub sets_are : sets ≡ r.sets
  pub rounds_are : rounds ≡ r.raised ∷ r.lowered ∷ phase_number r.phase ∷ []
