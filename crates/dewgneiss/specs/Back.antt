-- What is promised of the lists that are lent for the results, where the call is not turned down. Assumes nothing: these are definitions.
use Rattle.std.specs.Prelude.{ℕ, ◌≡◌, List, [], ◌∷◌}
use Rattle.rule.specs.Sheet.{Sheet}
use Rattle.rule.specs.Closing.{assignment_at}
use Rattle.rule.specs.Gains.{gains_at}

-- the lists hold the rounds raised and lowered of a sheet's closing, its closing prices, the names at them and the gains from these, and nothing else
pub record LentBack (s : Sheet) (ups downs : ℕ) (closing rounds prices options gains : List ℕ) : Type 0 where
  pub played : rounds ≡ ups ∷ downs ∷ []
  pub priced : prices ≡ closing
  pub named : options ≡ assignment_at s closing
  pub gained : gains ≡ gains_at s closing
