-- All that is promised of sheets, lists of calls and their answers, in the customer's order. What each public call answers and leaves in what is lent to it, by these
-- definitions, say the contracts in `src`. Assumes nothing: this is a statement, which `proofs/Promises` proves.
use Rattle.promises.specs.Demand1.{Demand1}
use Rattle.promises.specs.Demand2.{Demand2}
use Rattle.promises.specs.Demand3Sealed.{Demand3Sealed}
use Rattle.promises.specs.Demand3Live.{Demand3Live}
use Rattle.promises.specs.Cases.{Cases}
use Rattle.promises.specs.Reasons.{Request101}
use Rattle.promises.specs.Zeros.{Request102}
use Rattle.promises.specs.Floors.{Request103}
use Rattle.promises.specs.FallingFirst.{Request104}
use Rattle.promises.specs.Digits.{Request105}
use Rattle.promises.specs.Gains.{Request106}
use Rattle.promises.specs.Tables.{Request107}
use Rattle.promises.specs.Forty.{Request108}

pub record Promises : Type 0 where
  pub demand1 : Demand1
  pub demand2 : Demand2
  pub demand3_sealed : Demand3Sealed
  pub demand3_live : Demand3Live
  pub cases : Cases
  pub request101 : Request101
  pub request102 : Request102
  pub request103 : Request103
  pub request104 : Request104
  pub request105 : Request105
  pub request106 : Request106
  pub request107 : Request107
  pub request108 : Request108
