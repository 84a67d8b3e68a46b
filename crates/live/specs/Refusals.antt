-- The numbers of document 01 of the refusals that the code tells apart. Assumes nothing: these are definitions.
use Rattle.std.specs.Prelude.{ℕ, Result, Ok, Err}
use Rattle.live.specs.declared.Refusal.{Refusal}
use Rattle.live.specs.declared.Refusal.TheVariants.{ItemCount, BidderCount, Length, StartingPrice, Bidder, Report, Record, AfterClose, Reported, Missing, BeforeClose, Rise, Ceiling, Floor, Unexplained}

abbrev pub refusal_number : Refusal → ℕ
refusal_number ItemCount = 1
refusal_number BidderCount = 2
refusal_number Length = 3
refusal_number StartingPrice = 4
refusal_number Bidder = 7
refusal_number Report = 8
refusal_number Record = 11
refusal_number AfterClose = 12
refusal_number Reported = 13
refusal_number Missing = 14
refusal_number BeforeClose = 15
refusal_number Rise = 16
refusal_number Ceiling = 17
refusal_number Floor = 18
refusal_number Unexplained = 19

-- the number that a call is told: that of its refusal, or 0
abbrev pub number_of : Result (Unit {0}) Refusal → ℕ
number_of (Ok done) = 0
number_of (Err refusal) = refusal_number refusal
