-- No refusal has the number 0, which says that there is none. Assumes nothing.
use mathlib.Core.Path.{◌≡◌}
use native.Mathlib.Omega.{arith}
use Rattle.live.specs.Refusals.{refusal_number}
use Rattle.live.specs.declared.Refusal.{Refusal}
use Rattle.live.specs.declared.Refusal.TheVariants.{ItemCount, BidderCount, Length, StartingPrice, Bidder, Report, Record, AfterClose, Reported, Missing, BeforeClose, Rise, Ceiling, Floor, Unexplained}

pub numbered : (e : Refusal) → refusal_number e ≡ 0 → ⊥
numbered ItemCount z = absurd (omega arith)
numbered BidderCount z = absurd (omega arith)
numbered Length z = absurd (omega arith)
numbered StartingPrice z = absurd (omega arith)
numbered Bidder z = absurd (omega arith)
numbered Report z = absurd (omega arith)
numbered Record z = absurd (omega arith)
numbered AfterClose z = absurd (omega arith)
numbered Reported z = absurd (omega arith)
numbered Missing z = absurd (omega arith)
numbered BeforeClose z = absurd (omega arith)
numbered Rise z = absurd (omega arith)
numbered Ceiling z = absurd (omega arith)
numbered Floor z = absurd (omega arith)
numbered Unexplained z = absurd (omega arith)
