-- `live::Auction::rounds_fit` meets its contract. Assumes nothing.
use mathlib.Core.Path.{◌∙◌}
use mathlib.Core.Logic.{inl, inr}
use Rattle.live.proofs.Phases.{rises-test, falls-test, closed-test}
use Rattle.live.proofs.Auction.rounds_fit.Goals as goal

pub returns-in-Rising : goal.returns-in-Rising
returns-in-Rising c = c.rounds_rising.ensures ∙ rises-test c.args.self c.in-Rising.is

pub returns-in-Falling : goal.returns-in-Falling
returns-in-Falling c =
    let r = c.args.self in
    elim c.in-Falling.is [ inl p ↦ c.rounds_within.ensures ∙ falls-test r p | inr p ↦ c.rounds_within.ensures ∙ closed-test r p ]
