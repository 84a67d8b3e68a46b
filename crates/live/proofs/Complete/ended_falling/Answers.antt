-- `live::Complete::ended_falling` meets its contract. Assumes nothing.
use mathlib.Core.Path.{refl, ◌∙◌}
use borrow.Author.Tests.{eqb-false}
use Rattle.live.specs.Calls.{ending_of}
use Rattle.live.specs.declared.Ended.TheVariants.{Refused}
use Rattle.live.proofs.Ending.{sixteen, handed, ends_refused}
use Rattle.live.proofs.Complete.ended_falling.Goals as goal

pub returns-then-set-ne0 : goal.returns-then-set-ne0
unfolding ending_of
returns-then-set-ne0 c =
    let r = c.args.self.auction in
    let p = c.requires in
    handed r c.stopped.result (record { ended = Refused 16; next = r }) c.stopped.ensures
    (ends_refused r 16 (sixteen r p.0 (λ z. c.if-set-ne0.true (p.1 ∙ z))) (eqb-false 16 0 refl))
