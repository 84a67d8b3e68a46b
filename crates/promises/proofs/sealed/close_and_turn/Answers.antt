-- `promises::sealed::close_and_turn` meets its contract. Assumes nothing.
use Rattle.promises.proofs.Calls.{least}
use Rattle.promises.proofs.sealed.close_and_turn.Goals as goal

pub returns : goal.returns
returns c =
    let e = c.close_and_turn.ensures in
    record { close = λ z. least _ _ _ _ (e.least z).0; turn = λ z. least _ _ _ _ (e.least z).1; zeros = e.refused }
