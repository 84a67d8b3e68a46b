-- `promises::sealed::sealed_above` meets its contract. Assumes nothing.
use Rattle.promises.proofs.Calls.{stands}
use Rattle.promises.proofs.sealed.sealed_above.Goals as goal

pub returns : goal.returns
returns c = let e = c.sealed_above.ensures in record { outcome = e.outcome; stands = λ z. stands _ _ (e.promised z) }
