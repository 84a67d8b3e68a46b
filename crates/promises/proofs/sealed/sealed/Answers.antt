-- `promises::sealed::sealed` meets its contract. Assumes nothing.
use Rattle.promises.proofs.Calls.{stands}
use Rattle.promises.proofs.sealed.sealed.Goals as goal

pub returns : goal.returns
returns c = let e = c.sealed.ensures in record { outcome = e.outcome; stands = λ z. stands _ _ (e.promised z) }
