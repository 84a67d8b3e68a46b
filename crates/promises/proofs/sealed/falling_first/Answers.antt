-- `promises::sealed::falling_first` meets its contract. Assumes nothing.
use mathlib.Core.Path.{ap, ◌∙◌}
use Rattle.auction.specs.declared.Closing.{Closing}
use Rattle.promises.proofs.Calls.{stands-falling, rising-too}
use Rattle.promises.proofs.sealed.falling_first.Goals as goal

pub returns : goal.returns
returns c =
    let e = c.falling_first.ensures in
    let same = rising-too _ _ _ _ _ _ e.outcome in
    record {
      outcome = e.outcome;
      stands = λ z. stands-falling _ _ (e.promised z);
      prices = λ z. (e.promised z).same-prices ∙ ap (λ (x : Closing). x.prices) (same z);
      names = λ z. (e.promised z).same_names ∙ ap (λ (x : Closing). x.assignment) (same z);
      gains = λ z. (e.promised z).same_gains ∙ ap (λ (x : Closing). x.gains) (same z);
    }
