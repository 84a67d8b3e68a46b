-- Every round that moves has its reason, whatever the reports are and whether or not they are those of any bids: a raised set has more bidders who report
-- nothing outside it than items, and a lowered set has no more bidders who report something in it than items. Assumes nothing.
use Prim.Native.Nat.{ℕ, zero, suc}
use mathlib.Core.Path.{◌≡◌, subst}
use mathlib.Core.List.{List}
use lib.ListN.{length}
use lib.IntN.{ℤ}
use Rattle.rule.specs.Round.{Round}
use Rattle.rule.specs.Reasons.{reason_of, Justified}
use Rattle.rule.proofs.Reasons.{justified}
use Rattle.round.proofs.Reporting.{reports-length}
use Rattle.live.specs.Auction.{reports_of, items_above}
use Rattle.live.specs.Calls.{end_number, ruled, round_by, Ending, gives, refused, end_answer}
use Rattle.live.specs.declared.Auction.{Auction}

module _ (r : Auction) (ts : List ℤ) where
  -- an end that gives a round gives that of the reports
  given : (x : Round) → end_answer r ts ≡ gives x → round_by r ≡ x
  unfolding end_answer
  given x e = go (end_number r ts) e
    where
      go : (n : ℕ) → ◌≡◌ {A = Ending} (elim n [ zero ↦ gives (round_by r) | suc j ↦ refused (suc j) ]) (gives x) → round_by r ≡ x
      go zero h = cc
      go (suc j) h = cc

  -- there is a report for each bidder
  many : length (reports_of r) ≡ r.bidders
  unfolding reports_of
  many = reports-length r.bidders r.sets r.nulls

  -- so there are as many bidders for its set as a rise takes, or as few as a fall takes; of a close nothing is asked
  pub moved-justified : (x : Round) → end_answer r ts ≡ gives x → Justified r.items r.bidders (reason_of r.items (reports_of r) x)
  unfolding round_by
  moved-justified x e =
      subst (λ (y : Round). Justified r.items r.bidders (reason_of r.items (reports_of r) y)) (given x e)
      (subst (λ (n : ℕ). Justified r.items n (reason_of r.items (reports_of r) (round_by r))) many
      (justified r.items (items_above r) (reports_of r) (ruled r.phase)))
