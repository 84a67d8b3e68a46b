-- What the sheet asks of the sealed auction, and the number that this gives back: with counts in order and exact lengths, 4 or 5 or none. Assumes nothing.
use Prim.Native.Nat.{ℕ, ◌*◌}
use mathlib.Core.Path.{◌≡◌, ◌∙◌}
use mathlib.Core.Bool.{false}
use mathlib.Core.List.{List, [], ◌∷◌}
use lib.ListN.{length}
use Rattle.rule.specs.Refusal.{on, first, bad_items, bad_bidders, bad_length, any_over}
use Rattle.rule.proofs.Refusal.{passed, exact}
use Rattle.bids.specs.Refusal.{sealed_refusal}
use Rattle.auction.specs.Sealed.{sealed_of}
use Rattle.auction.proofs.Sealing.{sealed_number}

module _ (m n : ℕ) (start bids : List ℕ) (g : bad_items m ≡ false) (h : bad_bidders n ≡ false) (k : length start ≡ m) (l : length bids ≡ n * m) where
  pub amounts-alone : sealed_refusal m n start bids ≡ first (on 4 (any_over start) ∷ on 5 (any_over bids) ∷ [])
  unfolding sealed_refusal
  amounts-alone =
      passed 1 (bad_items m) _ g
      ∙ passed 2 (bad_bidders n) _ h
      ∙ passed 3 (bad_length start m) _ (exact start m k)
      ∙ passed 3 (bad_length bids (n * m)) _ (exact bids (n * m) l)

  pub by-amounts-alone : (sealed_of m n start bids).refusal ≡ first (on 4 (any_over start) ∷ on 5 (any_over bids) ∷ [])
  by-amounts-alone = sealed_number m n start bids ∙ amounts-alone
