-- Request #108, from the theorems of `rule`, `bids` and `live`. Assumes nothing.
use Prim.Native.Nat.{ℕ, ◌<◌}
use mathlib.Core.Path.{◌≡◌, refl, sym, ◌∙◌}
use mathlib.Core.Bool.{Bool, true, false}
use native.Mathlib.Omega.{arith}
use lib.ListN.{length, replicate}
use Rattle.rule.specs.Refusal.{bad_bidders, bad_live_bidders}
use Rattle.rule.proofs.Refusal.{range-in, over-range}
use Rattle.bids.proofs.Limits as limits
use Rattle.live.specs.Auction.{well_formed}
use Rattle.live.specs.declared.Auction.{Auction}
use Rattle.live.proofs.Formed.{formed}
use Rattle.live.proofs.Opening as opening
use Rattle.live.specs.Calls.{open_above}
use Rattle.agreement.specs.Agreement.{opening_of}
use Rattle.agreement.proofs.Agreement as agreeing
use Rattle.promises.specs.Forty.{Request108}
use Rattle.promises.proofs.Live.{opened-is}

more : (n : ℕ) → 40 < n → bad_live_bidders n ≡ true
unfolding bad_live_bidders
more n l = over-range 40 n (omega (arith, l)) l

malformed : (r : Auction) → 40 < r.bidders → well_formed r ≡ false
malformed r l = go (well_formed r) refl
  where
    go : (b : Bool) → well_formed r ≡ b → well_formed r ≡ false
    go false e = e
    go true e = absurd (omega (arith, l, (formed r e).max_bidders))

pub request108 : Request108
unfolding bad_bidders bad_live_bidders opening_of open_above
request108 =
    record {
      live = λ n l h. range-in 40 n l h;
      opening = λ m n start lent e l. sym (opening.number-zero m n start lent) ∙ opening.two m n start (replicate m 0) lent e (more n l);
      opening_above = λ m n start floors lent e l. opening.two m n start floors lent e (more n l);
      too_many = λ s e l lent. sym (opened-is _ s.items (length s.bids) s.start s.floors) ∙ agreeing.too_many s e l lent;
      records = malformed;
      sealed = λ n l h. range-in 64 n l h;
      sealed_more = λ n l. over-range 64 n (omega (arith, l)) l;
      accepted = limits.within-accepted;
      within = λ m n start floors bids e. (limits.accepted-within m n start floors bids e).1;
    }
