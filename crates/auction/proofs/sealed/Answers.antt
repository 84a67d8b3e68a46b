-- `auction::sealed` meets its contract: it is the sealed auction with floors of 0. Assumes nothing.
use Prim.Native.Nat.{ℕ}
use mathlib.Core.Path.{ap, ◌∙◌}
use mathlib.Core.List.{List}
use Rattle.sets.proofs.Filling.{take-zeros}
use Rattle.auction.specs.Sealed.{sealed_above_of}
use Rattle.auction.proofs.Sealing.{too-many-items, zero-floors, sealed-promised}
use Rattle.auction.proofs.sealed.Goals as goal

pub returns-then-items-gt32 : goal.returns-then-items-gt32
returns-then-items-gt32 c =
    let a = c.args in
    let e = c.refused.ensures ∙ too-many-items a.items a.bidders a.start.now a.bids.now c.if-items-gt32.true in
    record { outcome = e; promised = sealed-promised a.items a.bidders a.start.now a.bids.now _ e }

pub returns : goal.returns
returns c =
    let a = c.args in
    let e = c.sealed_above.ensures.outcome
    ∙ ap (λ (floors : List ℕ). sealed_above_of a.items a.bidders a.start.now floors a.bids.now) (take-zeros a.items 32 c.if-items-gt32.false)
    ∙ zero-floors a.items a.bidders a.start.now a.bids.now in
    record { outcome = e; promised = sealed-promised a.items a.bidders a.start.now a.bids.now _ e }
