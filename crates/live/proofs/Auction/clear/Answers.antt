-- `live::Auction::clear` meets its contract. Assumes nothing.
use Prim.Native.Nat.{ℕ}
use mathlib.Core.Path.{ap, ◌∙◌}
use Rattle.live.specs.Calls.{cleared, clear_number, clear}
use Rattle.live.specs.Refusals.{refusal_number}
use Rattle.live.specs.declared.Auction.{Auction}
use Rattle.live.proofs.Refusals.{numbered}
use Rattle.live.proofs.Refusing.{replied, reply-kept, reply-new}
use Rattle.live.proofs.Auction.clear.Goals as goal

pub returns-in-Ok : goal.returns-in-Ok
unfolding clear
returns-in-Ok c =
    let r = c.args.self in
    ap (λ (a : Auction). record { number = 0; next = a }) c.cleared.ensures ∙ reply-new (clear_number r) (cleared r) r c.in-Ok.ensures

pub returns-in-Err : goal.returns-in-Err
unfolding clear
returns-in-Err c =
    let r = c.args.self in
    let e = c.in-Err.refusal in
    c.kept.ensures ∙ reply-kept (refusal_number e) (cleared r) r (numbered e) ∙ ap (λ (y : ℕ). replied y (cleared r) r) c.in-Err.ensures
