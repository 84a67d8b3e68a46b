-- `auction::Accepted::falling_rounds` meets its contract. The least prices from the floors up are the close, and with reduced bids the turn. Assumes nothing.
use Prim.Native.Nat.{ℕ}
use mathlib.Core.Path.{sym, subst}
use mathlib.Core.List.{List}
use native.Mathlib.Omega.{arith}
use lib.ListN.{length}
use lib.Seq.{length-take-le}
use Rattle.bids.specs.Lent.{sheet_above}
use Rattle.bids.proofs.Limits.{accepted-within}
use Rattle.rule.proofs.FallingClosing.{falling-closing}
use Rattle.least.specs.Least.{Least}
use Rattle.auction.proofs.Settling.{ready, last-is}
use Rattle.auction.proofs.Reducing.{bids_room, rows-reduced, reduced-accepted}
use Rattle.auction.proofs.FallingRounds.{falling-raised, falling-lowered}
use Rattle.auction.proofs.Accepted.falling_rounds.Goals as goal

pub slice_bounds-less-end : goal.slice_bounds-less-end
slice_bounds-less-end c = omega (arith, bids_room c.args.self.now, c.reduced-less.ensures.0)

pub slice_bounds-reduced-end : goal.slice_bounds-reduced-end
slice_bounds-reduced-end c =
    sym (length-take-le (length c.args.self.now.bids.now) c.reduced-less.result (omega (arith, bids_room c.args.self.now, c.reduced-less.ensures.0)))

pub invariant_of-reduced : goal.invariant_of-reduced
invariant_of-reduced c =
    let a = c.args.self.now in
    let first = c.in_places-first in
    let less = c.reduced-less in
    record { accepted = reduced-accepted a.items a.bidders a.start.now a.floors.now a.bids.now a.accepted first.result less.result first.ensures less.ensures.0 less.ensures.1 }

pub returns : goal.returns
unfolding sheet_above
returns c =
    let a = c.args.self.now in
    let s = sheet_above a.items a.bidders a.start.now a.floors.now a.bids.now in
    let within = (accepted-within a.items a.bidders a.start.now a.floors.now a.bids.now a.accepted).1 in
    let g = ready s within in
    let first = c.in_places-first in
    let less = c.reduced-less in
    let turn = c.closing_prices-turn in
    let close = c.closing_prices-end in
    let low = subst (λ (rows : List (List ℕ)). Least a.items rows a.floors.now turn.result)
    (rows-reduced a.items a.bidders a.start.now a.floors.now a.bids.now a.accepted first.result less.result first.ensures less.ensures.0 less.ensures.1)
    turn.ensures in (
      falling-raised s g (falling-closing s within) close.result close.ensures turn.result low c.furthest.result c.furthest.ensures,
      falling-lowered s g (falling-closing s within) close.result close.ensures turn.result low first.result first.ensures c.furthest-2.result c.furthest-2.ensures,
      last-is s g close.result close.ensures,
    )
