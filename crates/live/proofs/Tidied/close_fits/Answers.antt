-- `live::Tidied::close_fits` meets its contract. Assumes nothing.
use mathlib.Core.Path.{◌≡◌, sym, ap, ◌∙◌}
use mathlib.Core.Bool.{true, false, not}
use Rattle.live.specs.Auction.{missing}
use Rattle.live.specs.Calls.{is_closed}
use Rattle.live.proofs.Phases.{not-closed, closed-by}
use Rattle.live.proofs.Places.{missing-is}
use Rattle.live.proofs.Tidied.close_fits.Goals as goal

pub returns-then-not-is_closed : goal.returns-then-not-is_closed
returns-then-not-is_closed c = ap not c.if-not-is_closed.true ∙ not-closed c.args.self.auction (sym c.is_closed.ensures ∙ c.if-not-is_closed.true)

pub returns-then-not-misses : goal.returns-then-not-misses
returns-then-not-misses c =
    let closed : is_closed c.args.self.auction.phase ≡ true = sym c.is_closed.ensures ∙ c.if-not-is_closed.false in
    let r = c.args.self.auction in
    let m : missing r ≡ false = sym (c.misses.ensures ∙ missing-is r) ∙ c.if-not-misses.true in
    c.both_empty.ensures ∙ (simp m at (closed-by r closed))

pub returns-else-not-misses : goal.returns-else-not-misses
returns-else-not-misses c =
    let closed : is_closed c.args.self.auction.phase ≡ true = sym c.is_closed.ensures ∙ c.if-not-is_closed.false in
    let r = c.args.self.auction in
    let m : missing r ≡ true = sym (c.misses.ensures ∙ missing-is r) ∙ c.if-not-misses.false in
    ap not c.if-not-misses.false ∙ (simp m at (closed-by r closed))
