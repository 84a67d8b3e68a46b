-- `has` of `Set` for `u64` meets its contract. Assumes nothing.
use mathlib.Core.Path.{sym, ap, ◌∙◌}
use Rattle.sets.specs.Bit.{has}
use Rattle.sets.proofs.Members.{has-zero, has-past}
use Rattle.sets.proofs.Words.{word-has}
use Rattle.sets.proofs.U64Set.has.Goals as goal
use Rattle.sets.proofs.U64Set.has.Goals.{then-bidder-eq0-via-then-bidder-eq0, then-bidder-eq0-via-else-bidder-eq0+then-bidder-gt64}

pub returns-then-bidder-eq0 : goal.returns-then-bidder-eq0
returns-then-bidder-eq0 c =
    let s = c.args.self in
    elim c.then-bidder-eq0.branch [
      | then-bidder-eq0-via-then-bidder-eq0 w ↦ sym (ap (has s) w.if-bidder-eq0.true ∙ has-zero s)
      | then-bidder-eq0-via-else-bidder-eq0+then-bidder-gt64 w ↦ sym (has-past 64 s c.args.bidder c.ranges.self.fits w.if-bidder-gt64.true)
    ]

pub returns : goal.returns
returns c = word-has c.args.self c.args.bidder c.if-bidder-eq0.false
