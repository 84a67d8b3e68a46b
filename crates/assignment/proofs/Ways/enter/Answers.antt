-- `assignment::Ways::enter` meets its contract. Assumes nothing.
use mathlib.Core.Path.{sym, ◌∙◌}
use native.Mathlib.Omega.{arith}
use Rattle.sets.proofs.Members.{has-one-more}
use Rattle.assignment.proofs.Places.{with-new}
use Rattle.assignment.proofs.Growing.{grown-same, grown-one}
use Rattle.assignment.proofs.Ways.enter.Goals as goal

pub returns-then-has : goal.returns-then-has
returns-then-has c =
    let on = sym (has-one-more c.args.self.now.seen c.args.p) ∙ sym c.has.ensures ∙ c.if-has.true in
    (on, grown-same (omega arith) (omega arith))

pub returns : goal.returns
returns c =
    let a = c.args in
    let old = a.self.now in
    let r = c.with-self in
    let off = sym (has-one-more old.seen a.p) ∙ sym c.has.ensures ∙ c.if-has.false in (
      with-new old.seen a.p r.result r.ensures (omega (arith, c.requires.0)),
      grown-one old.next old.entered old.seen a.p a.q a.t (omega arith) (omega arith) c.requires.0 off (omega arith) r.result r.ensures,
    )
