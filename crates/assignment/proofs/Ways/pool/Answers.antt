-- `assignment::Ways::pool` meets its contract. Assumes nothing.
use mathlib.Core.Path.{refl, sym, ◌∙◌}
use native.Mathlib.Omega.{arith}
use mathlib.Core.Logic.{inl, inr}
use Rattle.sets.proofs.Members.{has-one-more}
use Rattle.assignment.proofs.Growing.{grown-same, grown-then}
use Rattle.assignment.proofs.Ways.pool.Goals as goal

pub returns-then-not-has : goal.returns-then-not-has
returns-then-not-has c =
    let a = c.args in
    let h = c.has in
    let off = sym (has-one-more a.unpriced a.q) ∙ sym h.ensures ∙ c.if-not-has.true in
    record { with_null = a.self.now.seen; grown = grown-same (omega arith) (omega arith); all = inl (off, refl) }

pub returns : goal.returns
returns c =
    let a = c.args in
    let h = c.has in
    let e = c.enter in
    let on = sym (has-one-more a.unpriced a.q) ∙ sym h.ensures ∙ c.if-not-has.false in
    record { with_null = e.new.self.seen; grown = grown-then (grown-same (omega arith) (omega arith)) e.ensures.1 (λ p t v. (v.0, v.1, on)); all = inr (e.ensures.0, refl) }
