-- The cycle of calls {place, take}: the chain's two sides. What falls is the number of items not yet entered: the measure is twice that
-- number, and one more for `take`, since `take` calls `place` with the same items entered. Assumes nothing.
use Prim.Native.Nat.{ℕ, ◌<◌, ◌+◌, ◌-◌}
use mathlib.Core.Path.{◌≡◌, ◌∙◌, ap, sym, subst}
use mathlib.Core.Bool.{true}
use mathlib.Core.List.{List}
use native.Mathlib.Omega.{arith}
use lib.ListN.{get_or, set}
use Rattle.sets.specs.Bit.{has}
use Rattle.sets.proofs.Members.{has-place}
use Rattle.matching.specs.Chain.{Placed, Taken}
use Rattle.matching.specs.declared.Matcher.{Matcher}
use Rattle.matching.proofs.Holdings.{holder-small}
use Rattle.matching.proofs.Steps.{sub_refl, chosen, chosen_less, won-free, won-may}
use Rattle.matching.proofs.Outcomes.{taken-now, taken-over, taken_not, placed-none, placed-now, placed_on}
use Rattle.matching.proofs.Matcher.+place_take.Goals as goal
use Rattle.matching.proofs.Matcher.+place_take.Goals.{take-then-last-eq0-via-then-last-eq0, take-then-last-eq0-via-else-last-eq0+then-has, take-then-last-eq0-via-else-last-eq0+else-has+then-place}

-- the item that m has not given to the bidder, n has
given : (d : List ℕ) (may : ℕ) (l : List ℕ) (e i b number : ℕ) (m n : Matcher) → n ≡ record { holder = set m.holder i number; entered = m.entered } → b + 1 ≡ number
    → Taken d may l e i b (set m.holder i (b + 1)) (record { placed = true; entered = m.entered }) → Taken d may l e i b n.holder (record { placed = true; entered = n.entered })
given d may l e i b number m n is up t = rw is (subst (λ (x : ℕ). Taken d may l e i b (set m.holder i x) (record { placed = true; entered = m.entered })) up t)

pub place-returns-then-rest-eq0 : goal.place-returns-then-rest-eq0
place-returns-then-rest-eq0 t c =
    let a = c.args in
    placed-none a.demand.now a.may a.self.now.holder a.self.now.entered (a.bidder.number - 1) (sym c.but-rest.ensures ∙ c.if-rest-eq0.true)

pub place-take-requires : goal.place-take-requires
place-take-requires t c =
    let ch = chosen _ _ _ _ _ c.but-rest.ensures c.if-rest-eq0.false c.lowest-item.ensures c.with-self.ensures in
    let less = chosen_less _ _ _ _ _ ch.2 (sub_refl c.with-self.result) in
    (omega arith, (ch.0, ch.1, c.requires, ch.2.wants, ch.2.entered))

pub place-returns-then-take : goal.place-returns-then-take
place-returns-then-take t c =
    let ch = chosen _ _ _ _ _ c.but-rest.ensures c.if-rest-eq0.false c.lowest-item.ensures c.with-self.ensures in
    rw c.if-take.true (placed-now _ _ _ _ _ _ _ _ _ ch.2 (rw c.if-take.true at c.take.ensures))

pub place-place-requires : goal.place-place-requires
place-place-requires t c =
    let ch = chosen _ _ _ _ _ c.but-rest.ensures c.if-rest-eq0.false c.lowest-item.ensures c.with-self.ensures in
    let less = chosen_less _ _ _ _ _ ch.2 c.take.ensures.more in
    (omega arith, rw (c.take.ensures.failed c.if-take.false).still c.requires)

pub place-returns-else-take : goal.place-returns-else-take
place-returns-else-take t c =
    let ch = chosen _ _ _ _ _ c.but-rest.ensures c.if-rest-eq0.false c.lowest-item.ensures c.with-self.ensures in
    placed_on _ _ _ _ _ _ _ _ _ _ _ ch.2 (rw c.if-take.false at c.take.ensures) c.place.ensures

pub take-invariant_of-place : goal.take-invariant_of-place
take-invariant_of-place t c =
    let h = holder-small c.args.demand.now c.args.self.now.holder (c.args.item - 1) c.requires.2 (omega arith) in
    record { positive = omega arith; at_most_64 = omega arith }

pub take-returns-then-last-eq0 : goal.take-returns-then-last-eq0
take-returns-then-last-eq0 t c =
    let a = c.args in
    let d = a.demand.now in
    let l = a.self.now.holder in
    let e = a.self.now.entered in
    let i : ℕ = a.item - 1 in
    let li : i < 32 = omega arith in
    let b : ℕ = a.bidder.number - 1 in
    let lb : b < 64 = omega arith in
    let last = c.from-last.ensures in
    given d a.may l e i b a.bidder.number c.then-last-eq0.self c.give.new.self c.give.ensures (omega arith)
    (elim c.then-last-eq0.branch [
      | take-then-last-eq0-via-then-last-eq0 w ↦
          rw w.self-is (taken-now d a.may l e i b (won-free d a.may l i b c.requires.2 li lb c.requires.3 (sym last ∙ w.if-last-eq0.true)))
      | take-then-last-eq0-via-else-last-eq0+then-has w ↦
          let may = sym (has-place a.may (get_or l i 0) (λ z. w.if-last-eq0.false (last ∙ z))) ∙ sym (ap (has a.may) last) ∙ sym w.has.ensures ∙ w.if-has.true in
          rw w.self-is (taken-now d a.may l e i b (won-may d a.may l i b c.requires.2 li lb c.requires.3 may))
      | take-then-last-eq0-via-else-last-eq0+else-has+then-place w ↦
          rw w.self-is
          (taken-over d a.may l e i b li lb c.requires.3 c.requires.4 (λ z. w.if-last-eq0.false (last ∙ z)) w.place.new.self.holder w.place.new.self.entered
          (subst (λ (x : ℕ). Placed d a.may l e (x - 1) w.place.new.self.holder (record { placed = true; entered = w.place.new.self.entered })) last
          (rw w.if-place.true at w.place.ensures)))
    ])

pub take-returns : goal.take-returns
take-returns t c =
    let a = c.args in
    let l = a.self.now.holder in
    let i : ℕ = a.item - 1 in
    let li : i < 32 = omega arith in
    let b : ℕ = a.bidder.number - 1 in
    let lb : b < 64 = omega arith in
    let p = c.place in
    let last = c.from-last.ensures in
    let held : get_or l i 0 ≡ 0 → ⊥ = λ z. c.if-last-eq0.false (last ∙ z) in
    taken_not a.demand.now a.may l a.self.now.entered i b li lb c.requires.3 c.requires.4 held p.new.self.holder p.new.self.entered
    (sym (has-place a.may (get_or l i 0) held) ∙ sym (ap (has a.may) last) ∙ sym c.has.ensures ∙ c.if-has.false)
    (rw (last, c.if-place.false) at p.ensures)
