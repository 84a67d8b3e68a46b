-- `matching::Matcher::seat` meets its contract. Assumes nothing.
use mathlib.Core.Path.{◌≡◌, refl, ◌∙◌, sym, ap, subst}
use mathlib.Core.Bool.{Bool, true, false, ◌&&◌, not}
use mathlib.Core.List.{List}
use Prim.Native.Nat.{ℕ, ◌<◌, ◌≤◌, ◌+◌, ◌-◌}
use native.Mathlib.Omega.{arith}
use lib.Dec.{eqb}
use lib.ListN.{length, get_or}
use borrow.Author.Tests.{eqb-true, eq-eqb}
use Rattle.std.specs.List.{IsAnyAnswer}
use Rattle.sets.specs.Bit.{is_set, has, set_of}
use Rattle.sets.proofs.Members.{has-place, is_set-set_of, is_set-full}
use Rattle.matching.specs.Chain.{held, Seated, Seats}
use Rattle.matching.proofs.Holdings.{no_both, holds-one, holds-none}
use Rattle.matching.proofs.Steps.{filled-self}
use Rattle.matching.proofs.Seating.{seated-more, seated-won, no-seats}
use Rattle.matching.proofs.Matcher.seat.Goals as goal
use Rattle.matching.proofs.Matcher.seat.Goals.{then-not-has-via-then-not-has, then-not-has-via-else-not-has+then-contains}

-- the others of all bidders
others : (bidders may : ℕ) → may ≡ set_of 64 (λ k. has 18446744073709551615 k && not (has bidders k)) → (k : ℕ) → k < 64 → is_set may k ≡ not (is_set bidders k)
unfolding has
others bidders may e k l =
    ap (λ (x : ℕ). is_set x k) e ∙ is_set-set_of 64 (λ k. has 18446744073709551615 k && not (has bidders k)) k l
    ∙ ap (λ (b : Bool). b && not (is_set bidders k)) (is_set-full 64 k l)

-- what looking through the holders says of the bidder at place b
looked : (l : List ℕ) (b : ℕ) (r : Bool) → length l ≡ 32 → IsAnyAnswer (λ x e. eqb x (b + 1) ≡ e) l r → (r ≡ true → 1 ≤ held l b) × (r ≡ false → held l b ≡ 0)
looked l b true n h = ((λ q. holds-one l b h.0 (omega arith) (eqb-true (get_or l h.0 0) (b + 1) (h.2 0))), λ q. no_both refl q)
looked l b false n h = ((λ q. no_both q refl), λ q. holds-none l b (λ i li e. no_both (eq-eqb (get_or l i 0) (b + 1) e) (h i 0 (omega arith) (omega arith))))

-- who need not be placed, or is, stays as it is
stays : (d : List ℕ) (bidders : ℕ) (l : List ℕ) (b n : ℕ) → b + 1 ≡ n → Seated d bidders l b → (is_set bidders b ≡ true → 1 ≤ held l b) → Seats d bidders l n l true
stays d bidders l b n up s f =
    record {
      won = λ q. subst (λ (x : ℕ). Seated d bidders l x) up (seated-more d bidders l b s f);
      filled = λ q. filled-self l;
      failed = λ q. no_both refl q;
    }

pub returns-then-not-has : goal.returns-then-not-has
returns-then-not-has c =
    let a = c.args in
    let l = a.self.now.holder in
    let b : ℕ = a.bidder.number - 1 in
    let up : b + 1 ≡ a.bidder.number = omega arith in
    stays a.demand.now a.bidders l b a.bidder.number up c.requires
    (elim c.then-not-has.branch [
      | then-not-has-via-then-not-has w ↦ λ h.
          no_both h (sym (has-place a.bidders a.bidder.number (λ z. omega arith)) ∙ sym c.has.ensures ∙ w.if-not-has.true)
      | then-not-has-via-else-not-has+then-contains w ↦ λ h.
          (looked l b w.contains.result c.requires.kept.size
          (subst (λ (x : ℕ). IsAnyAnswer (λ y e. eqb y x ≡ e) l w.contains.result) (sym up) w.contains.ensures.cases)).0 w.if-contains.true
    ])

pub returns : goal.returns
returns c =
    let a = c.args in
    let d = a.demand.now in
    let l = a.self.now.holder in
    let b : ℕ = a.bidder.number - 1 in
    let up : b + 1 ≡ a.bidder.number = omega arith in
    let lb : b < 64 = omega arith in
    let must : is_set a.bidders b ≡ true =
    sym (has-place a.bidders a.bidder.number (λ z. omega arith)) ∙ sym c.has.ensures ∙ c.if-not-has.false in
    let none =
    (looked l b c.contains.result c.requires.kept.size
    (subst (λ (x : ℕ). IsAnyAnswer (λ y e. eqb y x ≡ e) l c.contains.result) (sym up) c.contains.ensures.cases)).1 c.if-contains.false in
    let o = c.but in
    let rest = others a.bidders o.result o.ensures in
    let k = c.place in
    record {
      won = λ q. subst (λ (x : ℕ). Seated d a.bidders k.new.self.holder x) up
          (seated-won d a.bidders l b c.requires o.result lb rest none k.new.self.holder (k.ensures.won q));
      filled = λ q. (k.ensures.won q).filled;
      failed = λ q. no-seats d a.bidders l b c.requires o.result lb rest none k.new.self.holder k.new.self.entered must (k.ensures.failed q);
    }
