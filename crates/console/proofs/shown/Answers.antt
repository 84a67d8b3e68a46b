-- `console::shown` meets its contract. Assumes nothing.
use Prim.Native.Nat.{ℕ, ◌-◌, ◌≤◌}
use mathlib.Core.Path.{◌≡◌, ap, ◌∙◌}
use mathlib.Core.List.{List}
use native.Mathlib.Omega.{arith}
use lib.ListN.{length}
use borrow.Rule.Slice.PartMut.{mid_of, put_mid}
use Rattle.live.specs.Reading.{read_number, read_bytes}
use Rattle.rule.specs.Refusal.{most_live_bidders}
use Rattle.console.proofs.Showing.{shown-number, shown-sheet, shown-small}
use Rattle.console.proofs.shown.Goals as goal

here : (out : List ℕ) → length out ≡ 226 → 223 ≡ length out - 3
here out e = omega arith

pub returns-then-number-ne0 : goal.returns-then-number-ne0
returns-then-number-ne0 c =
    let r = c.args.held in
    let out : List ℕ = c.args.out.now in
    let w = c.read-number in
    let e : 223 ≡ length out - 3 = omega arith in
    shown-number r out c.write_refusal.new.out w.result (omega arith) (w.ensures.0 ∙ ap (λ (n : ℕ). read_number r (mid_of 3 n out)) e) w.new.out (put_mid 3 223 out w.new.out)
    (w.ensures.1 ∙ ap (λ (n : ℕ). read_bytes r (mid_of 3 n out)) e) (ap (λ (n : ℕ). put_mid 3 n out w.new.out) e) c.write_refusal.ensures c.if-number-ne0.true

pub overflow_mul-result : goal.overflow_mul-result
overflow_mul-result c =
    let small : (c.args.held.items ≤ 32) × (c.args.held.bidders ≤ most_live_bidders) =
    shown-small c.args.held c.args.out.now c.write_refusal.new.out c.read-number.result (omega arith) (c.read-number.ensures.0 ∙ ap (λ (n : ℕ). read_number c.args.held (mid_of 3 n c.args.out.now)) (here c.args.out.now (omega arith))) c.if-number-ne0.false in
    record { fits = omega (arith, (small).0) }

pub overflow_add-result : goal.overflow_add-result
overflow_add-result c =
    let small : (c.args.held.items ≤ 32) × (c.args.held.bidders ≤ most_live_bidders) =
    shown-small c.args.held c.args.out.now c.write_refusal.new.out c.read-number.result (omega arith) (c.read-number.ensures.0 ∙ ap (λ (n : ℕ). read_number c.args.held (mid_of 3 n c.args.out.now)) (here c.args.out.now (omega arith))) c.if-number-ne0.false in
    record { fits = omega (arith, (small).0) }

pub overflow_mul-result-2 : goal.overflow_mul-result-2
overflow_mul-result-2 c =
    let small : (c.args.held.items ≤ 32) × (c.args.held.bidders ≤ most_live_bidders) =
    shown-small c.args.held c.args.out.now c.write_refusal.new.out c.read-number.result (omega arith) (c.read-number.ensures.0 ∙ ap (λ (n : ℕ). read_number c.args.held (mid_of 3 n c.args.out.now)) (here c.args.out.now (omega arith))) c.if-number-ne0.false in
    record { fits = omega (arith, (small).1) }

pub overflow_add-result-2 : goal.overflow_add-result-2
overflow_add-result-2 c =
    let small : (c.args.held.items ≤ 32) × (c.args.held.bidders ≤ most_live_bidders) =
    shown-small c.args.held c.args.out.now c.write_refusal.new.out c.read-number.result (omega arith) (c.read-number.ensures.0 ∙ ap (λ (n : ℕ). read_number c.args.held (mid_of 3 n c.args.out.now)) (here c.args.out.now (omega arith))) c.if-number-ne0.false in
    record { fits = omega (arith, (small).0, (small).1) }

pub returns : goal.returns
returns c =
    let r = c.args.held in
    let out : List ℕ = c.args.out.now in
    let w = c.read-number in
    let e : 223 ≡ length out - 3 = omega arith in
    shown-sheet r out c.write_refusal.new.out w.result (omega arith) (w.ensures.0 ∙ ap (λ (n : ℕ). read_number r (mid_of 3 n out)) e) w.new.out (put_mid 3 223 out w.new.out)
    (w.ensures.1 ∙ ap (λ (n : ℕ). read_bytes r (mid_of 3 n out)) e) (ap (λ (n : ℕ). put_mid 3 n out w.new.out) e) c.write_refusal.ensures c.if-number-ne0.false
