-- `reasons::Move::who` meets its contract. Each turn looks at one bidder. Assumes nothing.
use Prim.Native.Nat.{ℕ, ◌-◌, ◌+◌, ◌<◌}
use mathlib.Core.Path.{◌≡◌, refl, sym, ap, ◌∙◌}
use mathlib.Core.Bool.{Bool}
use mathlib.Core.List.{List}
use native.Mathlib.Omega.{arith}
use native.Mathlib.Numerals.{add-one}
use lib.ListN.{length, get_or, take}
use lib.Seq.{get_or-take, length-take-le}
use Rattle.reasons.specs.declared.Move.{Move}
use Rattle.sets.specs.Bit.{has, set_of}
use Rattle.rule.specs.Demand.{nth}
use Rattle.rule.specs.Reasons.{bidders_with}
use Rattle.round.specs.Reports.{reports}
use Rattle.round.proofs.Adding.{add-next, add-end}
use Rattle.round.proofs.Reporting.{reports-length, report}
use Rattle.reasons.specs.Steps.{counts_for}
use Rattle.reasons.proofs.Move.who.Invariants.{at}
use Rattle.reasons.proofs.Move.who.Goals as goal

-- the code's test of bidder b + 1
test-is : (n : ℕ) (sets : List ℕ) (nulls s : ℕ) (step : Move) (b : ℕ) → b < n → (null : Bool) → null ≡ has nulls (b + 1)
    → counts_for step 32 s (record { null = null; items = get_or sets b 0 }) ≡ at n sets nulls s step (b + 1)
test-is n sets nulls s step b l null e =
    let own : b ≡ b + 1 - 1 = omega arith in
    ap (counts_for step 32 s)
    (ap (λ (v : Bool). record { null = v; items = get_or sets b 0 }) (e ∙ ap (has nulls) (add-one b)) ∙ sym (report n sets nulls b l) ∙ ap (nth (reports n sets nulls)) own)

pub loop-b-init : goal.loop-b-init
unfolding set_of
loop-b-init c = refl

pub loop-b-preserved : goal.loop-b-preserved
loop-b-preserved c =
    let a = c.args in
    let here = c.loop-b in
    let all : length (take a.bidders a.sets.now) ≡ a.bidders = length-take-le a.bidders a.sets.now (omega arith) in
    let lt : here.b < a.bidders = omega arith in
    let own : get_or (take a.bidders a.sets.now) here.b 0 ≡ get_or a.sets.now here.b 0 = get_or-take a.bidders a.sets.now here.b 0 lt in
    add-next 64 (at a.bidders a.sets.now a.nulls a.set a.self) here.b (omega arith) here.g c.counts-counted.result c.add-g.result here.invariant
    (c.counts-counted.ensures
    ∙ ap (λ (x : ℕ). counts_for a.self 32 a.set (record { null = c.has.result; items = x })) own
    ∙ test-is a.bidders a.sets.now a.nulls a.set a.self here.b lt c.has.result c.has.ensures)
    c.add-g.ensures

pub returns : goal.returns
unfolding bidders_with
returns c =
    let a = c.args in
    let here = c.loop-b in
    let all : length (take a.bidders a.sets.now) ≡ a.bidders = length-take-le a.bidders a.sets.now (omega arith) in
    let long = reports-length a.bidders a.sets.now a.nulls in
    add-end (at a.bidders a.sets.now a.nulls a.set a.self) here.b a.bidders here.g here.invariant (omega arith) (omega arith)
    ∙ ap (λ (n : ℕ). set_of n (at a.bidders a.sets.now a.nulls a.set a.self)) (sym long)
