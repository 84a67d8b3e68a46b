-- `reasons::put_rounds` meets its contract. Each turn writes one round's line. Assumes nothing.
use Prim.Native.Nat.{ℕ, ◌*◌, ◌≤◌, ◌<◌}
use mathlib.Core.Path.{◌≡◌, refl, sym, ap, ◌∙◌}
use mathlib.Core.List.{List}
use native.Mathlib.Omega.{arith}
use lib.Dec.{leb}
use lib.ListN.{replicate}
use lib.Seq.{sets}
use Rattle.sets.specs.Lists.{places}
use Rattle.sets.proofs.Filling.{zeros-places}
use Rattle.rule.specs.Sheet.{Sheet}
use Rattle.rule.specs.Reasons.{round_count}
use Rattle.rule.proofs.Reasons.{count_most}
use Rattle.lines.specs.Lines.{joined}
use Rattle.bids.specs.Lent.{sheet_above, sheet_of}
use Rattle.bids.specs.Refusal.{sealed_refusal}
use Rattle.bids.proofs.Limits.{fine, accepted-within, without_floors}
use Rattle.auction.proofs.Settling.{Ready, ready}
use Rattle.reasons.specs.Sheets.{reason_sheet}
use Rattle.reasons.specs.Steps.{move_of}
use Rattle.reasons.proofs.Lines.{line_of, lines_next}
use Rattle.reasons.proofs.Along.{at-start, past-items, line-is, next-is}
use Rattle.reasons.proofs.put_rounds.Goals as goal

-- a sheet that no number turns down has a closing
closes : (m n : ℕ) (start bids : List ℕ) → sealed_refusal m n start bids ≡ 0 → Ready (sheet_of m n start bids)
unfolding sheet_of
closes m n start bids e = ready (sheet_of m n start bids) (accepted-within m n start (replicate m 0) bids (without_floors m n start bids ∙ e)).1

-- its floors, as the code holds them
no-floors : (m n : ℕ) (start bids : List ℕ) → replicate 32 0 ≡ places 32 (sheet_of m n start bids).floors
unfolding sheet_of sheet_above
no-floors m n start bids = sym (zeros-places 32 m)

few-rounds : (m n : ℕ) (start bids : List ℕ) → sealed_refusal m n start bids ≡ 0 → round_count (sheet_of m n start bids) ≤ 8190
few-rounds m n start bids e = count_most (sheet_of m n start bids) (closes m n start bids e).closing

pub loop-k-init : goal.loop-k-init
unfolding joined sheet_of sheet_above
loop-k-init c =
    let a = c.args in
    (at-start (sheet_of a.items a.bidders a.start.now a.bids.now) (closes a.items a.bidders a.start.now a.bids.now c.requires.0) (replicate 32 0) (no-floors a.items a.bidders a.start.now a.bids.now) c.in_places-p.result c.in_places-p.ensures, refl)

pub reason_at-r-requires : goal.reason_at-r-requires
unfolding sheet_of sheet_above
reason_at-r-requires c =
    let a = c.args in
    let pre = c.requires in
    let f = fine a.items a.bidders a.start.now (replicate a.items 0) a.bids.now (without_floors a.items a.bidders a.start.now a.bids.now ∙ pre.0) in
    let lt : c.loop-k.k < round_count (sheet_of a.items a.bidders a.start.now a.bids.now) = omega (arith, pre.2) in
    (f.max_items, f.max_bidders, f.bids-long, past-items (sheet_of a.items a.bidders a.start.now a.bids.now) (closes a.items a.bidders a.start.now a.bids.now pre.0) (replicate 32 0) (no-floors a.items a.bidders a.start.now a.bids.now) c.loop-k.k lt c.loop-k.p c.loop-k.invariant.0)

pub overflow_mul-k : goal.overflow_mul-k
overflow_mul-k c = let a = c.args in omega (arith, few-rounds a.items a.bidders a.start.now a.bids.now c.requires.0, c.requires.2)

pub overflow_cast-k : goal.overflow_cast-k
overflow_cast-k c = let a = c.args in omega (arith, few-rounds a.items a.bidders a.start.now a.bids.now c.requires.0, c.requires.2)

pub overflow_add-k : goal.overflow_add-k
overflow_add-k c = let a = c.args in omega (arith, few-rounds a.items a.bidders a.start.now a.bids.now c.requires.0, c.requires.2)

pub put_line-requires : goal.put_line-requires
put_line-requires c = omega (arith, c.requires.3)

pub loop-k-preserved : goal.loop-k-preserved
unfolding sheet_of sheet_above
loop-k-preserved c =
    let a = c.args in
    let pre = c.requires in
    let here = c.loop-k in
    let r = c.reason_at-r in
    let put = c.put_line in
    let s : Sheet = sheet_of a.items a.bidders a.start.now a.bids.now in
    let g = closes a.items a.bidders a.start.now a.bids.now pre.0 in
    let floored = no-floors a.items a.bidders a.start.now a.bids.now in
    let lt : here.k < round_count s = omega (arith, pre.2) in
    let step = c.of_round-step in
    let turned = step.ensures ∙ ap (λ (u : ℕ). move_of (leb u here.k)) pre.1 in (
      next-is s g (replicate 32 0) floored here.k lt here.p here.invariant.0 step.result turned r.result r.ensures c.moved-p.result c.moved-p.ensures,
      lines_next s a.out.now here.out put.new.out here.k here.invariant.1
          (put.ensures ∙ ap (λ (vs : List ℕ). sets here.out (31 * here.k) vs) (line-is s g (replicate 32 0) floored here.k lt here.p here.invariant.0 step.result turned r.result r.ensures)),
    )

pub returns : goal.returns
unfolding reason_sheet
returns c =
    let a = c.args in
    let here = c.loop-k in
    let all : here.k ≡ round_count (sheet_of a.items a.bidders a.start.now a.bids.now) = omega (arith, c.requires.2) in
    here.invariant.1 ∙ ap (λ (k : ℕ). sets a.out.now 0 (joined k (line_of (sheet_of a.items a.bidders a.start.now a.bids.now)))) all
