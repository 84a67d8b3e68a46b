-- `sheet::bids_at` meets its contract: the bids of the lines read stand ahead of the lines left to read. Assumes nothing.
use Prim.Native.Nat.{ℕ, ◌+◌, ◌*◌, ◌-◌, ◌≤◌}
use mathlib.Core.Path.{◌≡◌, sym, ap, ◌∙◌}
use mathlib.Core.List.{List, []}
use Rattle.std.specs.Prelude.{None, Some}
use native.Mathlib.Omega.{arith}
use native.Mathlib.Nat.{zero-mul}
use lib.Dec.{eqb}
use lib.ListN.{length, take}
use Rattle.lines.specs.Reading.{line_at}
use Rattle.sheet.specs.BidSheet.{bids_at}
use Rattle.sheet.specs.Steps.{read_as}
use Rattle.sheet.proofs.Ahead.{said-no, said-yes, ahead, ahead_none}
use Rattle.sheet.proofs.Rows.{few, row_inside, part_length, part-back, line-inside, bids-stop, bids-step, bids-done}
use Rattle.sheet.proofs.bids_at.Goals as goal

pub loop-b-init : goal.loop-b-init
loop-b-init c =
    let a = c.args in
    let e : a.bidders - 0 ≡ a.bidders = omega arith in (
      ahead_none (bids_at a.bidders a.items a.s.now a.at)
          ∙ ap (λ (j : ℕ). ahead [] (bids_at j a.items a.s.now a.at)) (sym e)
          ∙ ap (λ (j : ℕ). ahead (take j a.into.now) (bids_at (a.bidders - 0) a.items a.s.now a.at)) (sym (zero-mul a.items)),
      omega arith,
    )

pub overflow_mul-from : goal.overflow_mul-from
overflow_mul-from c =
    let small : c.loop-b.b * c.args.items + c.args.items ≤ 2048 =
    let a = c.args in
    omega (arith, few a.bidders a.items (omega arith) (omega arith), row_inside c.loop-b.b a.bidders a.items (omega arith)) in
    omega (arith, small)

pub overflow_add-to : goal.overflow_add-to
overflow_add-to c =
    let small : c.loop-b.b * c.args.items + c.args.items ≤ 2048 =
    let a = c.args in
    omega (arith, few a.bidders a.items (omega arith) (omega arith), row_inside c.loop-b.b a.bidders a.items (omega arith)) in
    omega (arith, small)

pub offset_bounds-into-from : goal.offset_bounds-into-from
offset_bounds-into-from c =
    let small : c.loop-b.b * c.args.items + c.args.items ≤ 2048 =
    let a = c.args in
    omega (arith, few a.bidders a.items (omega arith) (omega arith), row_inside c.loop-b.b a.bidders a.items (omega arith)) in
    omega (arith, small)

pub slice_bounds-line_at-end : goal.slice_bounds-line_at-end
slice_bounds-line_at-end c =
    let inside : c.loop-b.b * c.args.items + c.args.items ≤ length c.loop-b.into =
    omega (arith, row_inside c.loop-b.b c.args.bidders c.args.items (omega arith)) in
    omega (arith, inside)

pub line_at-requires : goal.line_at-requires
line_at-requires c =
    let inside : c.loop-b.b * c.args.items + c.args.items ≤ length c.loop-b.into =
    omega (arith, row_inside c.loop-b.b c.args.bidders c.args.items (omega arith)) in
    let l = c.loop-b in
    let a = c.args in
    (omega arith, omega (arith, part_length l.into l.b a.items (inside)))

pub returns-then-not-line_at : goal.returns-then-not-line_at
returns-then-not-line_at c =
    let inside : c.loop-b.b * c.args.items + c.args.items ≤ length c.loop-b.into =
    omega (arith, row_inside c.loop-b.b c.args.bidders c.args.items (omega arith)) in
    let said : line_at c.args.items 4 c.args.s.now c.loop-b.here ≡ read_as c.line_at.result c.line_at.new.into =
    let l = c.loop-b in
    let a = c.args in
    ap (λ (k : ℕ). line_at k 4 a.s.now l.here) (sym (part_length l.into l.b a.items (inside)))
    ∙ c.line_at.ensures in
    let l = c.loop-b in
    let a = c.args in
    let e : line_at a.items 4 a.s.now l.here ≡ None =
    said-no (line_at a.items 4 a.s.now l.here) c.line_at.result c.line_at.new.into (said) c.if-not-line_at.true in
    l.invariant.0
    ∙ ap (ahead (take (l.b * a.items) l.into)) (bids-stop a.s.now a.items (a.bidders - l.b) l.here (omega arith) e)

pub loop-b-preserved : goal.loop-b-preserved
loop-b-preserved c =
    let inside : c.loop-b.b * c.args.items + c.args.items ≤ length c.loop-b.into =
    omega (arith, row_inside c.loop-b.b c.args.bidders c.args.items (omega arith)) in
    let said : line_at c.args.items 4 c.args.s.now c.loop-b.here ≡ read_as c.line_at.result c.line_at.new.into =
    let l = c.loop-b in
    let a = c.args in
    ap (λ (k : ℕ). line_at k 4 a.s.now l.here) (sym (part_length l.into l.b a.items (inside)))
    ∙ c.line_at.ensures in
    let l = c.loop-b in
    let a = c.args in
    let call = c.line_at in
    let xs : List ℕ = call.new.into in
    let fits = inside in
    let long : length xs ≡ a.items = call.auto.into ∙ part_length l.into l.b a.items fits in
    let e : line_at a.items 4 a.s.now l.here ≡ Some xs =
    said-yes (line_at a.items 4 a.s.now l.here) call.result xs (said) c.if-not-line_at.false in (
      bids-step a.s.now a.items (bids_at a.bidders a.items a.s.now a.at) (take (l.b * a.items) l.into) a.bidders l.b l.here xs
          (omega arith) e l.invariant.0
          ∙ ap (λ (ys : List ℕ). ahead ys (bids_at (a.bidders - (l.b + 1)) a.items a.s.now (l.here + (4 * a.items + 1))))
          (sym (part-back l.into l.b a.items fits xs long)),
      line-inside a.s.now a.items l.here xs (omega arith) e,
    )

pub returns : goal.returns
returns c =
    let l = c.loop-b in
    let a = c.args in
    let e : l.b ≡ a.bidders = omega arith in
    bids-done a.s.now a.items _ (take (l.b * a.items) l.into) a.bidders l.b l.here (omega arith) l.invariant.0
    ∙ ap (λ (n : ℕ). read_as (eqb l.here (length a.s.now)) (take (n * a.items) l.into)) e
