-- `reasons::answer` meets its contract. Assumes nothing.
use Prim.Native.Nat.{ℕ, ◌<◌}
use mathlib.Core.Path.{◌≡◌, sym, ap, ◌∙◌, subst}
use mathlib.Core.List.{List}
use native.Mathlib.Omega.{arith}
use Rattle.lines.specs.Lines.{number_line}
use Rattle.sheet.specs.Contents.{contents_of}
use Rattle.sheet.specs.Accepted.{sheet_in}
use Rattle.sheet.specs.declared.Contents.{Contents}
use Rattle.sheet.proofs.Reading.{InOrder, contents-number, in_order}
use Rattle.reasons.specs.Sheets.{reason_sheet, reasons_in, answer_of}
use Rattle.reasons.proofs.Fitting.{Written}
use Rattle.reasons.proofs.Answers.{by-sheet, by-line}
use Rattle.reasons.proofs.answer.Goals as goal

-- what is written is the answer
module _ (bytes out text : List ℕ) (k : ℕ) (last : List ℕ) (w : Written out text k last) where
  answered : reasons_in bytes ≡ text → Written out (reasons_in bytes) k last
  answered e = subst (λ (x : List ℕ). Written out x k last) (sym e) w

-- by the number that reading handed back
module _ (bytes : List ℕ) (r : Contents) (e : r ≡ contents_of bytes) where
  by-number : 0 < r.refusal → reasons_in bytes ≡ number_line r.refusal
  by-number l = by-line bytes (λ z. omega (arith, l, contents-number bytes r e)) ∙ ap number_line (sym (contents-number bytes r e))

  by-none : r.refusal ≡ 0 → reasons_in bytes ≡ reason_sheet (sheet_in bytes)
  by-none z = by-sheet bytes (sym (contents-number bytes r e) ∙ z)

pub returns-then-s-gt0 : goal.returns-then-s-gt0
unfolding answer_of
returns-then-s-gt0 c =
    let a = c.args in
    let s = c.bid_sheet-s in
    let put = c.put_number in
    answered a.bytes.now a.out.now (number_line s.result.refusal) put.result put.new.out put.ensures (by-number a.bytes.now s.result s.ensures c.if-s-gt0.true)

pub overflow_mul-size : goal.overflow_mul-size
overflow_mul-size c =
    let read : InOrder c.args.bytes.now c.bid_sheet-s.result =
    in_order c.args.bytes.now c.bid_sheet-s.result c.bid_sheet-s.ensures (omega (arith, c.if-s-gt0.false)) in
    omega (arith, (read).parts.size)

pub shared_ref_as_front-put_sheet : goal.shared_ref_as_front-put_sheet
shared_ref_as_front-put_sheet c =
    let read : InOrder c.args.bytes.now c.bid_sheet-s.result =
    in_order c.args.bytes.now c.bid_sheet-s.result c.bid_sheet-s.ensures (omega (arith, c.if-s-gt0.false)) in
    (read).parts.items

pub shared_ref_as_front-put_sheet-2 : goal.shared_ref_as_front-put_sheet-2
shared_ref_as_front-put_sheet-2 c =
    let read : InOrder c.args.bytes.now c.bid_sheet-s.result =
    in_order c.args.bytes.now c.bid_sheet-s.result c.bid_sheet-s.ensures (omega (arith, c.if-s-gt0.false)) in
    (read).parts.size

pub put_sheet-requires : goal.put_sheet-requires
put_sheet-requires c =
    let read : InOrder c.args.bytes.now c.bid_sheet-s.result =
    in_order c.args.bytes.now c.bid_sheet-s.result c.bid_sheet-s.ensures (omega (arith, c.if-s-gt0.false)) in
    (read).accepted

pub returns : goal.returns
unfolding answer_of
returns c =
    let read : InOrder c.args.bytes.now c.bid_sheet-s.result =
    in_order c.args.bytes.now c.bid_sheet-s.result c.bid_sheet-s.ensures (omega (arith, c.if-s-gt0.false)) in
    let a = c.args in
    let s = c.bid_sheet-s in
    let put = c.put_sheet in
    answered a.bytes.now a.out.now _ put.result put.new.out put.ensures
    (by-none a.bytes.now s.result s.ensures (omega (arith, c.if-s-gt0.false)) ∙ ap reason_sheet (sym (read).sheet))
