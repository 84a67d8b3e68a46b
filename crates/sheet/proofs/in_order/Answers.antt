-- `sheet::in_order` meets its contract. Assumes nothing.
use mathlib.Core.Path.{sym, ◌∙◌}
use mathlib.Core.List.{[]}
use Rattle.std.proofs.lemmas.Result.{err_from_is_err_and}
use native.Mathlib.Omega.{arith}
use Rattle.rule.specs.Refusal.{first}
use Rattle.sheet.specs.Close.{unreadable}
use Rattle.sheet.specs.Contents.{bid_sheet_refusal}
use Rattle.sheet.proofs.Order.{same_rest}
use Rattle.sheet.proofs.Reading.{Parts, parts, by-amounts}
use Rattle.sheet.proofs.Ends.{refused-with, accepted-as, was_accepted, was_refused}
use Rattle.sheet.proofs.in_order.Goals as goal

pub returns-in_err-s : goal.returns-in_err-s
unfolding bid_sheet_refusal
returns-in_err-s c =
    let bytes = c.args.bytes.now in
    let p = err_from_is_err_and c.from_residual.result c.from_residual.ensures.1 in
    let was = was_refused (first (unreadable bytes [])) _ _ c.in_err-s.ensures in
    rw (p.1, p.2) (refused-with _ c.in_err-s.field-0.0 _ was.1 (same_rest bytes _ [] (λ z. absurd (was.1 (sym was.0 ∙ z))) ∙ was.0))

pub overflow_mul-size : goal.overflow_mul-size
overflow_mul-size c =
    let was = was_accepted _ _ _ c.in_ok-s.ensures in
    let p : Parts c.args.bytes.now c.in_ok-s.s = parts c.args.bytes.now c.in_ok-s.s was.0 was.1 in
    omega (arith, p.size)

pub shared_ref_as_front-refusal : goal.shared_ref_as_front-refusal
shared_ref_as_front-refusal c =
    let was = was_accepted _ _ _ c.in_ok-s.ensures in
    (parts c.args.bytes.now c.in_ok-s.s was.0 was.1).items

pub shared_ref_as_front-refusal-2 : goal.shared_ref_as_front-refusal-2
shared_ref_as_front-refusal-2 c =
    let was = was_accepted _ _ _ c.in_ok-s.ensures in
    (parts c.args.bytes.now c.in_ok-s.s was.0 was.1).size

pub returns-then-over-gt0 : goal.returns-then-over-gt0
returns-then-over-gt0 c =
    let was = was_accepted _ _ _ c.in_ok-s.ensures in
    refused-with (bid_sheet_refusal c.args.bytes.now) c.refusal-over.result _ (λ z. omega arith)
    (sym (c.refusal-over.ensures ∙ by-amounts c.args.bytes.now c.in_ok-s.s was.0 was.1))

pub returns : goal.returns
returns c =
    let was = was_accepted _ _ _ c.in_ok-s.ensures in
    accepted-as (bid_sheet_refusal c.args.bytes.now) _ c.in_ok-s.s
    (sym (c.refusal-over.ensures ∙ by-amounts c.args.bytes.now c.in_ok-s.s was.0 was.1) ∙ omega arith) was.1
