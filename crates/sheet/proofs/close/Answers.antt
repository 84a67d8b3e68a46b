-- `sheet::close` meets its contract. Assumes nothing.
use mathlib.Core.Path.{sym, ap, ◌∙◌, subst}
use mathlib.Core.List.{[]}
use Rattle.std.proofs.lemmas.Result.{err_from_is_err_and}
use native.Mathlib.Omega.{arith}
use lib.ListN.{length}
use Rattle.rule.specs.Refusal.{first, bad_items, bad_bidders}
use Rattle.sheet.specs.BidSheet.{BidSheet}
use Rattle.sheet.specs.Close.{unreadable, sheet_refusal}
use Rattle.sheet.specs.Steps.{ClosedRead}
use Rattle.sheet.proofs.Order.{same_rest}
use Rattle.sheet.proofs.Readable.{readable, to_read}
use Rattle.sheet.proofs.Reading.{Parts, parts}
use Rattle.sheet.proofs.Ends.{was_accepted, was_refused, turned-down, by_read}
use Rattle.sheet.proofs.close.Goals as goal

pub returns-in_err-said : goal.returns-in_err-said
unfolding sheet_refusal
returns-in_err-said c =
    let a = c.args in
    let p = err_from_is_err_and c.from_residual.result c.from_residual.ensures.1 in
    let was = was_refused (first (unreadable a.bytes.now [])) _ _ c.in_err-said.ensures in
    rw (p.1, p.2)
    (turned-down a.bytes.now a.out.now c.in_err-said.field-0.0 was.1 (same_rest a.bytes.now _ [] (λ z. absurd (was.1 (sym was.0 ∙ z))) ∙ was.0))

pub overflow_mul-size : goal.overflow_mul-size
overflow_mul-size c =
    let was = was_accepted _ _ _ c.in_ok-said.ensures in
    let p : Parts c.args.bytes.now c.in_ok-said.said = parts c.args.bytes.now c.in_ok-said.said was.0 was.1 in
    omega (arith, p.size)

pub shared_ref_as_front-close_read : goal.shared_ref_as_front-close_read
shared_ref_as_front-close_read c =
    let was = was_accepted _ _ _ c.in_ok-said.ensures in
    (parts c.args.bytes.now c.in_ok-said.said was.0 was.1).items

pub shared_ref_as_front-close_read-2 : goal.shared_ref_as_front-close_read-2
shared_ref_as_front-close_read-2 c =
    let was = was_accepted _ _ _ c.in_ok-said.ensures in
    (parts c.args.bytes.now c.in_ok-said.said was.0 was.1).size

pub close_read-requires : goal.close_read-requires
close_read-requires c =
    let was = was_accepted _ _ _ c.in_ok-said.ensures in
    let p : Parts c.args.bytes.now c.in_ok-said.said = parts c.args.bytes.now c.in_ok-said.said was.0 was.1 in
    let w = readable c.args.bytes.now was.0 in (
      ap (λ (s : BidSheet). bad_items s.items) p.back ∙ w.items,
      ap (λ (s : BidSheet). bad_bidders s.bidders) p.back ∙ w.bidders,
      p.starts,
      p.rows,
    )

pub returns : goal.returns
returns c =
    let was = was_accepted _ _ _ c.in_ok-said.ensures in
    let p : Parts c.args.bytes.now c.in_ok-said.said = parts c.args.bytes.now c.in_ok-said.said was.0 was.1 in
    let a = c.args in
    let end = c.close_read in
    by_read a.bytes.now a.out.now end.result end.new.out (to_read a.bytes.now was.0 (length a.out.now))
    (subst (λ (s : BidSheet). ClosedRead s a.out.now end.result end.new.out) p.back end.ensures)
