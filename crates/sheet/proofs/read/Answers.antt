-- `sheet::read` meets its contract. Assumes nothing.
use Prim.Native.Nat.{ℕ}
use mathlib.Core.Path.{◌≡◌, sym, ◌∙◌}
use mathlib.Core.Bool.{false}
use Rattle.std.specs.Prelude.{None, Some}
use Rattle.std.proofs.lemmas.Result.{err_from_is_err_and}
use native.Mathlib.Omega.{arith}
use Rattle.rule.specs.Refusal.{bad_items, bad_bidders}
use Rattle.digits.proofs.Walking.{was-read}
use Rattle.sheet.specs.BidSheet.{items_in, bidders_in}
use Rattle.sheet.proofs.Order.{no_items, no-bidders, bad-items, bad-bidders}
use Rattle.sheet.proofs.Longer.{most-items, most-bidders}
use Rattle.sheet.proofs.Ends.{refused-with, six-for-none}
use Rattle.sheet.proofs.read.Goals as goal

pub returns-in_err-items : goal.returns-in_err-items
unfolding items_in
returns-in_err-items c =
    let bytes = c.args.bytes.now in
    let p = err_from_is_err_and c.from_residual.result c.from_residual.ensures.1 in
    let six = six-for-none c.read_number.result _ c.in_err-items.ensures.value in
    let e : items_in bytes ≡ None = was-read 2 0 bytes c.read_number.result _ (omega arith) c.read_number.ensures c.in_err-items.ensures.ok_part in
    rw (p.1, p.2, six) (refused-with _ 6 _ (λ z. omega arith) (no_items bytes e))

pub returns-in_err-bidders : goal.returns-in_err-bidders
unfolding bidders_in items_in
returns-in_err-bidders c =
    let bytes = c.args.bytes.now in
    let m : ℕ = c.in_ok-items.field-0 in
    let items-read : items_in bytes ≡ Some m = was-read 2 0 bytes c.read_number.result _ (omega arith) c.read_number.ensures c.in_ok-items.ensures.ok_part in
    let p = err_from_is_err_and c.from_residual-in_err-bidders.result c.from_residual-in_err-bidders.ensures.1 in
    let six = six-for-none c.read_number-2.result _ c.in_err-bidders.ensures.value in
    let e : bidders_in bytes ≡ None = was-read 2 2 bytes c.read_number-2.result _ (omega arith) c.read_number-2.ensures c.in_err-bidders.ensures.ok_part in
    rw (p.1, p.2, six) (refused-with _ 6 _ (λ z. omega arith) (no-bidders bytes m items-read e))

pub returns-then-outside : goal.returns-then-outside
unfolding bad_items items_in bidders_in
returns-then-outside c =
    let bytes = c.args.bytes.now in
    let m : ℕ = c.in_ok-items.field-0 in
    let n : ℕ = c.in_ok-bidders.field-0 in
    let items-read : items_in bytes ≡ Some m = was-read 2 0 bytes c.read_number.result _ (omega arith) c.read_number.ensures c.in_ok-items.ensures.ok_part in
    let bidders-read : bidders_in bytes ≡ Some n = was-read 2 2 bytes c.read_number-2.result _ (omega arith) c.read_number-2.ensures c.in_ok-bidders.ensures.ok_part in
    refused-with _ 1 _ (λ z. omega arith) (bad-items bytes m items-read n bidders-read (sym c.outside.ensures ∙ c.if-outside.true))

pub returns-then-outside-2 : goal.returns-then-outside-2
unfolding bad_bidders items_in bidders_in bad_items
returns-then-outside-2 c =
    let bytes = c.args.bytes.now in
    let m : ℕ = c.in_ok-items.field-0 in
    let n : ℕ = c.in_ok-bidders.field-0 in
    let items-read : items_in bytes ≡ Some m = was-read 2 0 bytes c.read_number.result _ (omega arith) c.read_number.ensures c.in_ok-items.ensures.ok_part in
    let bidders-read : bidders_in bytes ≡ Some n = was-read 2 2 bytes c.read_number-2.result _ (omega arith) c.read_number-2.ensures c.in_ok-bidders.ensures.ok_part in
    let items-fit : bad_items m ≡ false = sym c.outside.ensures ∙ c.if-outside.false in
    refused-with _ 2 _ (λ z. omega arith) (bad-bidders bytes m items-read n bidders-read items-fit (sym c.outside-2.ensures ∙ c.if-outside-2.true))

pub read_counted-requires : goal.read_counted-requires
unfolding bad_bidders items_in bidders_in bad_items
read_counted-requires c =
    let bytes = c.args.bytes.now in
    let m : ℕ = c.in_ok-items.field-0 in
    let n : ℕ = c.in_ok-bidders.field-0 in
    let items-read : items_in bytes ≡ Some m = was-read 2 0 bytes c.read_number.result _ (omega arith) c.read_number.ensures c.in_ok-items.ensures.ok_part in
    let bidders-read : bidders_in bytes ≡ Some n = was-read 2 2 bytes c.read_number-2.result _ (omega arith) c.read_number-2.ensures c.in_ok-bidders.ensures.ok_part in
    let e : bad_items m ≡ false = sym c.outside.ensures ∙ c.if-outside.false in
    let f : bad_bidders n ≡ false = sym c.outside-2.ensures ∙ c.if-outside-2.false in
    (items-read, bidders-read, e, f, most-items m e, most-bidders n f)
