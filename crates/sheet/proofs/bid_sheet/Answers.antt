-- `sheet::bid_sheet` meets its contract. Assumes nothing.
use Prim.Native.Nat.{ℕ}
use mathlib.Core.Path.{sym, ap, ◌∙◌}
use Rattle.sheet.specs.Close.{bid_sheet_of}
use Rattle.sheet.specs.Contents.{bid_sheet_refusal, contents, contents_of}
use Rattle.sheet.proofs.Reading.{by-zeros}
use Rattle.sheet.proofs.Ends.{was_accepted, was_refused}
use Rattle.sheet.proofs.bid_sheet.Goals as goal

pub returns-in-Ok : goal.returns-in-Ok
unfolding contents_of
returns-in-Ok c =
    let was = was_accepted (bid_sheet_refusal c.args.bytes.now) _ _ c.in-Ok.ensures in
    was.1 ∙ ap (λ (k : ℕ). contents k (bid_sheet_of c.args.bytes.now)) (sym was.0)

pub returns-in-Err : goal.returns-in-Err
unfolding contents_of
returns-in-Err c =
    let was = was_refused (bid_sheet_refusal c.args.bytes.now) _ _ c.in-Err.ensures in
    by-zeros _ c.in-Err.why (bid_sheet_of c.args.bytes.now) c.unread.result c.unread.ensures was.1 was.0
