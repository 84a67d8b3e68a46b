-- `reasons::put_sheet` meets its contract. Assumes nothing.
use Prim.Native.Nat.{ℕ, ◌+◌, ◌*◌}
use mathlib.Core.Path.{◌≡◌, sym, ap, ◌∙◌}
use mathlib.Core.List.{List}
use native.Mathlib.Omega.{arith}
use lib.ListN.{length}
use Rattle.rule.specs.Round.{close}
use Rattle.rule.specs.Reasons.{round_count}
use Rattle.bids.specs.Lent.{sheet_of}
use Rattle.bids.specs.Refusal.{sealed_refusal}
use Rattle.auction.specs.Sealed.{closed, sealed_of}
use Rattle.auction.specs.declared.Closing.{Closing}
use Rattle.auction.proofs.Sealing.{sealed-closed}
use Rattle.reasons.specs.Sheets.{reason_sheet}
use Rattle.reasons.proofs.Lines.{sheet-long}
use Rattle.reasons.proofs.Fitting.{not_written, is-written}
use Rattle.reasons.proofs.put_sheet.Goals as goal

-- the rounds that the sealed auction says
module _ (m n : ℕ) (start bids : List ℕ) (z : sealed_refusal m n start bids ≡ 0) (r : Closing) (e : r ≡ sealed_of m n start bids) where
  raised_are : r.raised ≡ (close (sheet_of m n start bids)).ups
  unfolding closed
  raised_are = ap (λ (x : Closing). x.raised) (e ∙ sym (sealed-closed m n start bids z))

  all_are : r.raised + r.lowered ≡ round_count (sheet_of m n start bids)
  unfolding closed round_count
  all_are = ap (λ (x : Closing). x.raised + x.lowered) (e ∙ sym (sealed-closed m n start bids z))

  long-is : 31 * (r.raised + r.lowered) ≡ length (reason_sheet (sheet_of m n start bids))
  long-is = ap (λ (k : ℕ). 31 * k) all_are ∙ sym (sheet-long (sheet_of m n start bids))

pub returns-then-out-long : goal.returns-then-out-long
returns-then-out-long c =
    let a = c.args in
    let same = long-is a.items a.bidders a.start.now a.bids.now c.requires c.sealed-c.result c.sealed-c.ensures.outcome in
    not_written a.out.now (reason_sheet (sheet_of a.items a.bidders a.start.now a.bids.now)) (omega (arith, same, c.if-out-long.true))

pub put_rounds-requires : goal.put_rounds-requires
put_rounds-requires c =
    let a = c.args in
    let r = c.sealed-c in (
      c.requires,
      raised_are a.items a.bidders a.start.now a.bids.now c.requires r.result r.ensures.outcome,
      all_are a.items a.bidders a.start.now a.bids.now c.requires r.result r.ensures.outcome,
      c.if-out-long.false,
    )

pub returns : goal.returns
returns c =
    let a = c.args in
    let same = long-is a.items a.bidders a.start.now a.bids.now c.requires c.sealed-c.result c.sealed-c.ensures.outcome in
    is-written a.out.now (reason_sheet (sheet_of a.items a.bidders a.start.now a.bids.now)) _ _ same (omega (arith, same, c.if-out-long.false)) c.put_rounds.ensures
