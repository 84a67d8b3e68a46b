-- `bids::line` meets its contract. Assumes nothing.
use mathlib.Core.Path.{refl, sym, ◌∙◌}
use native.Mathlib.Omega.{arith}
use Rattle.bids.proofs.Showing.{asked, line-none, line-is}
use Rattle.bids.proofs.line.Goals as goal

pub returns-then-line_refusal-ne0 : goal.returns-then-line_refusal-ne0
returns-then-line_refusal-ne0 c =
    let a = c.args in
    let n = line-none a.items a.bidders a.bidder a.bids.now c.line_refusal.result c.line_refusal.ensures c.if-line_refusal-ne0.true in
    (n.shown, (refl, omega (arith, n.start)))

pub overflow_sub-bidder : goal.overflow_sub-bidder
overflow_sub-bidder c =
    let a = c.args in
    let s = asked a.items a.bidders a.bidder a.bids.now (sym c.line_refusal.ensures ∙ c.if-line_refusal-ne0.false) in
    omega (arith, s.some)

pub overflow_cast-bidder : goal.overflow_cast-bidder
overflow_cast-bidder c = let a = c.args in
    let s = asked a.items a.bidders a.bidder a.bids.now (sym c.line_refusal.ensures ∙ c.if-line_refusal-ne0.false) in
    omega (arith, s.some, s.most)

pub returns : goal.returns
returns c =
    let a = c.args in
    let e = sym c.line_refusal.ensures ∙ c.if-line_refusal-ne0.false in
    let l = line-is a.items a.bidders a.bidder a.bids.now e in
    (c.row.ensures.0 ∙ l.shown, (c.row.ensures.1.0, omega (arith, c.row.ensures.1.1, l.start)))
