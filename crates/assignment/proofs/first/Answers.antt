-- `assignment::first` meets its contract. Where nothing completes from the start, the names are zeros too. Assumes nothing.
use mathlib.Core.Path.{sym, ◌∙◌}
use Rattle.assignment.proofs.Unfit.{assigned-many, assigned-unfit, assigned-is}
use Rattle.assignment.proofs.first.Goals as goal

pub returns-then-bidders-gt64 : goal.returns-then-bidders-gt64
returns-then-bidders-gt64 c =
    let a = c.args in
    assigned-many a.sets.now a.nulls a.above a.bidders c.if-bidders-gt64.true

pub returns-then-not-c : goal.returns-then-not-c
returns-then-not-c c =
    let a = c.args in
    let f = c.complete-c in
    assigned-unfit a.sets.now a.nulls a.above a.bidders c.if-bidders-gt64.false (sym f.ensures.is ∙ c.if-not-c.true)

pub seats-requires : goal.seats-requires
seats-requires c =
    let f = c.complete-c in
    f.ensures.small c.if-not-c.false

pub options-requires : goal.options-requires
options-requires c =
    let f = c.complete-c in
    let s = c.seats in
    (c.if-bidders-gt64.false, f.ensures.completes c.if-not-c.false s.result s.ensures)

pub returns : goal.returns
returns c =
    let a = c.args in
    c.options.ensures ∙ assigned-is a.sets.now a.nulls a.above a.bidders c.if-bidders-gt64.false
