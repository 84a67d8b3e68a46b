-- `assignment::complete` meets its contract. The matching finds a covering match exactly where there is a complete assignment. Assumes nothing.
use mathlib.Core.Path.{◌∙◌}
use Rattle.sets.proofs.Words.{first-all}
use Rattle.assignment.proofs.Completing.{complete-of}
use Rattle.assignment.proofs.complete.Goals as goal

pub returns : goal.returns
returns c =
    let a = c.args in
    let own = c.reported-own in
    let all = c.first in
    let must = c.but-must in
    let m = c.cover in
    complete-of a.n c.requires a.sets.now a.nulls a.above own.result own.ensures.0 own.ensures.1 all.result must.result (all.ensures ∙ first-all 64 a.n c.requires) must.ensures
    m.result.found m.result.holder m.ensures.0
