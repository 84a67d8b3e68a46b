-- `console::carry_out` meets its contract. Assumes nothing.
use mathlib.Core.Path.{refl}
use native.Mathlib.Omega.{arith}
use Rattle.console.proofs.Answering.{answers, part_length, told-open, told-above, told-report, told-end, told-clear, told-read, told_none, open-amounts, open-items, above-items, end-items}
use Rattle.console.proofs.carry_out.Goals as goal

pub slice_bounds-open_by-end-in-Open : goal.slice_bounds-open_by-end-in-Open
slice_bounds-open_by-end-in-Open c = part_length c.args.tables.now c.requires _ _ c.cut-n.ensures

pub open_by-requires : goal.open_by-requires
open_by-requires c = open-amounts _ _ _ c.order_of.ensures c.in-Open.is refl

pub opened-requires : goal.opened-requires
opened-requires c = open-items _ _ _ _ _ c.open_by.ensures.0

pub slice_bounds-open_above_by-end-in-OpenAbove : goal.slice_bounds-open_above_by-end-in-OpenAbove
slice_bounds-open_above_by-end-in-OpenAbove c = part_length c.args.tables.now c.requires _ _ c.cut-n-in-OpenAbove.ensures

pub open_above_by-requires : goal.open_above_by-requires
open_above_by-requires c = open-amounts _ _ _ c.order_of.ensures c.in-OpenAbove.is refl

pub opened-requires-in-OpenAbove : goal.opened-requires-in-OpenAbove
opened-requires-in-OpenAbove c = above-items _ _ _ _ _ _ c.open_above_by.ensures.0

pub slice_bounds-report-end-in-Report : goal.slice_bounds-report-end-in-Report
slice_bounds-report-end-in-Report c = part_length c.args.tables.now c.requires _ _ c.cut-own.ensures

pub slice_bounds-end-end-in-End : goal.slice_bounds-end-end-in-End
slice_bounds-end-end-in-End c = part_length c.args.tables.now c.requires _ _ c.cut-own.ensures

pub ended-requires : goal.ended-requires
ended-requires c = λ o q. end-items _ _ _ _ o c.end.ensures.0 c.end.ensures.1 q

pub returns-in-Open-clause-answers : goal.returns-in-Open-clause-answers
returns-in-Open-clause-answers c =
    let a = c.args in
    answers a.held a.tables.now a.line.now a.out.now _ _ _ _ (omega arith)
    (told-open a.held a.tables.now a.line.now _ c.order_of.ensures c.requires _ _ _ c.cut-n.ensures c.in-Open.is _ _ c.open_by.ensures.0 c.open_by.ensures.1)
    c.opened.ensures

pub returns-in-OpenAbove-clause-answers : goal.returns-in-OpenAbove-clause-answers
returns-in-OpenAbove-clause-answers c =
    let a = c.args in
    answers a.held a.tables.now a.line.now a.out.now _ _ _ _ (omega arith)
    (told-above a.held a.tables.now a.line.now _ c.order_of.ensures c.requires _ _ _ c.cut-n-in-OpenAbove.ensures c.in-OpenAbove.is _ _ c.open_above_by.ensures.0 c.open_above_by.ensures.1)
    c.opened-in-OpenAbove.ensures

pub returns-in-Report-clause-answers : goal.returns-in-Report-clause-answers
returns-in-Report-clause-answers c =
    let a = c.args in
    answers a.held a.tables.now a.line.now a.out.now _ _ _ _ (omega arith)
    (told-report a.held a.tables.now a.line.now _ c.order_of.ensures c.requires _ c.cut-own.ensures _ _ _ c.in-Report.is _ c.report.ensures)
    c.replied.ensures

pub returns-in-End-clause-answers : goal.returns-in-End-clause-answers
returns-in-End-clause-answers c =
    let a = c.args in
    answers a.held a.tables.now a.line.now a.out.now _ _ _ _ (omega arith)
    (told-end a.held a.tables.now a.line.now _ c.order_of.ensures c.requires _ c.cut-own.ensures c.in-End.is _ _ _ c.end.ensures.0 c.end.ensures.1 c.end.ensures.2)
    c.ended.ensures

pub returns-in-Clear-clause-answers : goal.returns-in-Clear-clause-answers
returns-in-Clear-clause-answers c =
    let a = c.args in
    answers a.held a.tables.now a.line.now a.out.now _ _ _ _ (omega arith)
    (told-clear a.held a.tables.now a.line.now _ c.order_of.ensures c.in-Clear.is _ c.clear.ensures)
    c.replied-in-Clear.ensures

pub returns-in-Read-clause-answers : goal.returns-in-Read-clause-answers
returns-in-Read-clause-answers c =
    let a = c.args in
    answers a.held a.tables.now a.line.now a.out.now _ _ _ _ (omega arith)
    (told-read a.held a.tables.now a.line.now _ c.order_of.ensures c.in-Read.is)
    c.shown.ensures

pub returns-in-Unknown-clause-answers : goal.returns-in-Unknown-clause-answers
returns-in-Unknown-clause-answers c =
    let a = c.args in
    answers a.held a.tables.now a.line.now a.out.now _ _ _ _ (omega arith)
    (told_none a.held a.tables.now a.line.now _ c.order_of.ensures c.in-Unknown.is)
    c.replied-in-Unknown.ensures
