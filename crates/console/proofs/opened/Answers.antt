-- `console::opened` meets its contract. Assumes nothing.
use native.Mathlib.Omega.{arith}
use Rattle.console.proofs.Writing.{open_kept, open-put}
use Rattle.console.proofs.opened.Goals as goal

pub returns-then-reply-ne0 : goal.returns-then-reply-ne0
returns-then-reply-ne0 c =
    let a = c.args in
    let p = c.replied in
    open_kept a.held a.reply a.out.now p.new.out p.result c.if-reply-ne0.true p.ensures

pub priced-requires : goal.priced-requires
priced-requires c = (c.requires c.if-reply-ne0.false, omega arith)

pub returns : goal.returns
returns c =
    let z = c.if-reply-ne0.false in
    let t = c.write_two in
    let p = c.priced in
    open-put c.args.held c.args.reply c.args.out.now p.new.out p.result t.new.out z (c.requires z) (omega arith) t.ensures p.ensures.0 p.ensures.1
