-- `console::moved` meets its contract. Assumes nothing.
use Rattle.console.proofs.Writing.{move-put}
use Rattle.console.proofs.moved.Goals as goal

pub returns : goal.returns
returns c =
    let a = c.args in
    let m = c.put_round in
    let p = c.priced in
    move-put a.kind a.set a.next a.out.now m.new.out p.new.out p.result c.requires m.ensures p.ensures.0 p.ensures.1
