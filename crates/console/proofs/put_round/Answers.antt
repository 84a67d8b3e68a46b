-- `console::put_round` meets its contract. Assumes nothing.
use Rattle.console.proofs.Writing.{round-put}
use Rattle.console.proofs.put_round.Goals as goal

pub returns : goal.returns
returns c =
    let a = c.args in
    round-put a.out.now c.write_two.new.out c.write_number.new.out c.write_number-2.new.out a.kind a.set c.requires c.write_two.ensures
    c.write_number.ensures.1 c.write_number-2.ensures.1
