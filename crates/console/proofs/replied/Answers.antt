-- `console::replied` meets its contract. Assumes nothing.
use native.Mathlib.Omega.{arith}
use Rattle.console.proofs.Writing.{reply-put}
use Rattle.console.proofs.replied.Goals as goal

pub returns : goal.returns
returns c = reply-put c.args.reply c.args.out.now c.write_refusal.new.out (omega arith) c.write_refusal.ensures
