-- `console::priced` meets its contract. Assumes nothing.
use mathlib.Core.Path.{refl}
use native.Mathlib.Omega.{arith}
use Rattle.console.proofs.Writing.{prices-put}
use Rattle.console.proofs.priced.Goals as goal

pub returns : goal.returns
returns c =
    let a = c.args in
    let w = c.write_prices in
    (refl, prices-put a.next a.out.now w.new.out a.at c.requires.0 (omega (arith, c.requires.1)) w.ensures.1)
