-- `console::first_amounts` meets its contract. Assumes nothing.
use borrow.Author.Rules.{rules}
use lib.ListN.{get_or}
use Rattle.sets.specs.Lists.{places}
use Rattle.sets.proofs.FromFn.{from_fn-tabulate}
use Rattle.console.specs.Orders.{amounts_of}
use Rattle.console.proofs.first_amounts.Goals as goal

pub returns : goal.returns
unfolding places
returns c = from_fn-tabulate _ _ 65 (λ k. get_or (amounts_of c.args.line.now) k 0) (λ q i y l k. search rules) _ c.from_fn.ensures.items
