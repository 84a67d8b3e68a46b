-- `dewgneiss::lend` meets its contract. Assumes nothing.
use mathlib.Core.Path.{◌∙◌}
use native.Mathlib.Omega.{arith}
use borrow.Author.Rules.{rules}
use Rattle.dewgneiss.proofs.Accepted.{lendable}
use Rattle.dewgneiss.proofs.Copying.{as-long, take-places}
use Rattle.dewgneiss.proofs.lend.Goals as goal

pub copy_from_slice-requires : goal.copy_from_slice-requires
copy_from_slice-requires c = (lendable c.with_lengths-why.ensures c.unfit.ensures (omega arith)).1.two

pub copy_from_slice-requires-2 : goal.copy_from_slice-requires-2
copy_from_slice-requires-2 c =
    let z = lendable c.with_lengths-why.ensures c.unfit.ensures (omega arith) in
    as-long c.args.items 32 c.args.c.prices (c.requires z.0).0 (search rules) c.args.prices.now z.1.as_items

pub copy_from_slice-requires-3 : goal.copy_from_slice-requires-3
copy_from_slice-requires-3 c =
    let z = lendable c.with_lengths-why.ensures c.unfit.ensures (omega arith) in
    as-long c.args.bidders 64 c.args.c.assignment (c.requires z.0).1 (search rules) c.args.options.now z.1.as-bidders

pub copy_from_slice-requires-4 : goal.copy_from_slice-requires-4
copy_from_slice-requires-4 c =
    let z = lendable c.with_lengths-why.ensures c.unfit.ensures (omega arith) in
    as-long c.args.bidders 64 c.args.c.gains (c.requires z.0).1 (search rules) c.args.gains.now z.1.gain-each

pub returns-clause-prices : goal.returns-clause-prices
returns-clause-prices c =
    let z = lendable c.with_lengths-why.ensures c.unfit.ensures (omega arith) in
    c.copy_from_slice-2.ensures.after ∙ take-places c.args.items 32 c.args.c.prices (c.requires z.0).0 (search rules)

pub returns-clause-options : goal.returns-clause-options
returns-clause-options c =
    let z = lendable c.with_lengths-why.ensures c.unfit.ensures (omega arith) in
    c.copy_from_slice-3.ensures.after ∙ take-places c.args.bidders 64 c.args.c.assignment (c.requires z.0).1 (search rules)

pub returns-clause-gains : goal.returns-clause-gains
returns-clause-gains c =
    let z = lendable c.with_lengths-why.ensures c.unfit.ensures (omega arith) in
    c.copy_from_slice-4.ensures.after ∙ take-places c.args.bidders 64 c.args.c.gains (c.requires z.0).1 (search rules)
