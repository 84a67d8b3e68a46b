-- `live::Auction::is_explained` meets its contract. Assumes nothing.
use mathlib.Core.Path.{◌∙◌}
use native.Mathlib.Omega.{arith}
use Rattle.reports.specs.Report.{saying}
use Rattle.live.proofs.Opening.{tables_long}
use Rattle.live.proofs.Formed.{formed}
use Rattle.live.proofs.Lent.{inside, explains-at}
use Rattle.live.proofs.Auction.is_explained.Goals as goal

pub overflow_mul-a : goal.overflow_mul-a
overflow_mul-a c = omega (arith, c.requires.1, (formed c.args.self c.requires.0.formed).max_bidders)

pub overflow_add-a : goal.overflow_add-a
overflow_add-a c = omega (arith, c.requires.1, (formed c.args.self c.requires.0.formed).max_bidders)

pub offset_bounds-tables-a : goal.offset_bounds-tables-a
offset_bounds-tables-a c = omega (arith, c.requires.1, (formed c.args.self c.requires.0.formed).max_bidders)

pub slice_bounds-explains-end : goal.slice_bounds-explains-end
slice_bounds-explains-end c =
    let a = c.args in
    omega (arith, inside a.k a.self.bidders c.requires.1, tables_long a.self.bidders a.tables.now c.requires.0.long)

pub returns : goal.returns
returns c =
    let a = c.args in
    c.explains.ensures ∙ explains-at a.self a.tables.now c.requires.0 a.k c.requires.1 (saying a.null a.set) c.requires.2
