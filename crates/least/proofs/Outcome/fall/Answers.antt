-- `least::Outcome::fall` meets its contract. Assumes nothing.
use Rattle.least.proofs.Lowering.{descends, lowered}
use Rattle.least.proofs.Outcome.fall.Goals as goal

pub descend-requires : goal.descend-requires
descend-requires c =
    let o = c.offers in
    (descends c.requires c.seated.result c.seated.ensures o.new.best o.ensures, c.new-paths.ensures.0, c.new-paths.ensures.1, rw c.new-paths.ensures.2 c.held.ensures)

pub returns : goal.returns
returns c =
    let o = c.offers in
    let d = c.descend in
    let l = c.lower in
    lowered c.requires c.seated.result c.seated.ensures o.new.best o.ensures d.new.self.dist d.new.self.via d.ensures l.new.prices l.ensures
