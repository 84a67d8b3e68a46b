-- `live::Tidied::items_above` meets its contract. Assumes nothing.
use mathlib.Core.Path.{◌≡◌, ◌∙◌}
use lib.ListN.{length}
use borrow.Author.Rules.{rules}
use Rattle.live.proofs.Sets.{above-here}
use Rattle.live.proofs.Tidied.items_above.Goals as goal

pub returns : goal.returns
returns c =
    let r = c.args.self.auction in
    let priced : length r.prices ≡ 32 = search rules in
    c.above_floors.ensures ∙ above-here r c.args.self.tidy priced
