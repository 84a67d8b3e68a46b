-- `live::Tidied::rising_set` meets its contract. Assumes nothing.
use Prim.Native.Nat.{ℕ}
use mathlib.Core.Path.{◌≡◌, ◌∙◌}
use lib.ListN.{length, get_or}
use mir.Syntax.{w32}
use mir.Val.{Fits}
use borrow.Author.Rules.{rules}
use Rattle.live.proofs.Sets.{rising-here}
use Rattle.live.proofs.Tidied.rising_set.Goals as goal

pub returns : goal.returns
returns c =
    let r = c.args.self.auction in
    let long : length r.sets ≡ 64 = search rules in
    let fit : (b : ℕ) → Fits w32 (get_or r.sets b 0) = λ b. search rules in
    c.rising.ensures ∙ rising-here r c.args.self.tidy (record { long = long; fit = λ b. (fit b).fits })
