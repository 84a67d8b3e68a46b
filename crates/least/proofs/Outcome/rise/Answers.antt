-- `least::Outcome::rise` meets its contract. Assumes nothing.
use Rattle.least.proofs.Lifting.{lifted-standing, rise-calm, rise-balanced, rise-least}
use Rattle.least.proofs.Outcome.rise.Goals as goal

pub returns-then-waiting-eq0 : goal.returns-then-waiting-eq0
returns-then-waiting-eq0 c =
    let pre = c.requires in
    rise-calm pre.0.1 pre.0.2 pre.1 c.lift_all-waiting.ensures c.if-waiting-eq0.true

pub put_all-requires : goal.put_all-requires
put_all-requires c = let pre = c.requires in lifted-standing pre.0.1 pre.0.2 pre.1 c.lift_all-waiting.ensures

pub fall-requires : goal.fall-requires
fall-requires c =
    let pre = c.requires in
    let l = c.lift_all-waiting in
    let p = c.put_all in
    rise-balanced pre.0.1 pre.0.2 pre.1 l.ensures p.new.self.prices p.new.self.own p.ensures

pub returns : goal.returns
returns c =
    let pre = c.requires in
    let l = c.lift_all-waiting in
    let p = c.put_all in
    rise-least pre.0.1 pre.0.2 pre.1 l.ensures p.new.self.prices p.new.self.own p.ensures c.fall.new.self.prices c.fall.new.self.own c.fall.ensures
