-- `console::ended` meets its contract. Assumes nothing.
use mathlib.Core.Path.{◌≡◌, ap, ◌∙◌}
use Rattle.rule.specs.Round.{raised, lowered, closed}
use Rattle.live.specs.Calls.{gives, refused, move_of, ending_of}
use Rattle.live.specs.declared.Kind.{Kind}
use Rattle.live.specs.declared.Ended.TheVariants.{Moved}
use Rattle.console.proofs.Writing.{raised-put, lowered-put, closed-put, refused-put, by-ending}
use Rattle.console.proofs.ended.Goals as goal

pub moved-requires : goal.moved-requires
unfolding ending_of move_of
moved-requires c =
    let raises : ending_of c.args.step.ended ≡ gives (raised c.in-Moved.set) =
    ap ending_of (c.in-Moved.is ∙ ap (λ (k : Kind). Moved k c.in-Moved.set) c.in-Raised.is) in
    c.requires (raised c.in-Moved.set) raises

pub moved-requires-in-Lowered : goal.moved-requires-in-Lowered
unfolding ending_of move_of
moved-requires-in-Lowered c =
    let lowers : ending_of c.args.step.ended ≡ gives (lowered c.in-Moved.set) =
    ap ending_of (c.in-Moved.is ∙ ap (λ (k : Kind). Moved k c.in-Moved.set) c.in-Lowered.is) in
    c.requires (lowered c.in-Moved.set) lowers

pub moved-requires-in-Closed : goal.moved-requires-in-Closed
unfolding ending_of
moved-requires-in-Closed c =
    let closes : ending_of c.args.step.ended ≡ gives closed = ap ending_of c.in-Closed.is in
    c.requires closed closes

pub returns-in-Raised : goal.returns-in-Raised
unfolding ending_of move_of
returns-in-Raised c =
    let raises : ending_of c.args.step.ended ≡ gives (raised c.in-Moved.set) =
    ap ending_of (c.in-Moved.is ∙ ap (λ (k : Kind). Moved k c.in-Moved.set) c.in-Raised.is) in
    let a = c.args in
    let set = c.in-Moved.set in
    let m = c.moved in
    by-ending a.step.next a.out.now m.new.out m.result (ending_of a.step.ended) (gives (raised set)) (raises)
    (raised-put a.step.next a.out.now m.new.out m.result set m.ensures)

pub returns-in-Lowered : goal.returns-in-Lowered
unfolding ending_of move_of
returns-in-Lowered c =
    let lowers : ending_of c.args.step.ended ≡ gives (lowered c.in-Moved.set) =
    ap ending_of (c.in-Moved.is ∙ ap (λ (k : Kind). Moved k c.in-Moved.set) c.in-Lowered.is) in
    let a = c.args in
    let set = c.in-Moved.set in
    let m = c.moved-in-Lowered in
    by-ending a.step.next a.out.now m.new.out m.result (ending_of a.step.ended) (gives (lowered set)) (lowers)
    (lowered-put a.step.next a.out.now m.new.out m.result set m.ensures)

pub returns-in-Closed : goal.returns-in-Closed
unfolding ending_of
returns-in-Closed c =
    let closes : ending_of c.args.step.ended ≡ gives closed = ap ending_of c.in-Closed.is in
    let a = c.args in
    let m = c.moved-in-Closed in
    by-ending a.step.next a.out.now m.new.out m.result (ending_of a.step.ended) (gives closed) (closes)
    (closed-put a.step.next a.out.now m.new.out m.result m.ensures)

pub returns-in-Refused : goal.returns-in-Refused
unfolding ending_of
returns-in-Refused c =
    let a = c.args in
    let x = c.in-Refused.number in
    let m = c.replied in
    by-ending a.step.next a.out.now m.new.out m.result (ending_of a.step.ended) (refused x) (ap ending_of c.in-Refused.is)
    (refused-put a.step.next a.out.now m.new.out m.result x m.ensures)
