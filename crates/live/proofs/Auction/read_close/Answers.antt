-- `live::Auction::read_close` meets its contract. Assumes nothing.
use Prim.Native.Nat.{ℕ}
use mathlib.Core.Path.{◌≡◌, sym, ◌∙◌}
use mathlib.Core.Bool.{true}
use mathlib.Core.List.{List}
use borrow.Author.Tests.{not-true, not-false}
use Rattle.live.specs.Auction.{well_formed}
use Rattle.live.specs.Calls.{is_closed}
use Rattle.live.specs.Reading.{too_few}
use Rattle.live.proofs.Formed.{tidy}
use Rattle.live.proofs.Reading.{read-11, read-15, read-3, read-on}
use Rattle.live.proofs.Auction.read_close.Goals as goal

pub returns-then-not-well_formed : goal.returns-then-not-well_formed
returns-then-not-well_formed c = read-11 c.args.self c.args.out.now (sym c.well_formed-2.ensures ∙ c.if-not-well_formed.true)

pub returns-then-not-is_closed : goal.returns-then-not-is_closed
returns-then-not-is_closed c =
    let passes : well_formed c.args.self ≡ true = sym c.well_formed-2.ensures ∙ c.if-not-well_formed.false in
    read-15 c.args.self c.args.out.now passes (sym c.is_closed.ensures ∙ c.if-not-is_closed.true)

pub tidied-requires : goal.tidied-requires
tidied-requires c =
    let passes : well_formed c.args.self ≡ true = sym c.well_formed-2.ensures ∙ c.if-not-well_formed.false in
    tidy c.args.self passes

pub returns-then-not-written : goal.returns-then-not-written
returns-then-not-written c =
    let passes : well_formed c.args.self ≡ true = sym c.well_formed-2.ensures ∙ c.if-not-well_formed.false in
    let closed : is_closed c.args.self.phase ≡ true = sym c.is_closed.ensures ∙ c.if-not-is_closed.false in
    let w = c.written in
    let e = c.tidied.ensures in
    let r = c.args.self in
    let out : List ℕ = c.args.out.now in
    read-3 r out passes closed w.new.out (rw e at w.ensures.1) (not-false (too_few r out) (sym (rw e at w.ensures.0) ∙ c.if-not-written.true))

pub returns : goal.returns
returns c =
    let passes : well_formed c.args.self ≡ true = sym c.well_formed-2.ensures ∙ c.if-not-well_formed.false in
    let closed : is_closed c.args.self.phase ≡ true = sym c.is_closed.ensures ∙ c.if-not-is_closed.false in
    let w = c.written in
    let e = c.tidied.ensures in
    let r = c.args.self in
    let out : List ℕ = c.args.out.now in
    read-on r out passes closed w.new.out (rw e at w.ensures.1) (not-true (too_few r out) (sym (rw e at w.ensures.0) ∙ c.if-not-written.false))
