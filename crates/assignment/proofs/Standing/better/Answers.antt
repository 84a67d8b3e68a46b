-- `assignment::Standing::better` meets its contract. Assumes nothing.
use mathlib.Core.Bool.{false}
use native.Mathlib.Omega.{arith}
use Rattle.assignment.proofs.Places.{places_have}
use Rattle.assignment.proofs.Choosing.{first_small}
use Rattle.assignment.proofs.Turning.{Given, Found, x-small, start, found, way, i-small, moved}
use Rattle.assignment.proofs.Standing.better.Goals as goal

pub held-requires : goal.held-requires
held-requires c =
    let t = c.requires.0 in
    (omega (arith, t.more), t.most, x-small t)

pub search-ways-requires : goal.search-ways-requires
search-ways-requires c =
    let a = c.args in
    let at = a.self.now in
    let turn = c.requires.0 in
    let given : Given a.x.now at.above at.opens at.k at.n c.but-unpriced.result c.with-spare.result =
    record {
      priced = c.places_of.result;
      holds = c.held.result;
      rest = c.but.result;
      priced-is = places_have at.above c.places_of.result false c.places_of.ensures;
      unpriced-is = c.but-unpriced.ensures;
      holds-is = c.held.ensures;
      rest-is = c.but.ensures;
      spare-is = c.with-spare.ensures;
    } in
    (start turn given, first_small c.requires.1)

pub shift-requires : goal.shift-requires
shift-requires c =
    let a = c.args in
    let at = a.self.now in
    let turn = c.requires.0 in
    let given : Given a.x.now at.above at.opens at.k at.n c.but-unpriced.result c.with-spare.result =
    record {
      priced = c.places_of.result;
      holds = c.held.result;
      rest = c.but.result;
      priced-is = places_have at.above c.places_of.result false c.places_of.ensures;
      unpriced-is = c.but-unpriced.ensures;
      holds-is = c.held.ensures;
      rest-is = c.but.ensures;
      spare-is = c.with-spare.ensures;
    } in
    let ways = c.search-ways.result in
    let finds : Found at.demands a.x.now at.opens c.but-unpriced.result c.with-spare.result at.k at.n a.wish ways.next ways.entered c.first_item-i.result =
    found turn given c.search-ways.ensures (record { both = c.common.result; both_is = c.common.ensures; lowest_is = c.first_item-i.ensures }) in
    way turn given finds

pub returns : goal.returns
returns c =
    let a = c.args in
    let at = a.self.now in
    let turn = c.requires.0 in
    let given : Given a.x.now at.above at.opens at.k at.n c.but-unpriced.result c.with-spare.result =
    record {
      priced = c.places_of.result;
      holds = c.held.result;
      rest = c.but.result;
      priced-is = places_have at.above c.places_of.result false c.places_of.ensures;
      unpriced-is = c.but-unpriced.ensures;
      holds-is = c.held.ensures;
      rest-is = c.but.ensures;
      spare-is = c.with-spare.ensures;
    } in
    let ways = c.search-ways.result in
    let finds : Found at.demands a.x.now at.opens c.but-unpriced.result c.with-spare.result at.k at.n a.wish ways.next ways.entered c.first_item-i.result =
    found turn given c.search-ways.ensures (record { both = c.common.result; both_is = c.common.ensures; lowest_is = c.first_item-i.ensures }) in
    (omega (arith, i-small turn given finds), λ t. moved t given finds c.requires.1 c.shift.new.x c.shift.ensures)
