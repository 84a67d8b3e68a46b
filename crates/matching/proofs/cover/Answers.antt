-- `matching::cover` meets its contract. Assumes nothing.
use mathlib.Core.Path.{refl, sym, ◌∙◌}
use Rattle.matching.specs.Chain.{Filled, NoSeats}
use Rattle.matching.proofs.Holdings.{no_both}
use Rattle.matching.proofs.Looking.{some-free, none-free}
use Rattle.matching.proofs.Seating.{seated-none, no_items, seated-matching, seated-covering}
use Rattle.matching.proofs.cover.Goals as goal
use Rattle.matching.proofs.cover.Goals.{then-is_some-via-then-is_some, then-is_some-via-else-is_some+then-not-seat_all}

pub returns-then-is_some : goal.returns-then-is_some
unfolding NoSeats
returns-then-is_some c =
    let a = c.args in
    let inner = c.within in
    let s = c.settled-matcher in (
      record {
        matching = λ q. no_both q refl;
        covering = λ q. no_both q refl;
        none = λ q g mg cg. elim c.then-is_some.branch [
          | then-is_some-via-then-is_some w ↦
              let f = some-free a.items s.result.holder c.free_item.result c.free_item.ensures (sym c.is_some.ensures ∙ w.if-is_some.true) in
              no_items a.demand.now inner.result a.items s.result.holder s.result.entered inner.ensures s.ensures f.0 f.1 f.2 f.3 g mg cg.held
          | then-is_some-via-else-is_some+then-not-seat_all w ↦ w.seat_all.ensures.failed w.if-not-seat_all.true g mg cg.placed
        ];
      },
      λ q. refl,
    )

pub seat_all-requires : goal.seat_all-requires
seat_all-requires c =
    let a = c.args in
    let inner = c.within in
    let s = c.settled-matcher in
    seated-none a.demand.now inner.result a.items s.result.holder s.result.entered inner.ensures s.ensures a.bidders

pub returns : goal.returns
unfolding Filled
returns c =
    let a = c.args in
    let k = c.seat_all in
    let good = c.if-not-seat_all.false in
    let held = none-free a.items c.settled-matcher.result.holder c.free_item.result c.free_item.ensures (sym c.is_some.ensures ∙ c.if-is_some.false) in
    let n = k.new.self.holder in (
      record {
        matching = λ q. seated-matching a.demand.now a.bidders a.items n (k.ensures.won good);
        covering = λ q. seated-covering a.demand.now a.bidders a.items n (k.ensures.won good) (λ i li h. k.ensures.filled good i li (held i li h));
        none = λ q. no_both refl q;
      },
      λ q. no_both refl q,
    )
