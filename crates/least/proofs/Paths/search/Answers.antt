-- `least::Paths::search` meets its contract: each turn enters the nearest item, as long as somebody holds it. Assumes nothing.
use mathlib.Core.Path.{sym, ◌∙◌}
use native.Mathlib.Omega.{arith}
use Rattle.least.proofs.Distances.{same_or, option-amount}
use Rattle.least.proofs.Seeking.{first-long, first-lowest, seek-start, next_small, enters, seek-fewer, seek-lowest, seek-next}
use Rattle.least.proofs.Paths.search.Goals as goal

pub relax-low-requires : goal.relax-low-requires
relax-low-requires c =
    let a = c.args in
    let r = c.requires.0 in
    (omega (arith, first-long r c.row.result.now c.row.ensures.0, r.table.max_items), r.small, omega arith)

pub nearest-next-requires : goal.nearest-next-requires
nearest-next-requires c =
    let a = c.args in
    let r = c.requires.0 in
    let low = first-lowest r a.self.now.dist a.self.now.via a.self.now.left c.requires.1 c.row.result.now c.row.ensures.0 c.relax-low.new.self.dist c.relax-low.result c.relax-low.ensures.1 in
    rw c.relax-low.ensures.2 (r.table.max_items, low.0, low.1)

pub at-h-requires : goal.at-h-requires
at-h-requires c =
    let a = c.args in
    let r = c.requires.0 in
    let s = seek-start r a.self.now.dist a.self.now.via a.self.now.left c.requires.1 c.row.result.now c.row.ensures.0 c.relax-low.new.self.dist c.relax-low.new.self.via c.relax-low.ensures.0 c.nearest-next.result (rw c.relax-low.ensures.2 at c.nearest-next.ensures) in
    omega (arith, next_small r s, r.table.max_items)

pub loop-h-init : goal.loop-h-init
loop-h-init c =
    let a = c.args in
    let r = c.requires.0 in
    (c.at-h.ensures, rw c.relax-low.ensures.2 (seek-start r a.self.now.dist a.self.now.via a.self.now.left c.requires.1 c.row.result.now c.row.ensures.0 c.relax-low.new.self.dist c.relax-low.new.self.via c.relax-low.ensures.0 c.nearest-next.result (rw c.relax-low.ensures.2 at c.nearest-next.ensures)))

pub enter-reach-requires : goal.enter-reach-requires
enter-reach-requires c =
    let at = c.loop-h in
    enters c.requires.0 at.invariant.1 at.h at.invariant.0 (omega (arith, c.loop-h-test.true)) c.row-line.result.now c.row-line.ensures.0

pub nearest-next-requires-in-loop-h : goal.nearest-next-requires-in-loop-h
nearest-next-requires-in-loop-h c =
    let r = c.requires.0 in
    let at = c.loop-h in
    let e = c.enter-reach in
    let low = seek-lowest r at.invariant.1 at.h at.invariant.0 (omega (arith, c.loop-h-test.true)) c.row-line.result.now c.row-line.ensures.0 e.new.self.dist e.new.self.via e.new.self.left e.result.u e.result.low e.ensures in
    (r.table.max_items, low.0, low.1)

pub at-h-requires-in-loop-h : goal.at-h-requires-in-loop-h
at-h-requires-in-loop-h c =
    let r = c.requires.0 in
    let at = c.loop-h in
    let e = c.enter-reach in
    let s = seek-next r at.invariant.1 at.h at.invariant.0 (omega (arith, c.loop-h-test.true)) c.row-line.result.now c.row-line.ensures.0 e.new.self.dist e.new.self.via e.new.self.left e.result.u e.result.low e.ensures
    c.smaller-nearer.result c.if_same-last.result c.nearest-next-in-loop-h.result c.smaller-nearer.ensures (same_or _ _ _ _ _ c.if_same-last.ensures) c.nearest-next-in-loop-h.ensures in
    omega (arith, next_small r s, r.table.max_items)

pub loop-h-smaller : goal.loop-h-smaller
loop-h-smaller c =
    let at = c.loop-h in
    let e = c.enter-reach in
    seek-fewer c.requires.0 at.invariant.1 at.h at.invariant.0 (omega (arith, c.loop-h-test.true)) c.row-line.result.now c.row-line.ensures.0 e.new.self.dist e.new.self.via e.new.self.left e.result.u e.result.low e.ensures

pub loop-h-preserved : goal.loop-h-preserved
loop-h-preserved c =
    let at = c.loop-h in
    let e = c.enter-reach in (
      c.at-h-in-loop-h.ensures,
      seek-next c.requires.0 at.invariant.1 at.h at.invariant.0 (omega (arith, c.loop-h-test.true)) c.row-line.result.now c.row-line.ensures.0 e.new.self.dist e.new.self.via e.new.self.left e.result.u e.result.low e.ensures
          c.smaller-nearer.result c.if_same-last.result c.nearest-next-in-loop-h.result c.smaller-nearer.ensures (same_or _ _ _ _ _ c.if_same-last.ensures) c.nearest-next-in-loop-h.ensures,
    )

pub returns : goal.returns
returns c =
    let a = c.args in
    let at = c.loop-h in
    (sym (option-amount a.outcome.now.own at.next) ∙ sym at.invariant.0 ∙ c.loop-h-test.false, at.invariant.1)
