-- `least::Paths::nearest` meets its contract. Assumes nothing.
use Prim.Native.Nat.{◌-◌}
use mathlib.Core.Path.{refl}
use native.Mathlib.Omega.{arith}
use Rattle.least.proofs.Distances.{nearest-null, nearest-item}
use Rattle.least.proofs.Paths.nearest.Goals as goal

pub returns-then-null-low : goal.returns-then-null-low
returns-then-null-low c = nearest-null c.args.items c.args.null c.args.self.now.dist c.args.self.now.left c.args.low c.requires.2 c.if-null-low.true

pub returns-then-item-le64 : goal.returns-then-item-le64
returns-then-item-le64 c =
    let a = c.args in
    nearest-item a.items a.null a.self.now.dist a.self.now.left a.low c.item_with-item.result c.item_with-item.result c.requires.0 (omega arith) c.requires.1 c.requires.2 (λ h. omega (arith, h, c.if-null-low.false)) c.item_with-item.ensures
    ((λ l. refl), λ l. absurd (omega (arith, l, c.if-item-le64.true)))

pub returns : goal.returns
returns c =
    let a = c.args in
    nearest-item a.items a.null a.self.now.dist a.self.now.left a.low c.item_with-item.result (c.item_with-item.result - 64) c.requires.0 (omega arith) c.requires.1 c.requires.2 (λ h. omega (arith, h, c.if-null-low.false)) c.item_with-item.ensures
    ((λ l. absurd (omega (arith, l, c.if-item-le64.false))), λ l. refl)
