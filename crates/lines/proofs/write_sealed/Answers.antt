-- `lines::write_sealed` meets its contract. Assumes nothing.
use Prim.Native.Nat.{ℕ}
use mathlib.Core.Path.{◌≡◌, sym}
use mathlib.Core.Bool.{Bool, true, false}
use lib.ListN.{length}
use Rattle.lines.specs.Lines.{sealed_sheet, sealed_length, bytes_of, writes}
use Rattle.lines.proofs.Lengths.{sealed-length}
use Rattle.lines.proofs.Written.{asked, afterwards, four-lines}
use Rattle.lines.proofs.write_sealed.Goals as goal

pub returns-then-not-writes : goal.returns-then-not-writes
returns-then-not-writes c =
    let a = c.args in
    let no : writes a.items a.bidders (sealed_length a.items a.bidders) (length a.out.now) ≡ false =
    asked a.items a.bidders (sealed_length a.items a.bidders) (length a.out.now) c.sealed_length.result c.writes.result false c.sealed_length.ensures c.writes.ensures c.if-not-writes.true in (
      sym no,
      afterwards a.items a.bidders (sealed_sheet a.items a.bidders a.raised a.lowered a.prices.now a.options.now a.gains.now) (sealed_length a.items a.bidders)
          (sealed-length a.items a.bidders a.raised a.lowered a.prices.now a.options.now a.gains.now) a.out.now false no,
    )

-- it is written
module _ (m n space given : ℕ) (t : Bool) (e : given ≡ bytes_of m n (sealed_length m n)) (w : t ≡ writes m n given space) (is : t ≡ true) where
  yes : writes m n (sealed_length m n) space ≡ true
  yes = asked m n (sealed_length m n) space given t true e w is

pub returns : goal.returns
returns c =
    let a = c.args in
    let lines = c.write_closing in
    let last = c.put_amounts in (
      sym (yes _ _ _ _ _ c.sealed_length.ensures c.writes.ensures c.if-not-writes.false),
      four-lines a.items a.bidders a.raised a.lowered a.prices.now a.options.now a.out.now a.gains.now lines.new.out last.new.out
          (yes _ _ _ _ _ c.sealed_length.ensures c.writes.ensures c.if-not-writes.false) lines.ensures.1 last.ensures,
    )
