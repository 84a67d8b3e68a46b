-- `lines::write_closing` meets its contract. Assumes nothing.
use Prim.Native.Nat.{ℕ}
use mathlib.Core.Path.{◌≡◌, sym}
use mathlib.Core.Bool.{Bool, true, false}
use lib.ListN.{length}
use Rattle.lines.specs.Lines.{closing_sheet, closing_length, bytes_of, writes}
use Rattle.lines.proofs.Lengths.{closing-length}
use Rattle.lines.proofs.Written.{asked, afterwards, three-lines}
use Rattle.lines.proofs.write_closing.Goals as goal

pub returns-then-not-writes : goal.returns-then-not-writes
returns-then-not-writes c =
    let a = c.args in
    let no : writes a.items a.bidders (closing_length a.items a.bidders) (length a.out.now) ≡ false =
    asked a.items a.bidders (closing_length a.items a.bidders) (length a.out.now) c.closing_length.result c.writes.result false c.closing_length.ensures c.writes.ensures c.if-not-writes.true in (
      sym no,
      afterwards a.items a.bidders (closing_sheet a.items a.bidders a.raised a.lowered a.prices.now a.options.now) (closing_length a.items a.bidders)
          (closing-length a.items a.bidders a.raised a.lowered a.prices.now a.options.now) a.out.now false no,
    )

-- it is written
module _ (m n space given : ℕ) (t : Bool) (e : given ≡ bytes_of m n (closing_length m n)) (w : t ≡ writes m n given space) (is : t ≡ true) where
  yes : writes m n (closing_length m n) space ≡ true
  yes = asked m n (closing_length m n) space given t true e w is

pub returns : goal.returns
returns c =
    let a = c.args in
    let first = c.put_rounds in
    let second = c.put_amounts in
    let third = c.put_options in (
      sym (yes _ _ _ _ _ c.closing_length.ensures c.writes.ensures c.if-not-writes.false),
      three-lines a.items a.bidders a.raised a.lowered a.prices.now a.options.now a.out.now first.new.out second.new.out third.new.out
          (yes _ _ _ _ _ c.closing_length.ensures c.writes.ensures c.if-not-writes.false) first.ensures second.ensures third.ensures,
    )
