-- The reader is the inverse of the written format: a sheet that is written is read back, and bytes that are read are those of the sheet that was read. Assumes
-- nothing.
use Prim.Native.Nat.{ℕ, ◌+◌, ◌*◌, ◌≤◌}
use mathlib.Core.Path.{◌≡◌, sym, ap, ◌∙◌, subst}
use mathlib.Core.List.{List, ◌++◌, append_assoc}
use Rattle.std.specs.Prelude.{Option, Some}
use native.Mathlib.Omega.{arith}
use native.Mathlib.Nat.{zero-add}
use lib.ListN.{length, get_or, length-append}
use Rattle.sets.proofs.Lists.{is-tabulate}
use Rattle.digits.specs.Digits.{hex}
use Rattle.lines.specs.Lines.{newline, joined}
use Rattle.lines.specs.Reading.{line_at}
use Rattle.digits.proofs.Digits.{hex-length}
use Rattle.lines.proofs.Lengths.{line-length}
use Rattle.digits.proofs.Stands.{Stands, itself, front, back, both, whole}
use Rattle.digits.proofs.Gives.{gives, gave}
use Rattle.digits.proofs.Numbers.{number-at, number_read}
use Rattle.lines.proofs.Line.{line-at, line_read}
use Rattle.sheet.specs.BidSheet.{BidSheet, items_in, bidders_in, bids_at, read_sheet}
use Rattle.sheet.specs.Writing.{bid_line, bid_sheet, Writable}
use Rattle.sheet.proofs.Walking.{two-bytes, four_bytes}
use Rattle.sheet.proofs.BidLines.{bid-lines-length, Bids, bids-read, bids-at}

-- ---- the parts of a sheet

-- the first four bytes, the rest of the first line, the bidders' lines
counts : BidSheet → List ℕ
counts s = hex 2 s.items ++ hex 2 s.bidders

prices : BidSheet → List ℕ
prices s = joined s.items (λ k. hex 4 (get_or s.start k 0)) ++ newline

rows : BidSheet → List ℕ
rows s = joined s.bidders (bid_line s.items s.bids)

by_parts : (s : BidSheet) → bid_sheet s ≡ counts s ++ prices s ++ rows s
unfolding bid_sheet counts prices rows
by_parts s =
    ap (λ (r : List ℕ). r ++ joined s.bidders (bid_line s.items s.bids))
    (append_assoc (hex 2 s.items ++ hex 2 s.bidders) (joined s.items (λ k. hex 4 (get_or s.start k 0))) newline)

counts-length : (s : BidSheet) → length (counts s) ≡ 4
unfolding counts
counts-length s = omega (arith, length-append (hex 2 s.items) (hex 2 s.bidders), hex-length 2 s.items, hex-length 2 s.bidders)

prices-length : (s : BidSheet) → length (prices s) ≡ 4 * s.items + 1
unfolding prices
prices-length s = line-length s.items 4 s.start

rows-length : (s : BidSheet) → length (rows s) ≡ (4 * s.items + 1) * s.bidders
unfolding rows
rows-length s = bid-lines-length s.items s.bidders s.bids

-- how long a bid sheet is
pub sheet-length : (s : BidSheet) → length (bid_sheet s) ≡ 5 + 4 * s.items + (4 * s.items + 1) * s.bidders
sheet-length s =
    omega (
      arith,
      ap length (by_parts s),
      length-append (counts s ++ prices s) (rows s),
      length-append (counts s) (prices s),
      counts-length s,
      prices-length s,
      rows-length s,
    )

-- ---- written, and read

pub read_written : (s : BidSheet) → Writable s → read_sheet (bid_sheet s) ≡ Some s
unfolding read_sheet items_in bidders_in counts prices rows
read_written s w =
    let bytes : List ℕ = bid_sheet s in
    let m : ℕ = s.items in
    let n : ℕ = s.bidders in
    let all : Stands bytes 0 (counts s ++ prices s ++ rows s) = subst (λ (vs : List ℕ). Stands bytes 0 vs) (by_parts s) (itself bytes) in
    let first : Stands bytes 0 (counts s ++ prices s) = front bytes 0 (counts s ++ prices s) (rows s) all in
    let four : Stands bytes 0 (hex 2 m ++ hex 2 n) = front bytes 0 (counts s) (prices s) first in
    let at-two : 0 + length (hex 2 m) ≡ 2 = omega (arith, hex-length 2 m) in
    let at-four : 0 + length (counts s) ≡ 4 = omega (arith, counts-length s) in
    let at_rows : 0 + length (counts s ++ prices s) ≡ 5 + 4 * m =
    omega (arith, length-append (counts s) (prices s), counts-length s, prices-length s) in
    let ends : 5 + 4 * m + (4 * m + 1) * n ≡ length bytes = sym (sheet-length s) in
    let is_m : items_in bytes ≡ Some m = number-at bytes 2 0 m w.items (front bytes 0 (hex 2 m) (hex 2 n) four) in
    let is-n : bidders_in bytes ≡ Some n =
    number-at bytes 2 2 n w.bidders (subst (λ (j : ℕ). Stands bytes j (hex 2 n)) at-two (back bytes 0 (hex 2 m) (hex 2 n) four)) in
    let is-start : line_at m 4 bytes 4 ≡ Some s.start =
    line-at bytes m 4 4 (λ k. get_or s.start k 0) w.start
    (subst (λ (j : ℕ). Stands bytes j (prices s)) at-four (back bytes 0 (counts s) (prices s) first))
    ∙ ap {B = Option (List ℕ)} Some
    (sym (is-tabulate m s.start (λ k. get_or s.start k 0) 0 w.starts (λ k q. ap (λ (j : ℕ). get_or s.start j 0) (sym (zero-add k))))) in
    let is-bids : bids_at n m bytes (5 + 4 * m) ≡ Some s.bids =
    bids-at bytes m n (5 + 4 * m) s.bids w.rows w.bids
    (subst (λ (j : ℕ). Stands bytes j (rows s)) at_rows (back bytes 0 (counts s ++ prices s) (rows s) all)) ends in
    gives (items_in bytes) _ m is_m
    ∙ gives (bidders_in bytes) _ n is-n
    ∙ gives (line_at m 4 bytes 4) _ s.start is-start
    ∙ gives (bids_at n m bytes (5 + 4 * m)) (λ bids. Some (record { items = m; bidders = n; start = s.start; bids = bids })) s.bids is-bids

-- ---- read, and written

module _ (bytes : List ℕ) (m n : ℕ) (start bids : List ℕ) where
  sheet : BidSheet
  sheet = record { items = m; bidders = n; start = start; bids = bids }

  parts-read : items_in bytes ≡ Some m → bidders_in bytes ≡ Some n → line_at m 4 bytes 4 ≡ Some start → bids_at n m bytes (5 + 4 * m) ≡ Some bids
      → Writable sheet × (bytes ≡ bid_sheet sheet)
  unfolding sheet items_in bidders_in counts prices rows
  parts-read is_m is-n is-start is-bids =
      let two : 2 ≤ length bytes = two-bytes bytes m is_m in
      let four : 4 ≤ length bytes = four_bytes bytes m is_m n is-n in
      let a = number_read bytes 2 0 m (omega arith) is_m in
      let b = number_read bytes 2 2 n two is-n in
      let c = line_read bytes m 4 4 start four is-start in
      let d : Bids bytes (5 + 4 * m) n m bids = bids-read bytes m n (5 + 4 * m) bids (omega (arith, c.1.fits, line-length m 4 start)) is-bids in
      let at-two : 2 ≡ 0 + length (hex 2 m) = omega (arith, hex-length 2 m) in
      let at-four : 4 ≡ 0 + length (counts sheet) = omega (arith, counts-length sheet) in
      let at_rows : 5 + 4 * m ≡ 0 + length (counts sheet ++ prices sheet) =
      omega (arith, length-append (counts sheet) (prices sheet), counts-length sheet, prices-length sheet) in
      let first : Stands bytes 0 (counts sheet) =
      both bytes 0 (hex 2 m) (hex 2 n) a.1 (subst (λ (j : ℕ). Stands bytes j (hex 2 n)) at-two b.1) in
      let line : Stands bytes 0 (counts sheet ++ prices sheet) =
      both bytes 0 (counts sheet) (prices sheet) first (subst (λ (j : ℕ). Stands bytes j (prices sheet)) at-four c.1) in
      let all : Stands bytes 0 (counts sheet ++ prices sheet ++ rows sheet) =
      both bytes 0 (counts sheet ++ prices sheet) (rows sheet) line (subst (λ (j : ℕ). Stands bytes j (rows sheet)) at_rows d.stands) in
      let long : length bytes ≡ length (bid_sheet sheet) = omega (arith, d.ends, sheet-length sheet) in (
        record {
          items = a.0;
          bidders = b.0;
          starts = c.0.many;
          start = c.0.small;
          rows = d.many;
          bids = d.small;
        },
        whole bytes (bid_sheet sheet) (subst (λ (vs : List ℕ). Stands bytes 0 vs) (sym (by_parts sheet)) all) long,
      )

-- what was read is what stands where it is read
pub parts_are : (bytes : List ℕ) (s : BidSheet) → read_sheet bytes ≡ Some s
    → (items_in bytes ≡ Some s.items) × (bidders_in bytes ≡ Some s.bidders) × (line_at s.items 4 bytes 4 ≡ Some s.start)
    × (bids_at s.bidders s.items bytes (5 + 4 * s.items) ≡ Some s.bids)
unfolding read_sheet
parts_are bytes s e =
    let f = gave (items_in bytes) _ s e in
    let g = gave (bidders_in bytes) _ s f.2 in
    let h = gave (line_at f.0 4 bytes 4) _ s g.2 in
    let k = gave (bids_at g.0 f.0 bytes (5 + 4 * f.0)) _ s h.2 in
    subst
    (λ (x : BidSheet).
    (items_in bytes ≡ Some x.items) × (bidders_in bytes ≡ Some x.bidders) × (line_at x.items 4 bytes 4 ≡ Some x.start)
    × (bids_at x.bidders x.items bytes (5 + 4 * x.items) ≡ Some x.bids))
    (let same : record { items = f.0; bidders = g.0; start = h.0; bids = k.0 } ≡ s = cc (k.2) in same)
    (f.1, g.1, h.1, k.1)

pub written_read : (bytes : List ℕ) (s : BidSheet) → read_sheet bytes ≡ Some s → Writable s × (bytes ≡ bid_sheet s)
unfolding sheet
written_read bytes s e =
    let p = parts_are bytes s e in
    parts-read bytes s.items s.bidders s.start s.bids p.0 p.1 p.2 p.3
