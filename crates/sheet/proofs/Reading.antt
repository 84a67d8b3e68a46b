-- What reading a bid sheet gives, and the sheet taken back out of it. Assumes nothing.
use Prim.Native.Nat.{ℕ, zero, suc, ◌+◌, ◌*◌, ◌≤◌}
use mathlib.Core.Path.{◌≡◌, refl, sym, ap, ap₂, ◌∙◌, subst}
use mathlib.Core.Bool.{false}
use mathlib.Core.List.{List, [], ◌++◌}
use native.Mathlib.Omega.{arith}
use lib.Dec.{ltb}
use lib.ListN.{length, take, drop, replicate}
use borrow.Author.Tests.{le-ltb}
use Rattle.sets.specs.Lists.{places}
use Rattle.sets.proofs.Lists.{take_places}
use Rattle.sets.proofs.Filling.{front-places}
use Rattle.rule.specs.Refusal.{first}
use Rattle.rule.proofs.Refusal.{passed}
use Rattle.lines.specs.Lines.{sealed_length}
use Rattle.bids.specs.Lent.{sheet_of}
use Rattle.bids.specs.Refusal.{sealed_refusal}
use Rattle.sheet.specs.BidSheet.{BidSheet}
use Rattle.sheet.specs.Close.{items_of, bidders_of, bid_sheet_of, unreadable, sheet_refusal}
use Rattle.sheet.specs.Contents.{bid_sheet_refusal, contents, contents_of}
use Rattle.sheet.specs.Accepted.{sheet_in}
use Rattle.sheet.specs.declared.Contents.{Contents}
use Rattle.sheet.proofs.Rows.{few}
use Rattle.sheet.proofs.Order.{goes-on, none-given, same_rest}
use Rattle.sheet.proofs.Called.{amounts-alone}
use Rattle.sheet.proofs.Longer.{most-items, most-bidders}
use Rattle.sheet.proofs.Readable.{readable}

-- ---- how reading ends

-- what stands beside a number
abbrev pub zeros : ℕ → Contents
zeros why = record { refusal = why; items = 0; bidders = 0; start = replicate 32 0; bids = replicate 2048 0 }

zeros-are : (why : ℕ) (s : BidSheet) → (why ≡ 0 → ⊥) → zeros why ≡ contents why s
unfolding contents
zeros-are zero s ne = absurd (ne refl)
zeros-are (suc why) s ne = refl

pub by-zeros : (number why : ℕ) (s : BidSheet) (r : Contents) → r ≡ zeros why → (why ≡ 0 → ⊥) → number ≡ why → r ≡ contents number s
by-zeros number why s r e ne f = e ∙ zeros-are why s ne ∙ ap (λ (k : ℕ). contents k s) (sym f)

-- without one, as the code has it: the starting prices and the bids each before zeros
pub by_lines : (m n : ℕ) (start bids : List ℕ) → m ≤ 32 → n * m ≤ 2048 → length start ≡ m → length bids ≡ n * m
    → record { refusal = 0; items = m; bidders = n; start = start ++ drop m (replicate 32 0); bids = bids ++ drop (n * m) (replicate 2048 0) }
    ≡ contents 0 (record { items = m; bidders = n; start = start; bids = bids })
unfolding contents
by_lines m n start bids lm ln ls lb =
    ap₂ (λ (xs ys : List ℕ). record { refusal = 0; items = m; bidders = n; start = xs; bids = ys })
    (front-places 32 m start lm ls) (front-places 2048 (n * m) bids ln lb)

-- ---- the sheet taken back out

number_is : (why : ℕ) (s : BidSheet) → (contents why s).refusal ≡ why
unfolding contents
number_is zero s = refl
number_is (suc why) s = refl

-- the parts of a sheet that was read: the counts within their limits; a starting price for each item, at the front of its 32 places; a bid of each bidder for
-- each item, at the front of its 2,048; and they are what the bytes say
pub record Parts (bytes : List ℕ) (r : Contents) : Type 0 where
  pub items : r.items ≤ 32
  pub bidders : r.bidders ≤ 64
  pub size : r.bidders * r.items ≤ 2048
  pub starts : length (take r.items r.start) ≡ r.items
  pub rows : length (take (r.bidders * r.items) r.bids) ≡ r.bidders * r.items
  pub back : record { items = r.items; bidders = r.bidders; start = take r.items r.start; bids = take (r.bidders * r.items) r.bids }
      ≡ bid_sheet_of bytes

module _ (bytes : List ℕ) (z : first (unreadable bytes []) ≡ 0) where
  abbrev s : BidSheet
  s = bid_sheet_of bytes

  has_parts : Parts bytes (contents 0 s)
  unfolding contents
  has_parts =
      let w = readable bytes z in
      let m : s.items ≤ 32 = most-items s.items w.items in
      let n : s.bidders ≤ 64 = most-bidders s.bidders w.bidders in
      let all : s.bidders * s.items ≤ 2048 = few s.bidders s.items n m in
      let start : take s.items (places 32 s.start) ≡ s.start =
      ap (λ (k : ℕ). take k (places 32 s.start)) (sym w.written.starts) ∙ take_places 32 s.start (omega (arith, w.written.starts)) in
      let bids : take (s.bidders * s.items) (places 2048 s.bids) ≡ s.bids =
      ap (λ (k : ℕ). take k (places 2048 s.bids)) (sym w.written.rows) ∙ take_places 2048 s.bids (omega (arith, w.written.rows)) in
      record {
        items = m;
        bidders = n;
        size = all;
        starts = ap length start ∙ w.written.starts;
        rows = ap length bids ∙ w.written.rows;
        back = ap₂ (λ (xs ys : List ℕ). record { items = s.items; bidders = s.bidders; start = xs; bids = ys }) start bids;
      }

-- ---- what was read, whatever its amounts are

module _ (bytes : List ℕ) (r : Contents) (z : first (unreadable bytes []) ≡ 0) (e : r ≡ contents 0 (bid_sheet_of bytes)) where
  pub parts : Parts bytes r
  parts = subst (λ (x : Contents). Parts bytes x) (sym e) (has_parts bytes z)

  -- the amounts decide
  pub by-amounts : sealed_refusal r.items r.bidders (take r.items r.start) (take (r.bidders * r.items) r.bids) ≡ bid_sheet_refusal bytes
  unfolding bid_sheet_refusal
  by-amounts =
      let w = readable bytes z in
      let s : BidSheet = bid_sheet_of bytes in
      ap (λ (x : BidSheet). sealed_refusal x.items x.bidders x.start x.bids) parts.back
      ∙ amounts-alone s.items s.bidders s.start s.bids w.items w.bidders w.written.starts w.written.rows
      ∙ sym (goes-on bytes _ z)

-- ---- what a bid sheet says

-- in order: its parts, which the sealed auction does not turn down, and which are the sheet that the bytes say
pub record InOrder (bytes : List ℕ) (r : Contents) : Type 0 where
  pub parts : Parts bytes r
  pub accepted : sealed_refusal r.items r.bidders (take r.items r.start) (take (r.bidders * r.items) r.bids) ≡ 0
  pub sheet : sheet_of r.items r.bidders (take r.items r.start) (take (r.bidders * r.items) r.bids) ≡ sheet_in bytes

module _ (bytes : List ℕ) (r : Contents) (e : r ≡ contents_of bytes) where
  pub contents-number : r.refusal ≡ bid_sheet_refusal bytes
  unfolding contents_of
  contents-number = ap (λ (x : Contents). x.refusal) e ∙ number_is (bid_sheet_refusal bytes) (bid_sheet_of bytes)

  pub in_order : r.refusal ≡ 0 → InOrder bytes r
  unfolding contents_of bid_sheet_refusal sheet_in
  in_order z =
      let f : bid_sheet_refusal bytes ≡ 0 = sym contents-number ∙ z in
      let g : first (unreadable bytes []) ≡ 0 = (none-given bytes _ f).0 in
      let h : r ≡ contents 0 (bid_sheet_of bytes) = e ∙ ap (λ (k : ℕ). contents k (bid_sheet_of bytes)) f in
      let p : Parts bytes r = parts bytes r g h in
      record {
        parts = p;
        accepted = by-amounts bytes r g h ∙ f;
        sheet = ap (λ (x : BidSheet). sheet_of x.items x.bidders x.start x.bids) p.back;
      }

-- ---- the number is that of closing with room for every closing sheet

fits : (m n room : ℕ) → m ≤ 32 → n ≤ 64 → 528 ≤ room → ltb room (sealed_length m n) ≡ false
unfolding sealed_length
fits m n room h l k = le-ltb room (16 + 4 * m + 6 * n) (omega arith)

pub same_number : (bytes : List ℕ) (room : ℕ) → 528 ≤ room → bid_sheet_refusal bytes ≡ sheet_refusal bytes room
unfolding bid_sheet_refusal sheet_refusal
same_number bytes room large =
    same_rest bytes _ _ (λ z.
    let w = readable bytes z in
    let m : items_of bytes ≤ 32 = omega (arith, w.many-items, most-items (bid_sheet_of bytes).items w.items) in
    let n : bidders_of bytes ≤ 64 = omega (arith, w.many-bidders, most-bidders (bid_sheet_of bytes).bidders w.bidders) in
    sym (passed 3 _ _ (fits (items_of bytes) (bidders_of bytes) room m n large)))
