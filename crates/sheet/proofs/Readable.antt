-- What is known of a bid sheet that no number turns down before its amounts are looked at. Assumes nothing.
use Prim.Native.Nat.{ℕ}
use mathlib.Core.Path.{◌≡◌, refl, sym, ap, ap₂, ◌∙◌}
use mathlib.Core.Bool.{false}
use mathlib.Core.List.{List, [], ◌∷◌}
use Rattle.std.specs.Prelude.{Option, None, Some, unwrap_or}
use native.Mathlib.Omega.{arith}
use lib.Dec.{ltb}
use Rattle.rule.specs.Refusal.{on, first, bad_items, bad_bidders, any_over}
use Rattle.rule.proofs.Refusal.{none as not-given}
use Rattle.lines.specs.Lines.{sealed_length}
use Rattle.sheet.specs.BidSheet.{BidSheet, read_sheet}
use Rattle.sheet.specs.Writing.{Writable}
use Rattle.sheet.specs.Close.{is_none, items_of, bidders_of, bid_sheet_of, unreadable, sheet_refusal}
use Rattle.sheet.specs.Steps.{read_refusal}
use Rattle.sheet.proofs.Order.{goes-on, items_are, bidders_are}
use Rattle.sheet.proofs.ReadWritten.{parts_are, written_read}

-- it was read, its counts are in order, and it has a starting price for each item and a bid of each bidder for each
pub record Readable (bytes : List ℕ) : Type 0 where
  pub read : read_sheet bytes ≡ Some (bid_sheet_of bytes)
  pub written : Writable (bid_sheet_of bytes)
  pub many-items : items_of bytes ≡ (bid_sheet_of bytes).items
  pub many-bidders : bidders_of bytes ≡ (bid_sheet_of bytes).bidders
  pub items : bad_items (bid_sheet_of bytes).items ≡ false
  pub bidders : bad_bidders (bid_sheet_of bytes).bidders ≡ false

is-there : (bytes : List ℕ) (o : Option BidSheet) → read_sheet bytes ≡ o → is_none o ≡ false → read_sheet bytes ≡ Some (bid_sheet_of bytes)
unfolding bid_sheet_of
is-there bytes None e f = absurd (let z : ◌≡◌ {A = ℕ} 0 1 = cc in let n : ⊥ = omega arith in n)
is-there bytes (Some s) e f =
    let same : bid_sheet_of bytes ≡ s = ap (λ (o : Option BidSheet). unwrap_or o (record { items = 0; bidders = 0; start = []; bids = [] })) e in
    e ∙ ap {B = Option BidSheet} Some (sym same)

module _ (bytes : List ℕ) (z : first (unreadable bytes []) ≡ 0) where
  pub readable : Readable bytes
  readable =
      let a = not-given 5 _ _ z in
      let b = not-given 0 (bad_items (items_of bytes)) _ a.1 in
      let c = not-given 1 (bad_bidders (bidders_of bytes)) _ b.1 in
      let d = not-given 5 (is_none (read_sheet bytes)) [] c.1 in
      let r = is-there bytes (read_sheet bytes) refl d.0 in
      let p = parts_are bytes (bid_sheet_of bytes) r in
      let m = items_are bytes (bid_sheet_of bytes).items p.0 in
      let n = bidders_are bytes (bid_sheet_of bytes).items p.0 (bid_sheet_of bytes).bidders p.1 in
      record {
        read = r;
        written = (written_read bytes (bid_sheet_of bytes) r).0;
        many-items = m;
        many-bidders = n;
        items = ap bad_items (sym m) ∙ b.0;
        bidders = ap bad_bidders (sym n) ∙ c.0;
      }

  -- its number is that of a sheet that was read
  pub to_read : (room : ℕ) → sheet_refusal bytes room ≡ read_refusal (bid_sheet_of bytes) room
  unfolding sheet_refusal read_refusal
  to_read room =
      goes-on bytes _ z
      ∙ ap₂ (λ (m n : ℕ). first (on 3 (ltb room (sealed_length m n)) ∷ on 4 (any_over (bid_sheet_of bytes).start) ∷ on 5 (any_over (bid_sheet_of bytes).bids) ∷ []))
      readable.many-items readable.many-bidders
