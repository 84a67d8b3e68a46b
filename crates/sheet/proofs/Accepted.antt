-- An accepted bid sheet is an accepted sealed auction: bytes that no number turns down say a sheet that no number turns down, so that what is written is the
-- closing sheet of its closing, and all that is promised of a closing holds of it. Assumes nothing.
use Prim.Native.Nat.{ℕ, ◌≤◌}
use mathlib.Core.Path.{◌≡◌, refl, sym, ap, ap₂, ◌∙◌}
use mathlib.Core.Bool.{Bool, true, false, cond}
use mathlib.Core.List.{List, [], ◌∷◌, ◌++◌}
use native.Mathlib.Omega.{arith}
use lib.Dec.{ltb}
use lib.ListN.{length}
use borrow.Author.Tests.{ltb-false, le-ltb}
use Rattle.sets.specs.Lists.{places}
use Rattle.sets.proofs.Lists.{places-at}
use Rattle.rule.specs.Closing.{assignment_at}
use Rattle.rule.specs.Gains.{gains_at}
use Rattle.rule.specs.Refusal.{on, first, any_over}
use Rattle.rule.proofs.Limits.{limits}
use Rattle.rule.proofs.Refusal.{passed, given, first-nil, none}
use Rattle.lines.specs.Lines.{number_line, amounts_line, closing_sheet, sealed_sheet, sealed_length, written_to}
use Rattle.lines.proofs.Same.{sheet-same, amounts-same}
use Rattle.bids.specs.Lent.{sheet_above, sheet_of}
use Rattle.bids.specs.Refusal.{sealed_refusal}
use Rattle.bids.proofs.Lent.{rows-length}
use Rattle.auction.specs.Sealed.{Promised}
use Rattle.auction.proofs.Sealing.{accepted-promised}
use Rattle.sheet.specs.BidSheet.{BidSheet}
use Rattle.sheet.specs.Close.{items_of, bidders_of, bid_sheet_of, unreadable, sheet_refusal, closing_of, by_number, closed_to, answer_of}
use Rattle.sheet.specs.Steps.{read_refusal}
use Rattle.sheet.specs.Accepted.{sheet_in, sealed_in, sheet_of_closing, Accepted}
use Rattle.sheet.proofs.Order.{none-given}
use Rattle.sheet.proofs.Called.{amounts-alone}
use Rattle.sheet.proofs.Readable.{Readable, readable, to_read}

module _ (bytes : List ℕ) (room : ℕ) (e : sheet_refusal bytes room ≡ 0) where
  abbrev s : BidSheet
  s = bid_sheet_of bytes

  -- the sheet was read and its counts are in order, and no later condition holds either
  passes : (first (unreadable bytes []) ≡ 0)
      × (first (on 3 (ltb room (sealed_length (items_of bytes) (bidders_of bytes))) ∷ on 4 (any_over s.start) ∷ on 5 (any_over s.bids) ∷ []) ≡ 0)
  unfolding sheet_refusal
  passes = none-given bytes _ e

  was : Readable bytes
  was = readable bytes passes.0

  -- no amount is too high
  small : first (on 4 (any_over s.start) ∷ on 5 (any_over s.bids) ∷ []) ≡ 0
  small = (none 2 (ltb room (sealed_length (items_of bytes) (bidders_of bytes))) _ passes.1).1

  -- the sealed auction does not turn it down
  pub accepted : sealed_refusal s.items s.bidders s.start s.bids ≡ 0
  accepted = amounts-alone s.items s.bidders s.start s.bids was.items was.bidders was.written.starts was.written.rows ∙ small

  -- so all that is promised of a close holds of the sheet read and of the outcome that is written down
  pub promised : Promised (sheet_in bytes) (sealed_in bytes)
  unfolding sheet_in sealed_in
  promised = accepted-promised s.items s.bidders s.start s.bids accepted

  pub as_many : length (sheet_in bytes).bids ≡ s.bidders
  unfolding sheet_in sheet_of sheet_above
  as_many = rows-length s.items s.bidders s.bids

  -- and what is written down is the closing sheet of that close, line by line
  abbrev names : List ℕ
  names = assignment_at (sheet_in bytes) promised.closing.prices

  abbrev gained : List ℕ
  gained = gains_at (sheet_in bytes) promised.closing.prices

  three-are : closing_sheet s.items s.bidders (sealed_in bytes).raised (sealed_in bytes).lowered (sealed_in bytes).prices (sealed_in bytes).assignment
      ≡ closing_sheet s.items s.bidders promised.closing.ups promised.closing.downs promised.closing.prices (assignment_at (sheet_in bytes) promised.closing.prices)
  unfolding sheet_in sheet_of sheet_above
  three-are =
      let c = promised.closing in
      let lim = limits (sheet_in bytes) promised.within in
      ap (λ (u : ℕ). closing_sheet s.items s.bidders u (sealed_in bytes).lowered (sealed_in bytes).prices (sealed_in bytes).assignment) promised.raised
      ∙ ap (λ (d : ℕ). closing_sheet s.items s.bidders c.ups d (sealed_in bytes).prices (sealed_in bytes).assignment) promised.lowered
      ∙ ap₂ (closing_sheet s.items s.bidders c.ups c.downs) promised.prices promised.names
      ∙ sheet-same s.items s.bidders c.ups c.downs (places 32 c.prices) c.prices (places 64 names) names
      (λ k l. places-at 32 c.prices k (omega (arith, l, lim.max_items)))
      (λ b l. places-at 64 names b (omega (arith, l, lim.max_bidders, as_many)))

  gains_are : amounts_line s.bidders (sealed_in bytes).gains ≡ amounts_line s.bidders (gains_at (sheet_in bytes) promised.closing.prices)
  gains_are =
      ap (amounts_line s.bidders) promised.gains
      ∙ amounts-same s.bidders (places 64 gained) gained
      (λ b l. places-at 64 gained b (omega (arith, l, (limits (sheet_in bytes) promised.within).max_bidders, as_many)))

  pub closing-is : closing_of s ≡ sheet_of_closing (sheet_in bytes) promised.closing
  unfolding closing_of sheet_of_closing sealed_sheet sealed_in sheet_in sheet_of sheet_above
  closing-is =
      let c = promised.closing in
      ap₂ ◌++◌ three-are gains_are ∙ ap (λ (n : ℕ). sealed_sheet s.items n c.ups c.downs c.prices names gained) (sym as_many)

  -- there is room for it
  pub room-enough : sealed_length s.items s.bidders ≤ room
  room-enough =
      ltb-false room (sealed_length s.items s.bidders)
      (ap₂ (λ (m n : ℕ). ltb room (sealed_length m n)) (sym was.many-items) (sym was.many-bidders) ∙ (none 2 _ _ passes.1).0)

  -- with room for fewer bytes, or for more, the bytes are turned down by 3 or not at all
  pub by-room : (other : ℕ) → sheet_refusal bytes other ≡ first (on 3 (ltb other (sealed_length s.items s.bidders)) ∷ [])
  unfolding read_refusal
  by-room other = to_read bytes passes.0 other ∙ last (ltb other (sealed_length s.items s.bidders))
    where
      last : (a : Bool) → first (on 3 a ∷ on 4 (any_over s.start) ∷ on 5 (any_over s.bids) ∷ []) ≡ first (on 3 a ∷ [])
      last true = given 3 true _ refl ∙ sym (given 3 true [] refl)
      last false = passed 3 false _ refl ∙ small ∙ sym (passed 3 false [] refl ∙ first-nil)

-- accepted bytes: the lent ones are left with the closing sheet, of the closing that is promised, at their front
pub accepted-sheet : (bytes out : List ℕ) → sheet_refusal bytes (length out) ≡ 0 → Accepted bytes out (closed_to bytes out)
unfolding closed_to
accepted-sheet bytes out e =
    record {
      promised = promised bytes (length out) e;
      written = ap (λ (why : ℕ). by_number why (written_to out (closing_of (bid_sheet_of bytes))) out) e ∙ ap (written_to out) (closing-is bytes (length out) e);
    }

-- and the answer is that closing sheet
pub accepted-answer : (bytes : List ℕ) (room : ℕ) (e : sheet_refusal bytes room ≡ 0) → answer_of bytes room ≡ sheet_of_closing (sheet_in bytes) (promised bytes room e).closing
unfolding answer_of sealed_length
accepted-answer bytes room e =
    ap (λ (few : Bool). cond few [] (by_number (sheet_refusal bytes room) (closing_of (bid_sheet_of bytes)) (number_line (sheet_refusal bytes room))))
    (le-ltb room 3 (omega (arith, room-enough bytes room e)))
    ∙ ap (λ (why : ℕ). by_number why (closing_of (bid_sheet_of bytes)) (number_line why)) e ∙ closing-is bytes room e
