-- The ways of a read: the names and the sheet of a record whose unused places and bits are zero, and the number. Assumes nothing.
use Prim.Native.Nat.{ℕ, zero, suc, ◌≤◌, ◌<◌}
use mathlib.Core.Path.{◌≡◌, refl, sym, ap, ◌∙◌}
use mathlib.Core.Bool.{Bool, true, false, not, cond}
use mathlib.Core.List.{List, [], ◌∷◌}
use mathlib.Core.Logic.{◌⊎◌, inl, inr}
use native.Mathlib.Omega.{arith}
use lib.Dec.{leb, ltb}
use lib.ListN.{length}
use borrow.Author.Tests.{le-leb, lt-leb, lt-ltb, le-ltb}
use Rattle.sets.specs.Lists.{places}
use Rattle.sets.proofs.Counting.{lt-or-le}
use Rattle.sets.proofs.Lists.{places-at}
use Rattle.rule.specs.Refusal.{on, first}
use Rattle.rule.proofs.Refusal.{passed, given}
use Rattle.assignment.specs.Assigned.{assigned}
use Rattle.assignment.proofs.Unfit.{assigned-is}
use Rattle.assignment.proofs.Narrowing.{assignment-narrow}
use Rattle.lines.specs.Lines.{closing_sheet, closing_length, written_to, writes, after_writing}
use Rattle.lines.proofs.Same.{sheet-same}
use Rattle.lines.proofs.Lengths.{closing-length}
use Rattle.lines.proofs.Written.{few-make, writes-by, afterwards}
use Rattle.live.specs.Auction.{items_above, reports_of, well_formed}
use Rattle.live.specs.Calls.{is_closed}
use Rattle.live.specs.Reading.{too_few, names_of, sheet_of, read_number, read_bytes}
use Rattle.live.specs.Tidy.{Tidy}
use Rattle.live.specs.declared.Auction.{Auction}
use Rattle.live.proofs.Formed.{items-range, bidders-placed}
use Rattle.live.proofs.Sets.{Sets, above-lt, reported}

module _ (r : Auction) (t : Tidy r) where
  -- ---- the names

  pub names-here : Sets r.sets → (above : ℕ) → above ≡ items_above r → assigned r.sets r.nulls above r.bidders ≡ places 64 (names_of r)
  unfolding names_of reports_of
  names-here s above q =
      ap (λ (x : ℕ). assigned r.sets r.nulls x r.bidders) q
      ∙ sym (assigned-is r.sets r.nulls (items_above r) r.bidders (bidders-placed r t.counts))
      ∙ ap (places 64) (assignment-narrow r.items r.bidders r.sets (reported r t s) r.nulls (items_above r) (above-lt r))

  -- ---- the sheet

  sheet-here : closing_sheet r.items r.bidders r.raised r.lowered r.prices (places 64 (names_of r)) ≡ sheet_of r
  unfolding sheet_of
  sheet-here =
      let most = bidders-placed r t.counts in
      sheet-same r.items r.bidders r.raised r.lowered r.prices r.prices (places 64 (names_of r)) (names_of r)
      (λ k l. refl) (λ b l. places-at 64 (names_of r) b (omega (arith, l, most)))

  abbrev long : ℕ
  long = closing_length r.items r.bidders

  writes-here : (out : List ℕ) → writes r.items r.bidders (closing_length r.items r.bidders) (length out) ≡ not (too_few r out)
  writes-here out =
      writes-by r.items r.bidders long (length out) true (few-make r.items r.bidders (items-range r t.counts).1 (bidders-placed r t.counts))
      ∙ go (lt-or-le (length out) long)
    where
      go : (length out < long) ⊎ (long ≤ length out) → leb long (length out) ≡ not (ltb (length out) long)
      go (inl l) = lt-leb long (length out) l ∙ sym (ap not (lt-ltb (length out) long l))
      go (inr l) = le-leb long (length out) l ∙ sym (ap not (le-ltb (length out) long l))

  pub told : (out : List ℕ) (b : Bool) → b ≡ writes r.items r.bidders (closing_length r.items r.bidders) (length out) → b ≡ not (too_few r out)
  told out b e = e ∙ writes-here out

  pub left : (out options after : List ℕ) → options ≡ places 64 (names_of r)
      → after ≡ after_writing r.items r.bidders (closing_sheet r.items r.bidders r.raised r.lowered r.prices options) out
      → after ≡ cond (too_few r out) out (written_to out (sheet_of r))
  left out options after q e =
      e
      ∙ ap (λ (x : List ℕ). after_writing r.items r.bidders x out) (ap (closing_sheet r.items r.bidders r.raised r.lowered r.prices) q ∙ sheet-here)
      ∙ sym (afterwards r.items r.bidders (sheet_of r) long sheet-long out (not (too_few r out)) (writes-here out))
      ∙ turned (too_few r out)
    where
      sheet-long : length (sheet_of r) ≡ closing_length r.items r.bidders
      sheet-long = unfold sheet_of in closing-length r.items r.bidders r.raised r.lowered r.prices (names_of r)

      turned : (b : Bool) → cond (not b) (written_to out (sheet_of r)) out ≡ cond b out (written_to out (sheet_of r))
      turned true = refl
      turned false = refl

-- ---- the number, and the bytes

module _ (r : Auction) (out : List ℕ) where
  refused-by : (x : ℕ) → suc x ≡ read_number r out → (suc x ≡ read_number r out) × (out ≡ read_bytes r out)
  unfolding read_bytes
  refused-by x e = (e, ap (λ (y : ℕ). elim y [ zero ↦ written_to out (sheet_of r) | suc j ↦ out ]) e)

  pub read-11 : well_formed r ≡ false → (11 ≡ read_number r out) × (out ≡ read_bytes r out)
  read-11 e = refused-by 10 (unfold read_number in sym (given 11 (not (well_formed r)) _ (ap not e)))

  module _ (w : well_formed r ≡ true) where
    pub read-15 : is_closed r.phase ≡ false → (15 ≡ read_number r out) × (out ≡ read_bytes r out)
    read-15 e = refused-by 14 (unfold read_number in sym (passed 11 (not (well_formed r)) _ (ap not w) ∙ given 15 (not (is_closed r.phase)) _ (ap not e)))

    module _ (c : is_closed r.phase ≡ true) where
      last : first (on 3 (too_few r out) ∷ []) ≡ read_number r out
      unfolding read_number
      last = sym (passed 11 (not (well_formed r)) _ (ap not w) ∙ passed 15 (not (is_closed r.phase)) _ (ap not c))

      pub read-3 : (after : List ℕ) → after ≡ cond (too_few r out) out (written_to out (sheet_of r)) → too_few r out ≡ true → (3 ≡ read_number r out) × (after ≡ read_bytes r out)
      read-3 after q e =
          let p = refused-by 2 (sym (given 3 (too_few r out) [] e) ∙ last) in
          (p.0, q ∙ ap (λ (b : Bool). cond b out (written_to out (sheet_of r))) e ∙ p.1)

      pub read-on : (after : List ℕ) → after ≡ cond (too_few r out) out (written_to out (sheet_of r)) → too_few r out ≡ false → (0 ≡ read_number r out) × (after ≡ read_bytes r out)
      unfolding read_bytes
      read-on after q e =
          let z : 0 ≡ read_number r out = sym (passed 3 (too_few r out) [] e ∙ (unfold first in refl)) ∙ last in (
            z,
            q ∙ ap (λ (b : Bool). cond b out (written_to out (sheet_of r))) e ∙ ap (λ (y : ℕ). elim y [ zero ↦ written_to out (sheet_of r) | suc j ↦ out ]) z,
          )
