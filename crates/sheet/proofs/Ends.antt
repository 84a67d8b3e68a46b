-- How closing a sheet ends: turned down, or by the sealed auction. Assumes nothing.
use Prim.Native.Nat.{ℕ, zero, suc, ◌*◌, ◌≤◌, ◌<◌}
use mathlib.Core.Path.{◌≡◌, refl, sym, ap, ◌∙◌}
use mathlib.Core.Bool.{true, false}
use mathlib.Core.List.{List}
use native.Mathlib.Omega.{arith}
use Rattle.std.specs.Prelude.{Option, None, Some, Result, Ok, Err, ok_or}
use lib.Dec.{ltb}
use lib.ListN.{length}
use borrow.Author.Tests.{lt-ltb, le-ltb}
use Rattle.rule.specs.Refusal.{bad_items, bad_bidders}
use Rattle.rule.proofs.Refusal.{passed, given}
use Rattle.lines.specs.Lines.{sealed_sheet, sealed_length, written_to, writes, after_writing}
use Rattle.lines.proofs.Lengths.{sealed-length}
use Rattle.lines.proofs.Written.{afterwards}
use Rattle.auction.specs.Sealed.{sealed_of}
use Rattle.auction.specs.declared.Closing.{Closing}
use Rattle.sheet.specs.BidSheet.{BidSheet}
use Rattle.sheet.specs.Close.{bid_sheet_of, sheet_refusal, closing_of, by_number, closed_to}
use Rattle.sheet.specs.Steps.{read_refusal, unless_refused, ClosedRead, Closed}
use Rattle.sheet.proofs.Called.{by-amounts-alone}

pub by-some : {A : Type 0} (why : ℕ) → (why ≡ 0 → ⊥) → (a b : A) → by_number why a b ≡ b
by-some zero h a b = absurd (h refl)
by-some (suc why) h a b = refl

-- ---- a value where no number was given, and the number where one was

pub refused-with : {A : Type 0} (k why : ℕ) (a : A) → (why ≡ 0 → ⊥) → k ≡ why → Err why ≡ unless_refused k a
refused-with zero why a ne e = absurd (ne (sym e))
refused-with (suc k) why a ne e = cc

pub accepted-as : {A : Type 0} (k : ℕ) (a b : A) → k ≡ 0 → b ≡ a → Ok b ≡ unless_refused k a
accepted-as zero a b z e = cc
accepted-as (suc k) a b z e = absurd (omega arith)

pub was_accepted : {A : Type 0} (k : ℕ) (a b : A) → Ok b ≡ unless_refused k a → (k ≡ 0) × (b ≡ a)
was_accepted zero a b e = (refl, cc)
was_accepted (suc k) a b e = absurd (cc)

pub was_refused : {A : Type 0} (k why : ℕ) (a : A) → Err why ≡ unless_refused k a → (k ≡ why) × (why ≡ 0 → ⊥)
was_refused zero why a e = absurd (cc)
was_refused (suc k) why a e = let f : suc k ≡ why = cc in (f, λ z. omega arith)

-- none where 6 is given for none
pub six-for-none : (o : Option ℕ) (why : ℕ) → Err why ≡ ok_or o 6 → why ≡ 6
six-for-none None why e = cc
six-for-none (Some x) why e = absurd (cc)

-- ---- a bid sheet that is closed

-- a number is given, and nothing is written
pub turned-down : (bytes out : List ℕ) (why : ℕ) → (why ≡ 0 → ⊥) → sheet_refusal bytes (length out) ≡ why → Closed bytes out (Err why) out
unfolding closed_to
turned-down bytes out why ne e =
    record {
      outcome = refused-with (sheet_refusal bytes (length out)) why _ ne e;
      lent = sym (by-some (sheet_refusal bytes (length out)) (λ z. ne (sym e ∙ z)) (written_to out (closing_of (bid_sheet_of bytes))) out);
    }

-- a sheet that was read comes out as its bytes do
pub by_read : (bytes out : List ℕ) (r : Result ℕ ℕ) (after : List ℕ) → sheet_refusal bytes (length out) ≡ read_refusal (bid_sheet_of bytes) (length out)
    → ClosedRead (bid_sheet_of bytes) out r after → Closed bytes out r after
unfolding closed_to
by_read bytes out r after e c =
    record {
      outcome = c.outcome ∙ ap (λ (k : ℕ). unless_refused k (length (closing_of (bid_sheet_of bytes)))) (sym e);
      lent = c.lent ∙ ap (λ (k : ℕ). by_number k (written_to out (closing_of (bid_sheet_of bytes))) out) (sym e);
    }

module _ (m n : ℕ) (start bids out : List ℕ) where
  abbrev sheet : BidSheet
  sheet = record { items = m; bidders = n; start = start; bids = bids }

  pub no_room : length out < sealed_length m n → read_refusal sheet (length out) ≡ 3
  unfolding read_refusal
  no_room l = given 3 (ltb (length out) (sealed_length m n)) _ (lt-ltb (length out) (sealed_length m n) l)

  -- with room, the sealed auction decides
  pub by-sealed : bad_items m ≡ false → bad_bidders n ≡ false → length start ≡ m → length bids ≡ n * m → sealed_length m n ≤ length out
      → read_refusal sheet (length out) ≡ (sealed_of m n start bids).refusal
  unfolding read_refusal
  by-sealed gi gb ls ld l =
      passed 3 (ltb (length out) (sealed_length m n)) _ (le-ltb (length out) (sealed_length m n) l) ∙ sym (by-amounts-alone m n start bids gi gb ls ld)

  pub not_written : (why : ℕ) → 0 < why → read_refusal sheet (length out) ≡ why → ClosedRead sheet out (Err why) out
  not_written why l e =
      record {
        outcome = refused-with (read_refusal sheet (length out)) why _ (λ z. omega arith) e;
        lent = sym (by-some (read_refusal sheet (length out)) (λ z. omega arith) (written_to out (closing_of sheet)) out);
      }

  pub is-written : (c : Closing) (long : ℕ) (after : List ℕ) → read_refusal sheet (length out) ≡ 0 → c ≡ sealed_of m n start bids
      → long ≡ sealed_length m n → writes m n (sealed_length m n) (length out) ≡ true
      → after ≡ after_writing m n (sealed_sheet m n c.raised c.lowered c.prices c.assignment c.gains) out → ClosedRead sheet out (Ok long) after
  unfolding closing_of
  is-written c long after e is g t w =
      let text : Closing → List ℕ = λ x. sealed_sheet m n x.raised x.lowered x.prices x.assignment x.gains in
      let as_long : (x : Closing) → length (text x) ≡ sealed_length m n = λ x. sealed-length m n x.raised x.lowered x.prices x.assignment x.gains in
      record {
        outcome = accepted-as (read_refusal sheet (length out)) _ long e (g ∙ sym (as_long (sealed_of m n start bids)));
        lent =
            w
            ∙ sym (afterwards m n (text c) (sealed_length m n) (as_long c) out true t)
            ∙ ap (λ (x : Closing). written_to out (text x)) is
            ∙ ap (λ (k : ℕ). by_number k (written_to out (closing_of sheet)) out) (sym e);
      }
