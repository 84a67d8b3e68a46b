-- 6 is given to bytes that are no bid sheet, and to no others. Assumes nothing.
use Prim.Native.Nat.{ℕ, suc}
use mathlib.Core.Path.{◌≡◌, refl, ap}
use mathlib.Core.Bool.{Bool, true, false, ◌||◌}
use mathlib.Core.List.{List, [], ◌∷◌}
use Rattle.std.specs.Prelude.{Some}
use native.Mathlib.Omega.{arith}
use Rattle.rule.specs.Refusal.{Refusal, on, first}
use Rattle.rule.proofs.Refusal.{other}
use Rattle.sheet.specs.BidSheet.{BidSheet, items_in, bidders_in, read_sheet}
use Rattle.sheet.specs.Writing.{bid_sheet, Writable}
use Rattle.sheet.specs.Close.{is_none, bid_sheet_of, sheet_refusal}
use Rattle.sheet.proofs.Order.{four, four-read}
use Rattle.sheet.proofs.ReadWritten.{parts_are, read_written, written_read}
use Rattle.sheet.proofs.Readable.{readable}

-- a number whose condition fails
skipped : (k n : ℕ) (a : Bool) (rest : List Refusal) → a ≡ false → (first rest ≡ k → ⊥) → first (on n a ∷ rest) ≡ k → ⊥
unfolding first
skipped k n true rest h g e = absurd (let z : ◌≡◌ {A = ℕ} 0 1 = cc in let f : ⊥ = omega arith in f)
skipped k n false rest h g e = g e

pub none_left : (k : ℕ) → first [] ≡ suc k → ⊥
unfolding first
none_left k e = omega arith

-- with none of the three numbers that are given before the amounts are looked at, there is none
none_before : (a b c d : Bool) (rest : List Refusal)
    → (first (four a b c d rest) ≡ 1 → ⊥) → (first (four a b c d rest) ≡ 2 → ⊥) → (first (four a b c d rest) ≡ 6 → ⊥) → first (four a b c d []) ≡ 0
unfolding first
none_before true b c d rest one two six = absurd (six refl)
none_before false true c d rest one two six = absurd (one refl)
none_before false false true d rest one two six = absurd (two refl)
none_before false false false true rest one two six = absurd (six refl)
none_before false false false false rest one two six = refl

module _ (bytes : List ℕ) (room : ℕ) where
  -- what is read is not turned down with 6
  pub read_no_six : (s : BidSheet) → read_sheet bytes ≡ Some s → sheet_refusal bytes room ≡ 6 → ⊥
  unfolding sheet_refusal
  read_no_six s e six =
      let p = parts_are bytes s e in
      skipped 6 6 (is_none (items_in bytes) || is_none (bidders_in bytes)) _ (four-read bytes s.items p.0 s.bidders p.1)
      (other 1 6 _ _ (λ z. omega arith)
      (other 2 6 _ _ (λ z. omega arith)
      (skipped 6 6 (is_none (read_sheet bytes)) _ (ap is_none e)
      (other 3 6 _ _ (λ z. omega arith) (other 4 6 _ _ (λ z. omega arith) (other 5 6 _ [] (λ z. omega arith) (none_left 5)))))))
      six

  -- bytes that are not turned down with 6, nor before that, are the sheet that was read
  pub not_six_read : (sheet_refusal bytes room ≡ 1 → ⊥) → (sheet_refusal bytes room ≡ 2 → ⊥) → (sheet_refusal bytes room ≡ 6 → ⊥)
      → (read_sheet bytes ≡ Some (bid_sheet_of bytes)) × Writable (bid_sheet_of bytes) × (bytes ≡ bid_sheet (bid_sheet_of bytes))
  unfolding sheet_refusal
  not_six_read one two six =
      let r = (readable bytes (none_before _ _ _ _ _ one two six)).read in
      let w = written_read bytes (bid_sheet_of bytes) r in
      (r, w.0, w.1)

-- a sheet that is written is not turned down with 6
pub written_no_six : (s : BidSheet) → Writable s → (room : ℕ) → sheet_refusal (bid_sheet s) room ≡ 6 → ⊥
written_no_six s w room = read_no_six (bid_sheet s) room s (read_written s w)
