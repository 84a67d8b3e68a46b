-- The sheet of reasons says each round's reason whole: reading a line gives the round's number, its kind, its items and its bidders, of which the digits cut
-- nothing off. Assumes nothing.
use Prim.Native.Nat.{ℕ, ◌+◌, ◌*◌, ◌^◌, ◌<◌}
use mathlib.Core.Path.{◌≡◌, sym, subst}
use mathlib.Core.List.{List, ◌++◌}
use native.Mathlib.Omega.{arith}
use native.Mathlib.Nat.{zero-add, lt_of_lt_of_le}
use lib.ListN.{length}
use lib.Pow.{pow_mono}
use Rattle.digits.specs.Digits.{hex}
use Rattle.digits.proofs.Digits.{hex-length}
use Rattle.digits.proofs.Stands.{Stands, itself, front, back}
use Rattle.digits.proofs.Numbers.{number-at}
use Rattle.lines.specs.Lines.{newline}
use Rattle.lines.proofs.Line.{ends, each_stands}
use Rattle.rule.specs.Sheet.{Sheet}
use Rattle.rule.specs.Closing.{Closing}
use Rattle.rule.specs.Reasons.{Reason, reason_at, round_count}
use Rattle.rule.proofs.Limits.{Limits, limits}
use Rattle.rule.proofs.Reasons.{path-small, count_most}
use Rattle.sheet.specs.Contents.{bid_sheet_refusal}
use Rattle.sheet.specs.Accepted.{sheet_in}
use Rattle.reasons.specs.Sheets.{reason_line, reason_sheet, reasons_in, LineSays}
use Rattle.reasons.proofs.Lines.{two-long, three-long, four-long, line-long, line_of}
use Rattle.reasons.proofs.Answers.{by-sheet, accepted-promised}

-- what stands behind the first c bytes
behind : (bytes : List ℕ) (at c : ℕ) (xs ys : List ℕ) → length xs ≡ c → Stands bytes at (xs ++ ys) → Stands bytes (at + c) ys
behind bytes at c xs ys e s = subst (λ (j : ℕ). Stands bytes (at + j) ys) e (back bytes at xs ys s)

-- a line whose numbers have room in their digits is read as it was written
line-says : (bytes : List ℕ) (at number : ℕ) (r : Reason) → number < 16 ^ 4 → r.kind < 16 ^ 2 → r.items < 16 ^ 8 → r.bidders < 16 ^ 16
    → Stands bytes at (reason_line number r) → LineSays bytes at number r
unfolding reason_line
line-says bytes at number r ln lk ls lw whole =
    record {
      number_is = number-at bytes 4 at number ln (front bytes at a b s₂);
      kind = number-at bytes 2 (at + 4) r.kind lk (behind bytes at 4 a b (hex-length 4 number) s₂);
      items = number-at bytes 8 (at + 6) r.items ls (behind bytes at 6 (a ++ b) c (two-long number r.kind) s₃);
      bidders = number-at bytes 16 (at + 14) r.bidders lw (behind bytes at 14 (a ++ b ++ c) d (three-long number r.kind r.items) s₄);
      ends = ends bytes (at + 30) (behind bytes at 30 (a ++ b ++ c ++ d) newline (four-long number r.kind r.items r.bidders) whole);
    }
  where
    a : List ℕ
    a = hex 4 number

    b : List ℕ
    b = hex 2 r.kind

    c : List ℕ
    c = hex 8 r.items

    d : List ℕ
    d = hex 16 r.bidders

    s₄ : Stands bytes at (a ++ b ++ c ++ d)
    s₄ = front bytes at (a ++ b ++ c ++ d) newline whole

    s₃ : Stands bytes at (a ++ b ++ c)
    s₃ = front bytes at (a ++ b ++ c) d s₄

    s₂ : Stands bytes at (a ++ b)
    s₂ = front bytes at (a ++ b) c s₃

-- the line of round k + 1 stands at byte 31 k
line-stands : (s : Sheet) (k : ℕ) → k < round_count s → Stands (reason_sheet s) (31 * k) (line_of s k)
unfolding reason_sheet
line-stands s k l =
    subst (λ (j : ℕ). Stands (reason_sheet s) j (line_of s k)) (zero-add (31 * k))
    (each_stands (reason_sheet s) 31 (round_count s) (line_of s) (λ j. line-long (j + 1) (reason_at s j)) 0 (itself (reason_sheet s)) k l)

-- 4 digits have room for 8,190 rounds, 2 for the kind, 8 for 32 items and 16 for 64 bidders
pub read_back : (s : Sheet) → Limits s → Closing s → (k : ℕ) → k < round_count s → LineSays (reason_sheet s) (31 * k) (k + 1) (reason_at s k)
read_back s lim c k l =
    let w = path-small s k in
    line-says (reason_sheet s) (31 * k) (k + 1) (reason_at s k) (omega (arith, l, count_most s c)) (omega (arith, w.kind))
    (lt_of_lt_of_le w.items (pow_mono {j = 32} lim.max_items)) (lt_of_lt_of_le w.bidders (pow_mono {j = 64} lim.max_bidders)) (line-stands s k l)

-- and so they are read from the answer to accepted bytes
pub read-accepted : (bytes : List ℕ) → bid_sheet_refusal bytes ≡ 0 → (k : ℕ) → k < round_count (sheet_in bytes)
    → LineSays (reasons_in bytes) (31 * k) (k + 1) (reason_at (sheet_in bytes) k)
read-accepted bytes z k l =
    let p = accepted-promised bytes z in
    subst (λ (text : List ℕ). LineSays text (31 * k) (k + 1) (reason_at (sheet_in bytes) k)) (sym (by-sheet bytes z))
    (read_back (sheet_in bytes) (limits (sheet_in bytes) p.within) p.closing k l)
