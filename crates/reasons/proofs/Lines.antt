-- A round's line, number by number, and the lines one after the other. Assumes nothing.
use Prim.Native.Nat.{ℕ, ◌+◌, ◌*◌, ◌/◌, ◌%◌}
use mathlib.Core.Path.{◌≡◌, sym, ap, ◌∙◌}
use mathlib.Core.List.{List, ◌++◌, append_assoc}
use native.Mathlib.Omega.{arith}
use native.Mathlib.Nat.{zero-add}
use lib.ListN.{length, set, length-append}
use lib.Seq.{sets}
use Rattle.digits.specs.Digits.{hex}
use Rattle.digits.proofs.Digits.{hex-length}
use Rattle.digits.proofs.Halves.{hex-halves}
use Rattle.lines.specs.Lines.{newline, joined}
use Rattle.lines.proofs.Lengths.{joined_length, newline-length}
use Rattle.lines.proofs.Stores.{sets_then, one_more}
use Rattle.rule.specs.Sheet.{Sheet}
use Rattle.rule.specs.Reasons.{Reason, reason_at, round_count}
use Rattle.reasons.specs.Sheets.{reason_line, reason_sheet}

-- ---- one line

-- where its second, third, fourth and last part end
pub two-long : (n k : ℕ) → length (hex 4 n ++ hex 2 k) ≡ 6
two-long n k = omega (arith, length-append (hex 4 n) (hex 2 k), hex-length 4 n, hex-length 2 k)

pub three-long : (n k s : ℕ) → length (hex 4 n ++ hex 2 k ++ hex 8 s) ≡ 14
three-long n k s = omega (arith, length-append (hex 4 n ++ hex 2 k) (hex 8 s), two-long n k, hex-length 8 s)

pub four-long : (n k s w : ℕ) → length (hex 4 n ++ hex 2 k ++ hex 8 s ++ hex 16 w) ≡ 30
four-long n k s w = omega (arith, length-append (hex 4 n ++ hex 2 k ++ hex 8 s) (hex 16 w), three-long n k s, hex-length 16 w)

pub line-long : (n : ℕ) (r : Reason) → length (reason_line n r) ≡ 31
unfolding reason_line
line-long n r =
    omega (
      arith,
      length-append (hex 4 n ++ hex 2 r.kind ++ hex 8 r.items ++ hex 16 r.bidders) newline,
      four-long n r.kind r.items r.bidders,
      newline-length,
    )

-- what stands from a place on, and what was put right behind it
then : (out before after vs ws : List ℕ) (at j : ℕ) → before ≡ sets out at vs → at + length vs ≡ j → after ≡ sets before j ws → after ≡ sets out at (vs ++ ws)
then out before after vs ws at j h e g = g ∙ ap (λ (r : List ℕ). sets r j ws) h ∙ sets_then out at j vs ws e

-- the code's five numbers and the line's end
pub line-put : (out a b c d e : List ℕ) (at n k s w : ℕ) → a ≡ sets out at (hex 4 n) → b ≡ sets a (at + 4) (hex 2 k) → c ≡ sets b (at + 6) (hex 8 s)
    → d ≡ sets c (at + 14) (hex 8 (w / 4294967296)) → e ≡ sets d (at + 22) (hex 8 (w % 4294967296))
    → set e (at + 30) 10 ≡ sets out at (reason_line n (record { kind = k; items = s; bidders = w }))
unfolding reason_line newline
line-put out a b c d e at n k s w ea eb ec ed ee =
    ap (λ (r : List ℕ). set r (at + 30) 10) e-is ∙ sets_then out at (at + 30) (front ++ high ++ low) newline (omega (arith, l₅))
    ∙ ap (λ (vs : List ℕ). sets out at (vs ++ newline)) (append_assoc front high low ∙ ap (λ (vs : List ℕ). front ++ vs) (hex-halves w))
  where
    front : List ℕ
    front = hex 4 n ++ hex 2 k ++ hex 8 s

    high : List ℕ
    high = hex 8 (w / 4294967296)

    low : List ℕ
    low = hex 8 (w % 4294967296)

    l₄ : length (front ++ high) ≡ 22
    l₄ = omega (arith, length-append front high, three-long n k s, hex-length 8 (w / 4294967296))

    l₅ : length (front ++ high ++ low) ≡ 30
    l₅ = omega (arith, length-append (front ++ high) low, l₄, hex-length 8 (w % 4294967296))

    b-is : b ≡ sets out at (hex 4 n ++ hex 2 k)
    b-is = then out a b (hex 4 n) (hex 2 k) at (at + 4) ea (omega (arith, hex-length 4 n)) eb

    c-is : c ≡ sets out at front
    c-is = then out b c (hex 4 n ++ hex 2 k) (hex 8 s) at (at + 6) b-is (omega (arith, two-long n k)) ec

    d-is : d ≡ sets out at (front ++ high)
    d-is = then out c d front high at (at + 14) c-is (omega (arith, three-long n k s)) ed

    e-is : e ≡ sets out at (front ++ high ++ low)
    e-is = then out d e (front ++ high) low at (at + 22) d-is (omega (arith, l₄)) ee

-- ---- one line after the other

module _ (s : Sheet) where
  -- the line of round k + 1
  abbrev pub line_of : ℕ → List ℕ
  line_of k = reason_line (k + 1) (reason_at s k)

  pub lines_long : (k : ℕ) → length (joined k line_of) ≡ 31 * k
  lines_long k = joined_length k 31 line_of (λ j. line-long (j + 1) (reason_at s j))

  pub sheet-long : length (reason_sheet s) ≡ 31 * round_count s
  unfolding reason_sheet
  sheet-long = lines_long (round_count s)

  pub lines_next : (out before after : List ℕ) (k : ℕ) → before ≡ sets out 0 (joined k line_of) → after ≡ sets before (31 * k) (line_of k)
      → after ≡ sets out 0 (joined (k + 1) line_of)
  lines_next out before after k h e =
      one_more out 0 k 31 line_of (lines_long k) before h after (e ∙ ap (λ (j : ℕ). sets before j (line_of k)) (sym (zero-add (31 * k))))
