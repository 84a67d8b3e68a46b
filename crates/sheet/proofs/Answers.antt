-- The answer to a bid sheet: the closing sheet, or the number's line. Assumes nothing.
use Prim.Native.Nat.{ℕ, ◌≤◌, ◌<◌}
use native.Mathlib.Omega.{arith}
use borrow.Author.Tests.{lt-ltb, le-ltb}
use mathlib.Core.Path.{◌≡◌, sym, ap, ◌∙◌}
use mathlib.Core.Bool.{Bool, cond}
use mathlib.Core.List.{List, []}
use lib.Dec.{ltb}
use lib.ListN.{length, take, drop, length-append}
use lib.Seq.{sets, length-take-le}
use Rattle.lines.specs.Lines.{number_line, written_to}
use Rattle.lines.proofs.Numbered.{number-long, enough}
use Rattle.lines.proofs.Stores.{sets-front}
use Rattle.sheet.specs.Close.{bid_sheet_of, sheet_refusal, closing_of, by_number, closed_to, answer_of}
use Rattle.sheet.specs.Steps.{Closed}
use Rattle.std.specs.Prelude.{Result, Ok, Err}
use Rattle.sheet.proofs.Ends.{by-some, was_accepted, was_refused}

module _ (bytes out : List ℕ) (r : Result ℕ ℕ) (after : List ℕ) (closed : Closed bytes out r after) (room : 3 ≤ length out) where
  answered : answer_of bytes (length out) ≡ by_number (sheet_refusal bytes (length out)) (closing_of (bid_sheet_of bytes)) (number_line (sheet_refusal bytes (length out)))
  unfolding answer_of
  answered =
      ap (λ (t : Bool). cond t [] (by_number (sheet_refusal bytes (length out)) (closing_of (bid_sheet_of bytes)) (number_line (sheet_refusal bytes (length out)))))
      (le-ltb (length out) 3 room)

  -- with no number, the closing sheet is the answer
  module _ (long : ℕ) (e : r ≡ Ok long) where
    was : (sheet_refusal bytes (length out) ≡ 0) × (long ≡ length (closing_of (bid_sheet_of bytes)))
    was = was_accepted (sheet_refusal bytes (length out)) _ long (sym e ∙ closed.outcome)

    none-given : sheet_refusal bytes (length out) ≡ 0
    none-given = was.0

    closing-is : answer_of bytes (length out) ≡ closing_of (bid_sheet_of bytes)
    closing-is = answered ∙ ap (λ (k : ℕ). by_number k (closing_of (bid_sheet_of bytes)) (number_line (sheet_refusal bytes (length out)))) none-given

    pub closing_long : long ≡ length (answer_of bytes (length out))
    closing_long = was.1 ∙ ap length (sym closing-is)

    pub closing-lent : after ≡ written_to out (answer_of bytes (length out))
    unfolding closed_to
    closing-lent =
        closed.lent
        ∙ ap (λ (k : ℕ). by_number k (written_to out (closing_of (bid_sheet_of bytes))) out) none-given
        ∙ ap (written_to out) (sym closing-is)

  -- with a number, its line is
  module _ (why : ℕ) (e : r ≡ Err why) where
    given : (sheet_refusal bytes (length out) ≡ why) × (why ≡ 0 → ⊥)
    given = was_refused (sheet_refusal bytes (length out)) why _ (sym e ∙ closed.outcome)

    given-one : sheet_refusal bytes (length out) ≡ 0 → ⊥
    given-one z = given.1 (sym given.0 ∙ z)

    line-is : answer_of bytes (length out) ≡ number_line why
    line-is = answered ∙ by-some (sheet_refusal bytes (length out)) given-one _ _ ∙ ap number_line given.0

    as_before : after ≡ out
    unfolding closed_to
    as_before = closed.lent ∙ by-some (sheet_refusal bytes (length out)) given-one _ _

    pub line-long : 3 ≡ length (answer_of bytes (length out))
    line-long = sym (ap length line-is ∙ number-long why)

    pub line-lent : (last : List ℕ) → last ≡ cond (ltb (length after) 3) after (sets after 0 (number_line why)) → last ≡ written_to out (answer_of bytes (length out))
    line-lent last l =
        l
        ∙ ap (λ (x : List ℕ). cond (ltb (length x) 3) x (sets x 0 (number_line why))) as_before
        ∙ enough 3 out (sets out 0 (number_line why)) room
        ∙ sets-front out (number_line why) (omega (arith, number-long why))
        ∙ ap (written_to out) (sym line-is)

-- no room for any answer
pub no_answer : (bytes : List ℕ) (room : ℕ) → room < 3 → answer_of bytes room ≡ []
unfolding answer_of
no_answer bytes room l =
    ap (λ (t : Bool). cond t [] (by_number (sheet_refusal bytes room) (closing_of (bid_sheet_of bytes)) (number_line (sheet_refusal bytes room)))) (lt-ltb room 3 l)

pub nothing_lent : (bytes out : List ℕ) → length out < 3 → out ≡ written_to out (answer_of bytes (length out))
unfolding written_to
nothing_lent bytes out l = ap (written_to out) (sym (no_answer bytes (length out) l))

-- the bytes that were written are there
pub answer-fits : (k : ℕ) (answer out last : List ℕ) → k ≡ length answer → last ≡ written_to out answer → (k ≤ length last) × (k ≡ length (take k last))
unfolding written_to
answer-fits k answer out last e f =
    let l : k ≤ length last = omega (arith, ap length f, length-append answer (drop (length answer) out)) in
    (l, sym (length-take-le k last l))
